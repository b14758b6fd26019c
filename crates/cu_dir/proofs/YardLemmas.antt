-- What the calls of a yard over a folder in common do to what a pass shows.
use Rattle.std.proofs.Common.{◌≡◌, ◌⊎◌, inl, inr, ℕ, Bool, true, false, IsTrue, ◌&&◌, ◌||◌, if◌then◌else◌, List, [], Option, Some, None, refl, sym, ◌∙◌}
use Rattle.std.specs.Prelude.{Result, Ok, Err}
use Rattle.std.specs.declared.io.Error.{Error}
use Rattle.cu_store.specs.Held.{Contents, Gets, Holds}
use Rattle.cu_store.specs.Share.{Lent}
use Rattle.cu_store.specs.Steps.{NoChange, PutOf, OrLate, Lands}
use Rattle.cu_store.specs.Yard.{is_made, known_to_hold}
use Rattle.cu_store.specs.declared.depot.Got.{Got}
use Rattle.cu_store.specs.declared.depot.Got.TheVariants.{Absent, Held}
use Rattle.cu_store.specs.declared.faults.DepotFault.{DepotFault}
use Rattle.cu_store.specs.declared.yard.Spec.{Spec}
use Rattle.cu_dir.specs.Common.{KnowsOf, LearnsAt, IsUnion, is_there, seen_among, told_with}
use Rattle.cu_dir.specs.Depot.{AnswersAs}
use Rattle.cu_dir.specs.Tree.{ReadsFile}
use Rattle.cu_dir.specs.YardLaws.{there}

bool_or : (b : Bool) → (b ≡ true) ⊎ (b ≡ false)
bool_or true = inl refl
bool_or false = inr refl

front_of : (b c : Bool) → (b && c) ≡ true → b ≡ true
front_of true c h = refl
front_of false c h = h

both_of : (b c : Bool) → b ≡ true → c ≡ true → (b && c) ≡ true
both_of b c one two = rw one two

-- what a pass shows under a key: the promise where it was seen, else the entry
abbrev shows : Lent → Contents → Contents → Contents
shows l entries known key = if seen_among l.specs (Some known) key then l.promise key else entries key

-- what is known to lie under a made key was seen
sees : (l : Lent) (known : Contents) (key bytes : List ℕ) → IsTrue (is_made l.specs key) → known key ≡ Some bytes → seen_among l.specs (Some known) key ≡ true
sees l known key bytes made is = both_of (is_made l.specs key) (is_there (known key)) made (rw is refl)

-- a key that may be asked for shows what is known to lie there
shows_known : (l : Lent) (entries known : Contents) (key : List ℕ) → KnowsOf l (Some entries) (Some known)
    → (IsTrue (is_made l.specs key) → IsTrue (seen_among l.specs (Some known) key)) → shows l entries known key ≡ known key
shows_known l entries known key knows asked =
    elim (bool_or (is_made l.specs key)) [
      | inl made ↦ let seen : seen_among l.specs (Some known) key ≡ true = asked made in
          let x : (x : List ℕ) × (known key ≡ Some x) = there (is_made l.specs key) (known key) seen in
          rw seen (knows.made key x.0 made x.1 ∙ sym x.1)
      | inr not ↦ let unseen : seen_among l.specs (Some known) key ≡ false = rw not refl in
          rw unseen (sym (knows.read key not))
    ]

pub get_got : (l : Lent) (entries known : Option Contents) (key buf : List ℕ) (answer : Result Got Error) (result : Result Got DepotFault)
    → KnowsOf l entries known → (IsTrue (is_made l.specs key) → IsTrue (seen_among l.specs known key))
    → ReadsFile known key buf answer → AnswersAs answer result
    → Gets (known_to_hold l.promise (seen_among l.specs known) entries) key buf result
get_got l None known key buf answer result knows asked read is = tt
get_got l (Some e) None key buf answer result knows asked read is = absurd knows.read
get_got l (Some e) (Some k) key buf (Ok Absent) result knows asked read is = rw is (shows_known l e k key knows asked ∙ read)
get_got l (Some e) (Some k) key buf (Ok (Held n)) result knows asked read is =
    rw is (read.0, shows_known l e k key knows asked ∙ read.1, read.2, read.3)
get_got l (Some e) (Some k) key buf (Err error) result knows asked read is = rw is tt

-- what was seen stays seen
pub seen_stays : (l : Lent) (asked : List ℕ) (old new : Option Contents) → LearnsAt l asked old new
    → (key : List ℕ) → IsTrue (seen_among l.specs old key) → IsTrue (seen_among l.specs new key)
seen_stays l asked None None learned key seen = refl
seen_stays l asked (Some old) (Some new) learned key seen =
    elim (learned key) [
      | inl same ↦ rw same seen
      | inr put ↦ sees l new key put.1.0 put.1.2 put.1.1
    ]
seen_stays l asked None (Some new) learned key seen = absurd learned
seen_stays l asked (Some old) None learned key seen = absurd learned

-- a call for a key that may be asked for leaves what is shown
pub get_lands : (l : Lent) (entries old new : Option Contents) (asked : List ℕ)
    → KnowsOf l entries old → LearnsAt l asked old new
    → (IsTrue (is_made l.specs asked) → IsTrue (seen_among l.specs old asked))
    → Lands (OrLate NoChange []) (known_to_hold l.promise (seen_among l.specs old) entries) (known_to_hold l.promise (seen_among l.specs new) entries)
get_lands l None old new asked knows learned may = tt
get_lands l (Some e) None new asked knows learned may = absurd knows.read
get_lands l (Some e) (Some old) None asked knows learned may = absurd learned
get_lands l (Some e) (Some old) (Some new) asked knows learned may = λ key.
    elim (learned key) [
      | inl same ↦ inl (rw same refl)
      | inr put ↦
          let before : seen_among l.specs (Some old) key ≡ true = rw put.0 (may (rw (← put.0) put.1.2)) in
          let after : seen_among l.specs (Some new) key ≡ true = sees l new key put.1.0 put.1.2 put.1.1 in
          inl (rw (before, after) refl)
    ]

-- a put shows nothing else but its bytes
pub put_lands : (l : Lent) (entries old new : Option Contents) (asked bytes : List ℕ)
    → KnowsOf l entries old → LearnsAt l asked old new → Holds (told_with entries l.promise) asked bytes
    → Lands (OrLate (PutOf asked bytes) []) (known_to_hold l.promise (seen_among l.specs old) entries) (known_to_hold l.promise (seen_among l.specs new) entries)
put_lands l None old new asked bytes knows learned promised = tt
put_lands l (Some e) None new asked bytes knows learned promised = absurd knows.read
put_lands l (Some e) (Some old) None asked bytes knows learned promised = absurd learned
put_lands l (Some e) (Some old) (Some new) asked bytes knows learned promised = λ key.
    elim (learned key) [
      | inl same ↦ inl (rw same refl)
      | inr put ↦
          let after : seen_among l.specs (Some new) key ≡ true = sees l new key put.1.0 put.1.2 put.1.1 in
          inr (inl (put.0, rw after (rw put.0 promised)))
    ]

pub put_seen : (l : Lent) (known : Option Contents) (key bytes : List ℕ) → Holds known key bytes → IsTrue (is_made l.specs key)
    → IsTrue (seen_among l.specs known key)
put_seen l None key bytes holds made = refl
put_seen l (Some known) key bytes holds made = sees l known key bytes made holds

pub put_stored : (l : Lent) (entries known : Option Contents) (key bytes : List ℕ)
    → IsTrue (seen_among l.specs known key) → Holds (told_with entries l.promise) key bytes
    → Holds (known_to_hold l.promise (seen_among l.specs known) entries) key bytes
put_stored l None known key bytes seen promised = tt
put_stored l (Some e) known key bytes seen promised = rw seen promised

apart_or : (made a b : Bool) → (made && (a || b)) ≡ ((made && a) || (made && b))
apart_or true a b = refl
apart_or false a b = refl

pub join_seen : (specs : List Spec) (a b both : Option Contents) (key : List ℕ) → IsUnion a b both
    → seen_among specs both key ≡ (seen_among specs a key || seen_among specs b key)
join_seen specs None None None key union = refl
join_seen specs (Some a) (Some b) (Some both) key union =
    rw ((union key).1) (apart_or (is_made specs key) (is_there (a key)) (is_there (b key)))
join_seen specs None None (Some both) key union = absurd union
join_seen specs None (Some b) both key union = absurd union
join_seen specs (Some a) None both key union = absurd union
join_seen specs (Some a) (Some b) None key union = absurd union
