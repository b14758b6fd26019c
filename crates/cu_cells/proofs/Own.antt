-- What a pass knows after parts of a call, and places of keys.
use Rattle.std.proofs.Common.{◌≡◌, ◌⊎◌, ℕ, zero, suc, ◌+◌, ◌<◌, ◌≤◌, min, Bool, true, false, IsTrue, ◌&&◌, ◌||◌, if◌then◌else◌, List, [], ◌∷◌, length, get_or, set, not, Option, Some, None, option_map, refl, sym, ap, ◌∙◌, subst, inl, inr, arith}
use Rattle.std.proofs.lemmas.Slice.Eq.{bytes_eq-Decides}
use Rattle.std.specs.Str.{bytes_eq}
use Rattle.std.specs.Option.{is_some}
use Rattle.cu_store.specs.Faults.{last_count}
use Rattle.cu_store.specs.Held.{Contents, Write}
use Rattle.cu_store.specs.Steps.{Changes, NoChange, PutOf, OrLate, Steps}
use Rattle.cu_store.specs.Yard.{bytes_under, is_served, is_made, Known, shown_by, IsLater}
use Rattle.cu_store.specs.Share.{KeysDiffer}
use Rattle.cu_store.specs.declared.yard.Spec.{Spec}
use Rattle.cu_store.proofs.Steps.{lands_same}
use Rattle.cu_cells.specs.Layout.{Laid, named_at, is_named_cell}
use Rattle.cu_cells.specs.Rule.{IsIn}
use Rattle.cu_cells.specs.Cells.{place_in, spec_key, has_number, is_seen_place, has_cell_in, entry_at, entries_in}
use Rattle.cu_cells.proofs.Found.{stands}
use Rattle.cu_cells.proofs.Gets.{is_in}
use Rattle.cu_cells.proofs.Puts.{seen_own, seen_other}
use Rattle.cu_cells.proofs.Texts.{none_true}

-- ---- places of keys

pub key_there : (ss : List Spec) (c : ℕ) (s : Spec) → c < length ss → get_or ss c s ≡ s → spec_key ss c ≡ s.key
key_there [] c s less at = absurd (omega arith)
key_there (t ∷ ts) zero s less at = ap (λ (x : Spec). x.key) at
key_there (t ∷ ts) (suc c) s less at = key_there ts c s (omega arith) at

pub key_found : (ss : List Spec) (key : List ℕ) (c : ℕ) → place_in ss key ≡ Some c → spec_key ss c ≡ key
key_found ss key c is =
    let here = stands ss key c is in
    key_there ss c here.spec here.less (here.at here.spec) ∙ (bytes_eq-Decides here.spec.key key).0 here.key

served_first : (b r : Bool) → r ≡ true → (b || r) ≡ true
served_first true r h = refl
served_first false r h = h

served_key : (ss : List Spec) (c : ℕ) → c < length ss → is_served ss (spec_key ss c) ≡ true
served_key [] c less = absurd (omega arith)
served_key (s ∷ ss) zero less = ap (λ b. b || is_served ss s.key) ((bytes_eq-Decides s.key s.key).1 refl)
served_key (s ∷ ss) (suc c) less = served_first (bytes_eq s.key (spec_key ss c)) (is_served ss (spec_key ss c)) (served_key ss c (omega arith))

other_first : (b : Bool) (s : Spec) (ss : List Spec) (key : List ℕ) → bytes_eq s.key key ≡ b → is_served ss s.key ≡ false → is_served ss key ≡ true → b ≡ false
other_first true s ss key is apart here = none_true (is_served ss s.key) apart (ap (is_served ss) ((bytes_eq-Decides s.key key).0 is) ∙ here)
other_first false s ss key is apart here = refl

pub place_own : (ss : List Spec) (c : ℕ) → KeysDiffer ss → c < length ss → place_in ss (spec_key ss c) ≡ Some c
place_own [] c differ less = absurd (omega arith)
place_own (s ∷ ss) zero differ less = ap (λ b. if b then Some 0 else option_map suc (place_in ss s.key)) ((bytes_eq-Decides s.key s.key).1 refl)
place_own (s ∷ ss) (suc c) differ less =
    ap (λ b. if b then Some 0 else option_map suc (place_in ss (spec_key ss c))) (other_first (bytes_eq s.key (spec_key ss c)) s ss (spec_key ss c) refl differ.0 (served_key ss c (omega arith)))
    ∙ ap (option_map suc) (place_own ss c differ.1 (omega arith))

-- ---- what is known

abbrev pub known_as : Laid → List ℕ → List (Option (List ℕ)) → ℕ → ℕ → Known
known_as l seen entries faults calls = record { promise = bytes_under l.promise; entries = Some (entries_in l entries); lacks = false; seen = has_cell_in l seen; faults = faults; calls = calls }

pub known_is : (a b : Laid) (s t : List ℕ) (e d : List (Option (List ℕ))) (faults calls : ℕ) → b ≡ a → t ≡ s → d ≡ e → known_as b t d faults calls ≡ known_as a s e faults calls
known_is a b s t e d faults calls laid seen entries = (λ k. known_as (laid k) (seen k) (entries k) faults calls)

pub known_but : (a b : Laid) (seen : List ℕ) (entries : List (Option (List ℕ))) (faults calls : ℕ) → b ≡ a → known_as b seen entries faults calls ≡ record (known_as a seen entries faults calls) { seen = has_cell_in b seen }
known_but a b seen entries faults calls laid = (λ k. record { promise = bytes_under (laid k).promise; entries = Some (entries_in (laid k) entries); lacks = false; seen = has_cell_in b seen; faults = faults; calls = calls })

-- a call that is counted changes nothing
pub counted_step : (k : Known) → Steps NoChange 1 1 (shown_by k) (shown_by (record k { calls = min (k.calls + 1) last_count }))
counted_step k = record {
  lands = lands_same (OrLate NoChange []) (shown_by k).held;
  late = λ key bytes among. absurd among;
  count = omega arith;
  calls = (omega arith, omega arith, omega arith);
  lacks = refl;
}

pub counted_later : (k : Known) (faults calls : ℕ) → IsLater k (record k { faults = faults; calls = calls })
counted_later k faults calls = record { yard = record { promise = refl; entries = refl; lacks = refl }; seen = λ key was. was }

-- the cell at a place was seen: its own key is known too
pub or_same : (a : Bool) → a ≡ (a || false)
or_same true = refl
or_same false = refl

or_yes : (a : Bool) → true ≡ (a || true)
or_yes true = refl
or_yes false = refl

seen_by : (l : Laid) (seen : List ℕ) (c : ℕ) (key own bytes : List ℕ) (b : Bool) → bytes_eq own key ≡ b → bytes_eq key own ≡ b → IsTrue (is_made l.specs own) → bytes_under l.promise own ≡ Some bytes → place_in l.specs own ≡ Some c
    → has_cell_in l (c ∷ seen) key ≡ (has_cell_in l seen key || b)
seen_by l seen c key own bytes true is turned made told at =
    ap (has_cell_in l (c ∷ seen)) (sym ((bytes_eq-Decides own key).0 is)) ∙ (seen_own l seen c own bytes made told at ∙ or_yes (has_cell_in l seen key))
seen_by l seen c key own bytes false is turned made told at = seen_other l seen c own key at turned ∙ or_same (has_cell_in l seen key)

pub seen_more : (l : Laid) (seen : List ℕ) (c : ℕ) (key own bytes : List ℕ) → IsTrue (is_made l.specs own) → bytes_under l.promise own ≡ Some bytes → place_in l.specs own ≡ Some c
    → has_cell_in l (c ∷ seen) key ≡ (has_cell_in l seen key || bytes_eq own key)
seen_more l seen c key own bytes made told at = seen_by l seen c key own bytes (bytes_eq own key) refl (Rattle.cu_cells.proofs.Texts.eq_turned key own) made told at

pub or_left : (a b : Bool) → IsTrue a → IsTrue (a || b)
or_left true b h = refl
or_left false b h = let e : false ≡ true = h in cc

own_true : (a b : Bool) → b ≡ true → (a || b) ≡ true
own_true true b h = refl
own_true false b h = h

changed_by : (promise entries : Contents) (key bytes other : List ℕ) (was now b : Bool) → now ≡ (was || b) → bytes_eq key other ≡ b → promise key ≡ Some bytes
    → ((if now then promise other else entries other) ≡ (if was then promise other else entries other)) ⊎ OrLate (PutOf key bytes) [] other (if now then promise other else entries other)
changed_by promise entries key bytes other was now true is same told =
    let e : key ≡ other = (bytes_eq-Decides key other).0 same in
    inr (inl (sym e, ap (λ b. if b then promise other else entries other) (is ∙ sym (or_yes was)) ∙ (ap promise (sym e) ∙ told)))
changed_by promise entries key bytes other was now false is same told = inl (ap (λ b. if b then promise other else entries other) (is ∙ sym (or_same was)))

-- the promised bytes of a key are put
pub put_step : (k n : Known) (entries : Contents) (key bytes : List ℕ) → n ≡ record k { seen = n.seen; calls = min (k.calls + 1) last_count } → k.entries ≡ Some entries
    → ((other : List ℕ) → n.seen other ≡ (k.seen other || bytes_eq key other)) → k.promise key ≡ Some bytes → Steps (PutOf key bytes) 1 1 (shown_by k) (shown_by n)
put_step k n entries key bytes is told seen promised =
    subst (λ (x : Known). Steps (PutOf key bytes) 1 1 (shown_by k) (shown_by x)) (sym is) (record {
      lands = rw told (λ other. changed_by k.promise entries key bytes other (k.seen other) (n.seen other) (bytes_eq key other) (seen other) refl promised);
      late = λ other b among. absurd among;
      count = omega arith;
      calls = (omega arith, omega arith, omega arith);
      lacks = refl;
    })

pub put_later : (k n : Known) (key : List ℕ) → n.promise ≡ k.promise → n.entries ≡ k.entries → n.lacks ≡ k.lacks → ((other : List ℕ) → n.seen other ≡ (k.seen other || bytes_eq key other)) → IsLater k n
put_later k n key promise entries lacks seen = record {
  yard = record { promise = promise; entries = entries; lacks = lacks };
  seen = λ other was. subst IsTrue (sym (seen other)) (or_left (k.seen other) (bytes_eq key other) was);
}

-- a call that failed changes nothing
pub failed_step : (W : Changes) (k n : Known) (faults : ℕ) → n ≡ record k { faults = faults; calls = min (k.calls + 1) last_count } → k.faults ≤ faults → Steps W 1 1 (shown_by k) (shown_by n)
failed_step W k n faults is more = subst (λ (x : Known). Steps W 1 1 (shown_by k) (shown_by x)) (sym is) (record {
  lands = lands_same (OrLate W []) (shown_by k).held;
  late = λ key bytes among. absurd among;
  count = more;
  calls = (omega arith, omega arith, omega arith);
  lacks = refl;
})

pub failed_later : (k n : Known) (faults calls : ℕ) → n ≡ record k { faults = faults; calls = calls } → IsLater k n
failed_later k n faults calls is = subst (IsLater k) (sym is) (counted_later k faults calls)

pub own_seen : (was : Bool) (key : List ℕ) → (was || bytes_eq key key) ≡ true
own_seen was key = own_true was (bytes_eq key key) ((bytes_eq-Decides key key).1 refl)

-- ---- taking

some_of : (o : Option (List ℕ)) → IsTrue (is_some o) → (bytes : List ℕ) × (o ≡ Some bytes)
some_of (Some bytes) h = (bytes, refl)
some_of None h = let e : false ≡ true = h in cc

second_of : (a b : Bool) → IsTrue (a && b) → IsTrue b
second_of true b h = h
second_of false b h = let e : false ≡ true = h in cc

named_bytes : (promise : List Write) (ss : List Spec) (c : ℕ) → IsTrue (named_at promise ss c) → (bytes : List ℕ) × (bytes_under promise (spec_key ss c) ≡ Some bytes)
named_bytes promise [] c h = let e : false ≡ true = h in cc
named_bytes promise (s ∷ ss) zero h = some_of (bytes_under promise s.key) (second_of s.made (is_some (bytes_under promise s.key)) h)
named_bytes promise (s ∷ ss) (suc c) h = named_bytes promise ss c h

pub promised_there : (l : Laid) (c : ℕ) → IsTrue (is_named_cell l c) → (bytes : List ℕ) × (bytes_under l.promise (spec_key l.specs c) ≡ Some bytes)
promised_there l c h = named_bytes l.promise l.specs c h

number_of : (b : Bool) {P : Type 0} → (b ≡ true → P) → (b ≡ false → P) → P
number_of true y n = y refl
number_of false y n = n refl

not_number : (xs : List ℕ) (n : ℕ) → (IsIn xs n → ⊥) → has_number xs n ≡ false
not_number xs n none = number_of (has_number xs n) (λ y. absurd (none (is_in xs n y))) (λ n. n)

and_no : (a b c : Bool) → c ≡ false → (a && (b && c)) ≡ false
and_no true true c h = h
and_no true false c h = refl
and_no false b c h = refl

pub unseen_there : (l : Laid) (seen : List ℕ) (key : List ℕ) (c : ℕ) → place_in l.specs key ≡ Some c → (IsIn seen c → ⊥) → has_cell_in l seen key ≡ false
unseen_there l seen key c at none =
    and_no (is_made l.specs key) (is_some (bytes_under l.promise key)) (is_seen_place seen (place_in l.specs key)) (ap (is_seen_place seen) at ∙ not_number seen c none)

-- a made key that wasn't seen isn't known to be held
pub absent_made : (l : Laid) (seen : Bool) (es : List (Option (List ℕ))) (key : List ℕ) (promised : Option (List ℕ)) → seen ≡ false → is_made l.specs key ≡ true → (if seen then promised else entries_in l es key) ≡ None
absent_made l seen es key promised none made =
    ap (λ b. if b then promised else entries_in l es key) none ∙ ap (λ b. if b then None else entry_at es (place_in l.specs key)) made

pub same_later : (k n : Known) → n ≡ k → IsLater k n
same_later k n is = subst (IsLater k) (sym is) (counted_later k k.faults k.calls)

abbrev told_or : Contents → Option Contents → Contents
told_or d None = d
told_or d (Some f) = f

-- ---- filling

and_unmade : (m b : Bool) → (b ≡ true → m ≡ false) → (m && b) ≡ false
and_unmade true true h = h refl
and_unmade true false h = refl
and_unmade false b h = refl

pub unmade_eq : (ss : List Spec) (own key : List ℕ) → is_made ss own ≡ false → (is_made ss key && bytes_eq own key) ≡ false
unmade_eq ss own key isnt = and_unmade (is_made ss key) (bytes_eq own key) (λ same. ap (is_made ss) (sym ((bytes_eq-Decides own key).0 same)) ∙ isnt)

and_made : (m b : Bool) → (b ≡ true → m ≡ true) → b ≡ (m && b)
and_made true b h = refl
and_made false true h = sym (h refl)
and_made false false h = refl

pub made_eq : (ss : List Spec) (own key : List ℕ) → is_made ss own ≡ true → bytes_eq own key ≡ (is_made ss key && bytes_eq own key)
made_eq ss own key made = and_made (is_made ss key) (bytes_eq own key) (λ same. ap (is_made ss) (sym ((bytes_eq-Decides own key).0 same)) ∙ made)

not_made_eq : (m b : Bool) → (b ≡ true → m ≡ true) → (not m && b) ≡ false
not_made_eq true b h = refl
not_made_eq false true h = sym (h refl)
not_made_eq false false h = refl

pub made_not : (ss : List Spec) (own key : List ℕ) → is_made ss own ≡ true → (not (is_made ss key) && bytes_eq own key) ≡ false
made_not ss own key made = not_made_eq (is_made ss key) (bytes_eq own key) (λ same. ap (is_made ss) (sym ((bytes_eq-Decides own key).0 same)) ∙ made)

set_here : (es : List (Option (List ℕ))) (c : ℕ) (x : Option (List ℕ)) → c < length es → entry_at (set es c x) (Some c) ≡ x
set_here [] c x less = absurd (omega arith)
set_here (e ∷ es) zero x less = refl
set_here (e ∷ es) (suc c) x less = set_here es c x (omega arith)

set_there : (es : List (Option (List ℕ))) (c d : ℕ) (x : Option (List ℕ)) → (d ≡ c → ⊥) → entry_at (set es c x) (Some d) ≡ entry_at es (Some d)
set_there [] c d x other = refl
set_there (e ∷ es) zero zero x other = absurd (other refl)
set_there (e ∷ es) zero (suc d) x other = refl
set_there (e ∷ es) (suc c) zero x other = refl
set_there (e ∷ es) (suc c) (suc d) x other = set_there es c d x (λ same. other (ap suc same))

set_other : (es : List (Option (List ℕ))) (c : ℕ) (o : Option ℕ) (x : Option (List ℕ)) → (o ≡ Some c → ⊥) → entry_at (set es c x) o ≡ entry_at es o
set_other es c None x other = refl
set_other es c (Some d) x other = set_there es c d x (λ same. other (ap (λ (n : ℕ). Some n) same))

filled_by : (l : Laid) (es : List (Option (List ℕ))) (c : ℕ) (own key : List ℕ) (x : Option (List ℕ)) (m b : Bool) → is_made l.specs key ≡ m → bytes_eq own key ≡ b → place_in l.specs own ≡ Some c → c < length es
    → (if m then None else entry_at (set es c x) (place_in l.specs key)) ≡ (if not m && b then x else (if m then None else entry_at es (place_in l.specs key)))
filled_by l es c own key x true b made is at less = refl
filled_by l es c own key x false true made is at less = ap (λ k. entry_at (set es c x) (place_in l.specs k)) (sym ((bytes_eq-Decides own key).0 is)) ∙ (ap (entry_at (set es c x)) at ∙ set_here es c x less)
filled_by l es c own key x false false made is at less =
    set_other es c (place_in l.specs key) x (λ here.
    let same : own ≡ key = sym (key_found l.specs own c at) ∙ key_found l.specs key c here in
    let yes_ : false ≡ true = sym is ∙ (bytes_eq-Decides own key).1 same in cc)

pub entries_filled : (l : Laid) (es : List (Option (List ℕ))) (c : ℕ) (own key : List ℕ) (x : Option (List ℕ)) → place_in l.specs own ≡ Some c → c < length es
    → entries_in l (set es c x) key ≡ (if not (is_made l.specs key) && bytes_eq own key then x else entries_in l es key)
entries_filled l es c own key x at less = filled_by l es c own key x (is_made l.specs key) (bytes_eq own key) refl refl at less

pub told_same : (f g : Contents) → Some f ≡ Some g → f ≡ g
told_same f g e = ap (λ (o : Option Contents). told_or g o) e

pub seen_but : (a b : Bool) → b ≡ false → (a || b) ≡ a
seen_but a b is = ap (λ x. a || x) is ∙ sym (or_same a)
