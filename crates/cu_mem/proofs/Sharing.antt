-- The keys of a yard one after another, filled before it is shared and taken back afterwards.
use Rattle.std.proofs.Common.{◌≡◌, ◌⊎◌, ℕ, zero, suc, ◌+◌, ◌<◌, ◌≤◌, Bool, true, false, IsTrue, not, ◌&&◌, ◌||◌, if◌then◌else◌, List, [], ◌∷◌, ◌++◌, length, map, take, take-suc, get_or, Option, Some, None, IsSome, ◌↔◌, min, refl, sym, ap, ◌∙◌, subst, inl, inr, ⊎_elim, arith}
use mathlib.Core.Logic.{dite}
use native.Mathlib.Decide.{ℕ_discrete}
use Rattle.std.proofs.Math.Seq.{get_or-append_seam, take-append_seam}
use Rattle.std.specs.Option.{is_some}
use Rattle.std.specs.Str.{bytes_eq}
use Rattle.std.proofs.lemmas.Slice.Eq.{bytes_eq-Decides}
use Rattle.cu_store.specs.Held.{Contents, Write, IsAmong}
use Rattle.cu_store.specs.Share.{Lent, PutPromised}
use Rattle.cu_store.specs.Yard.{bytes_under, is_served, is_made, Known, IsLater}
use Rattle.cu_store.specs.declared.yard.Spec.{Spec}
use Rattle.cu_cells.specs.Cells.{spec_key, length_at}
use Rattle.cu_cells.specs.Late.{AreStored}
use Rattle.cu_cells.specs.Layout.{Laid, promised_bytes, is_named_cell}
use Rattle.cu_cells.specs.Rule.{Viewed}
use Rattle.cu_cells.specs.Yard.{room_size}
use Rattle.cu_cells.specs.declared.late.LateCell.{LateCell}
use Rattle.cu_cells.proofs.Lands.{named_made}
use Rattle.cu_store.specs.Faults.{last_count}
use Rattle.cu_store.specs.Steps.{Changes, OrLate, AllLateIn, Steps}
use Rattle.cu_cells.proofs.Found.{has_place, made_served, stands}
use Rattle.cu_cells.proofs.Own.{key_found, promised_there}
use Rattle.cu_mem.specs.declared.late.Waiting.{Waiting}
use Rattle.cu_mem.specs.Entries.{Slot, held_in}
use Rattle.cu_mem.specs.Late.{late_writes}
use Rattle.cu_mem.specs.Memory.{Memory, contents, shown_of}
use Rattle.cu_mem.specs.Sharing.{room_at, late_puts, IsFilled, GivesBack, HoldsFrom}

pub take_more : (ss : List Spec) (i : ℕ) (s : Spec) → i < length ss → get_or ss i s ≡ s → take (i + 1) ss ≡ take i ss ++ s ∷ []
take_more ss i s less at = let e : i + 1 ≡ suc i = omega arith in ap (λ (n : ℕ). take n ss) e ∙ (take-suc ss i s less ∙ ap (λ (x : Spec). take i ss ++ x ∷ []) at)

or_assoc : (a b c : Bool) → (a || (b || c)) ≡ ((a || b) || c)
or_assoc true b c = refl
or_assoc false b c = refl

or_none : (a : Bool) → (a || false) ≡ a
or_none true = refl
or_none false = refl

made_last : (ss : List Spec) (s : Spec) (key : List ℕ) → is_made (ss ++ s ∷ []) key ≡ (is_made ss key || (s.made && bytes_eq s.key key))
made_last [] s key = or_none (s.made && bytes_eq s.key key)
made_last (t ∷ ts) s key = ap (λ b. (t.made && bytes_eq t.key key) || b) (made_last ts s key) ∙ or_assoc (t.made && bytes_eq t.key key) (is_made ts key) (s.made && bytes_eq s.key key)

served_last : (ss : List Spec) (s : Spec) (key : List ℕ) → is_served (ss ++ s ∷ []) key ≡ (is_served ss key || bytes_eq s.key key)
served_last [] s key = or_none (bytes_eq s.key key)
served_last (t ∷ ts) s key = ap (λ b. bytes_eq t.key key || b) (served_last ts s key) ∙ or_assoc (bytes_eq t.key key) (is_served ts key) (bytes_eq s.key key)

-- ---- places

kept_by : (a m b : Bool) (P : Type 0) → IsTrue (a || (m && b)) → (IsTrue a → P) → (IsTrue m → b ≡ true → P) → P
kept_by true m b P h old new = old refl
kept_by false true true P h old new = new refl refl
kept_by false true false P h old new = let no_ : false ≡ true = h in cc
kept_by false false b P h old new = let no_ : false ≡ true = h in cc

pub kept_more : (ss : List Spec) (i : ℕ) (s : Spec) (key : List ℕ) (has : List ℕ → Bool) → i < length ss → get_or ss i s ≡ s → IsTrue (is_made (take (i + 1) ss) key)
    → (IsTrue (is_made (take i ss) key) → IsTrue (has key)) → (IsTrue s.made → IsTrue (has s.key)) → IsTrue (has key)
kept_more ss i s key has less at made old new =
    let split : IsTrue (is_made (take i ss) key || (s.made && bytes_eq s.key key)) = subst IsTrue (ap (λ xs. is_made xs key) (take_more ss i s less at) ∙ made_last (take i ss) s key) made in
    kept_by (is_made (take i ss) key) s.made (bytes_eq s.key key) (IsTrue (has key)) split old
    (λ m same. subst (λ k. IsTrue (has k)) ((bytes_eq-Decides s.key key).0 same) (new m))

-- ---- filling

seen_both : (m h a e : Bool) → ((m && (h && a)) || (m && (h && e))) ≡ (m && (h && (a || e)))
seen_both true true a e = refl
seen_both true false a e = refl
seen_both false h a e = refl

read_both : (m a e : Bool) (held : Option (List ℕ)) → (if not m && (is_some held && e) then held else (if not m && a then held else None)) ≡ (if not m && (a || e) then held else None)
read_both true a e held = refl
read_both false true true None = refl
read_both false true false None = refl
read_both false false true None = refl
read_both false false false None = refl
read_both false true true (Some b) = refl
read_both false true false (Some b) = refl
read_both false false true (Some b) = refl
read_both false false false (Some b) = refl

pub filled_more : (ys ss : List Spec) (i : ℕ) (s : Spec) (held : Contents) (seen seen_ : List ℕ → Bool) (es es_ : Contents) → ys ≡ ss → i < length ss → get_or ss i s ≡ s → IsFilled ss i held seen es
    → ((key : List ℕ) → seen_ key ≡ (seen key || (is_made ys key && (is_some (held key) && bytes_eq s.key key))))
    → ((key : List ℕ) → es_ key ≡ (if not (is_made ys key) && (is_some (held key) && bytes_eq s.key key) then held key else es key))
    → IsFilled ss (i + 1) held seen_ es_
filled_more ys ss i s held seen seen_ es es_ same less at filled sees reads =
    let more : (key : List ℕ) → (is_served (take i ss) key || bytes_eq s.key key) ≡ is_served (take (i + 1) ss) key = λ key. sym (ap (λ xs. is_served xs key) (take_more ss i s less at) ∙ served_last (take i ss) s key) in
    record {
      made = λ key. sees key ∙ (ap (λ xs. seen key || (is_made xs key && (is_some (held key) && bytes_eq s.key key))) same
          ∙ (ap (λ b. b || (is_made ss key && (is_some (held key) && bytes_eq s.key key))) (filled.made key)
          ∙ (seen_both (is_made ss key) (is_some (held key)) (is_served (take i ss) key) (bytes_eq s.key key)
          ∙ ap (λ b. is_made ss key && (is_some (held key) && b)) (more key))));
      read = λ key. reads key ∙ (ap (λ xs. if not (is_made xs key) && (is_some (held key) && bytes_eq s.key key) then held key else es key) same
          ∙ (ap (λ o. if not (is_made ss key) && (is_some (held key) && bytes_eq s.key key) then held key else o) (filled.read key)
          ∙ (read_both (is_made ss key) (is_served (take i ss) key) (bytes_eq s.key key) (held key)
          ∙ ap (λ b. if not (is_made ss key) && b then held key else None) (more key))));
    }

all_false : (m h : Bool) → (m && (h && false)) ≡ false
all_false true true = refl
all_false true false = refl
all_false false h = refl

none_read : (m : Bool) (held : Option (List ℕ)) → (if not m && false then held else None) ≡ None
none_read true held = refl
none_read false held = refl

pub none_yet : (ss : List Spec) (held : Contents) (seen : List ℕ → Bool) (es : Contents) → ((key : List ℕ) → seen key ≡ false) → ((key : List ℕ) → es key ≡ None) → IsFilled ss 0 held seen es
none_yet ss held seen es unseen unfilled = record {
  made = λ key. unseen key ∙ sym (all_false (is_made ss key) (is_some (held key)));
  read = λ key. unfilled key ∙ sym (none_read (is_made ss key) (held key));
}

here_some : (held : Option (List ℕ)) (b : Bool) → (b ≡ true → is_some held ≡ true) → b ≡ (is_some held && b)
here_some held true some_ = sym (ap (λ x. x && true) (some_ refl))
here_some (Some x) false some_ = refl
here_some None false some_ = refl

-- a key that is filled is held
pub some_eq : (held : Contents) (own key bytes : List ℕ) → held own ≡ Some bytes → bytes_eq own key ≡ (is_some (held key) && bytes_eq own key)
some_eq held own key bytes is = here_some (held key) (bytes_eq own key) (λ same. ap (λ k. is_some (held k)) (sym ((bytes_eq-Decides own key).0 same)) ∙ ap is_some is)

no_some : (held : Option (List ℕ)) (b : Bool) → (b ≡ true → is_some held ≡ false) → (is_some held && b) ≡ false
no_some held true none = ap (λ x. x && true) (none refl)
no_some (Some x) false none = refl
no_some None false none = refl

pub none_eq : (held : Contents) (own key : List ℕ) → held own ≡ None → (is_some (held key) && bytes_eq own key) ≡ false
none_eq held own key is = no_some (held key) (bytes_eq own key) (λ same. ap (λ k. is_some (held k)) (sym ((bytes_eq-Decides own key).0 same)) ∙ ap is_some is)

pub and_false : (m : Bool) → (m && false) ≡ false
and_false true = refl
and_false false = refl

pub or_false : (a : Bool) → (a || false) ≡ a
or_false a = or_none a

-- what a filled key holds is what was filled
pub same_read : (held : Contents) (own key bytes : List ℕ) (m b : Bool) (e : Option (List ℕ)) → held own ≡ Some bytes → bytes_eq own key ≡ b → (if not m && b then Some bytes else e) ≡ (if not m && b then held key else e)
same_read held own key bytes true b e is same = refl
same_read held own key bytes false false e is same = refl
same_read held own key bytes false true e is same = sym is ∙ ap held ((bytes_eq-Decides own key).0 same)

pub no_read : (m : Bool) (x e : Option (List ℕ)) → (if not m && false then x else e) ≡ e
no_read true x e = refl
no_read false x e = refl

-- ---- taking back

pub room_there : (ss : List Spec) (c : ℕ) (s : Spec) → c < length ss → get_or ss c s ≡ s → s.made ≡ true → room_at ss c ≡ length_at ss c
room_there [] c s less at made = absurd (omega arith)
room_there (t ∷ ts) zero s less at made = ap (λ b. if b then t.len else 0) (ap (λ (x : Spec). x.made) at ∙ made)
room_there (t ∷ ts) (suc c) s less at made = room_there ts c s (omega arith) at made

back_at : (l : Lent) (old new : Contents) (own bytes k : List ℕ) (b : Bool) → IsTrue (is_made l.specs own) → l.promise own ≡ Some bytes → bytes_eq own k ≡ b → new k ≡ (if b then Some bytes else old k)
    → (new k ≡ old k) ⊎ PutPromised l k (new k)
back_at l old new own bytes k true made promised same is =
    let e : own ≡ k = (bytes_eq-Decides own k).0 same in
    inr (bytes, is, subst (λ x. IsTrue (is_made l.specs x)) e made, ap l.promise (sym e) ∙ promised)
back_at l old new own bytes k false made promised same is = inl is

pub back_by : (l : Lent) (old new : Contents) (own bytes : List ℕ) → IsTrue (is_made l.specs own) → l.promise own ≡ Some bytes → ((k : List ℕ) → new k ≡ (if bytes_eq own k then Some bytes else old k)) → GivesBack l old new
back_by l old new own bytes made promised stored = λ k. back_at l old new own bytes k (bytes_eq own k) made promised refl (stored k)

pub held_by : (old new : Contents) (own bytes k : List ℕ) → ((x : List ℕ) → new x ≡ (if bytes_eq own x then Some bytes else old x)) → own ≡ k → new k ≡ Some bytes
held_by old new own bytes k stored same = stored k ∙ ap (λ b. if b then Some bytes else old k) ((bytes_eq-Decides own k).1 same)

back_then : (l : Lent) (a b c : Option (List ℕ)) (k : List ℕ) → (b ≡ a) ⊎ PutPromised l k b → (c ≡ b) ⊎ PutPromised l k c → (c ≡ a) ⊎ PutPromised l k c
back_then l a b c k first (inr put) = inr put
back_then l a b c k (inl same) (inl is) = inl (is ∙ same)
back_then l a b c k (inr put) (inl is) = inr (put.0, is ∙ put.1, put.2, put.3)

pub backs : (l m : Lent) (old mid new : Contents) → m ≡ l → GivesBack l old mid → GivesBack m mid new → GivesBack l old new
backs l m old mid new same first second = λ k. back_then l (old k) (mid k) (new k) k (first k) (subst (λ (x : Lent). (new k ≡ mid k) ⊎ PutPromised x k (new k)) same (second k))

still_there : (l : Lent) (b c : Option (List ℕ)) (k : List ℕ) → b ≡ l.promise k → (c ≡ b) ⊎ PutPromised l k c → c ≡ l.promise k
still_there l b c k was (inl is) = is ∙ was
still_there l b c k was (inr put) = put.1 ∙ sym put.3

-- one key more is back
pub holds_more : (l m : Lent) (n : ℕ) (seen : List ℕ → Bool) (mid new : Contents) → m ≡ l → HoldsFrom (n + 1) l seen mid → GivesBack m mid new
    → (IsTrue (is_made l.specs (spec_key l.specs n)) → IsTrue (seen (spec_key l.specs n)) → new (spec_key l.specs n) ≡ l.promise (spec_key l.specs n)) → HoldsFrom n l seen new
holds_more l m n seen mid new same before back here at from less made known =
    dite (ℕ_discrete at n)
    (λ e. let k : spec_key l.specs n ≡ spec_key l.specs at = ap (spec_key l.specs) (sym e) in
    subst (λ x. new x ≡ l.promise x) k (here (subst (λ x. IsTrue (is_made l.specs x)) (sym k) made) (subst (λ x. IsTrue (seen x)) (sym k) known)))
    (λ ne. still_there l (mid (spec_key l.specs at)) (new (spec_key l.specs at)) (spec_key l.specs at) (before at (omega (arith, ne, from)) less made known)
    (subst (λ (x : Lent). (new (spec_key l.specs at) ≡ mid (spec_key l.specs at)) ⊎ PutPromised x (spec_key l.specs at) (new (spec_key l.specs at))) same (back (spec_key l.specs at))))

-- ---- rooms

room_taken : (ss : List Spec) (n : ℕ) → n < length ss → get_or (map room_size (take (suc n) ss)) n 0 ≡ room_at ss n
room_taken [] n less = absurd (omega arith)
room_taken (s ∷ ss) zero less = refl
room_taken (s ∷ ss) (suc n) less = room_taken ss n (omega arith)

taken : (ss : List Spec) (n : ℕ) → take n (map room_size (take (suc n) ss)) ≡ map room_size (take n ss)
taken ss zero = refl
taken [] (suc n) = refl
taken (s ∷ ss) (suc n) = ap (λ (xs : List ℕ). room_size s ∷ xs) (taken ss n)

-- the last room is that of the last key
pub last_room : (before : List ℕ) (size : ℕ) (ss : List Spec) (n m : ℕ) → m ≡ suc n → n < length ss → length before ≡ n → before ++ size ∷ [] ≡ map room_size (take m ss) → size ≡ room_at ss n
last_room before size ss n m more less long is =
    sym (get_or-append_seam before size [] 0) ∙ (ap (λ (x : ℕ). get_or (before ++ size ∷ []) x 0) long ∙ (ap (λ (xs : List ℕ). get_or xs n 0) (is ∙ ap (λ (x : ℕ). map room_size (take x ss)) more) ∙ room_taken ss n less))

pub other_rooms : (before : List ℕ) (size : ℕ) (ss : List Spec) (n m : ℕ) → m ≡ suc n → length before ≡ n → before ++ size ∷ [] ≡ map room_size (take m ss) → before ≡ map room_size (take n ss)
other_rooms before size ss n m more long is =
    sym (take-append_seam before (size ∷ [])) ∙ (ap (λ (x : ℕ). take x (before ++ size ∷ [])) long ∙ (ap (take n) (is ∙ ap (λ (x : ℕ). map room_size (take x ss)) more) ∙ taken ss n))

pub map_last : {A B : Type 0} (f : A → B) (xs : List A) (x : A) → map f (xs ++ x ∷ []) ≡ map f xs ++ f x ∷ []
map_last f [] x = refl
map_last f (y ∷ ys) x = ap (λ zs. f y ∷ zs) (map_last f ys x)

pub later_then : (a b c : Known) → IsLater a b → IsLater b c → IsLater a c
later_then a b c first second = record {
  yard = record { promise = second.yard.promise ∙ first.yard.promise; entries = second.yard.entries ∙ first.yard.entries; lacks = second.yard.lacks ∙ first.yard.lacks };
  seen = λ key was. second.seen key (first.seen key was);
}

pub there_later : (s t a b : Bool) → (IsTrue s → IsTrue t) → b ≡ a → IsTrue (s || a) → IsTrue (t || b)
there_later s true a b more same h = refl
there_later true false a b more same h = let no_ : false ≡ true = more refl in cc
there_later false false a b more same h = same ∙ h

pub here_of : (l m : Lent) (n at : ℕ) (seen seen_ : List ℕ → Bool) (held : Contents) → m ≡ l → at ≡ n → ((key : List ℕ) → IsTrue (seen key) → IsTrue (seen_ key))
    → (IsTrue (is_made m.specs (spec_key m.specs at)) → IsTrue (seen_ (spec_key m.specs at)) → held (spec_key m.specs at) ≡ m.promise (spec_key m.specs at))
    → IsTrue (is_made l.specs (spec_key l.specs n)) → IsTrue (seen (spec_key l.specs n)) → held (spec_key l.specs n) ≡ l.promise (spec_key l.specs n)
here_of l m n at seen seen_ held same is more one made known =
    subst (λ (x : Lent). IsTrue (is_made x.specs (spec_key x.specs n)) → IsTrue (seen_ (spec_key x.specs n)) → held (spec_key x.specs n) ≡ x.promise (spec_key x.specs n)) same
    (subst (λ (i : ℕ). IsTrue (is_made m.specs (spec_key m.specs i)) → IsTrue (seen_ (spec_key m.specs i)) → held (spec_key m.specs i) ≡ m.promise (spec_key m.specs i)) is one) made (more (spec_key l.specs n) known)

-- ---- the yard and what it gives back

pub all_taken : (ss : List Spec) → take (length ss) ss ≡ ss
all_taken [] = refl
all_taken (s ∷ ss) = ap (λ (xs : List Spec). s ∷ xs) (all_taken ss)

read_all : (m v : Bool) (held : Option (List ℕ)) → m ≡ false → v ≡ true → (if not m && v then held else None) ≡ held
read_all m v held unmade served = (λ k. if not (unmade k) && served k then held else None)

pub filled_read : (ss : List Spec) (held : Contents) (seen : List ℕ → Bool) (es : Contents) (key : List ℕ) → IsFilled ss (length ss) held seen es → IsTrue (is_served ss key) → is_made ss key ≡ false → es key ≡ held key
filled_read ss held seen es key filled served unmade =
    filled.read key ∙ read_all (is_made ss key) (is_served (take (length ss) ss) key) (held key) unmade (ap (λ xs. is_served xs key) (all_taken ss) ∙ served)

and_last : (h : Bool) → (true && (h && true)) ≡ h
and_last true = refl
and_last false = refl

made_all : (m h v : Bool) → m ≡ true → v ≡ true → (m && (h && v)) ≡ h
made_all m h v made served = (λ k. made k && (h && served k)) ∙ and_last h

pub filled_made : (ss : List Spec) (held : Contents) (seen : List ℕ → Bool) (es : Contents) (key : List ℕ) → IsFilled ss (length ss) held seen es → IsTrue (is_made ss key) → seen key ≡ is_some (held key)
filled_made ss held seen es key filled made =
    filled.made key ∙ made_all (is_made ss key) (is_some (held key)) (is_served (take (length ss) ss) key) made (ap (λ xs. is_served xs key) (all_taken ss) ∙ made_served ss key made)

pub seen_held : (seen : Bool) (held : Option (List ℕ)) → seen ≡ is_some held → IsTrue seen ↔ IsSome held
seen_held seen held is = ((λ h. subst IsTrue is h), (λ h. subst IsTrue (sym is) h))

pub held_of : (l : Lent) (seen : List ℕ → Bool) (held : Contents) (key : List ℕ) → HoldsFrom 0 l seen held → IsTrue (is_made l.specs key) → IsTrue (seen key) → held key ≡ l.promise key
held_of l seen held key holds made known =
    let has = has_place l.specs key (made_served l.specs key made) in
    let less : has.0 < length l.specs = (stands l.specs key has.0 has.1).less in
    let same : spec_key l.specs has.0 ≡ key = key_found l.specs key has.0 has.1 in
    subst (λ k. held k ≡ l.promise k) same (holds has.0 (omega arith) less (subst (λ k. IsTrue (is_made l.specs k)) (sym same) made) (subst (λ k. IsTrue (seen k)) (sym same) known))

lands_back : (W : Changes) (late : List Write) (key : List ℕ) (a b : Option (List ℕ)) → (b ≡ a) ⊎ W key b → (b ≡ a) ⊎ OrLate W late key b
lands_back W late key a b (inl same) = inl same
lands_back W late key a b (inr change) = inr (inl change)

-- chunks come back, and counts are added
pub gives_step : (W : Changes) (m : Memory) (slots : List Slot) (late : List Waiting) (faults calls n : ℕ) → ((key : List ℕ) → (held_in slots key ≡ contents m key) ⊎ W key (held_in slots key)) → AllLateIn (late_writes late) (OrLate W (late_writes m.late))
    → m.faults ≤ faults → calls ≡ min (m.calls + n) last_count
    → Steps W 0 n (shown_of m) record { held = Some (held_in slots); late = late_writes late; faults = faults; calls = calls; lacks = true }
gives_step W m slots late faults calls n back waits count added = record {
  lands = λ key. lands_back W (late_writes m.late) key (contents m key) (held_in slots key) (back key);
  late = waits;
  count = count;
  calls = (omega (arith, added), omega (arith, added), omega (arith, added));
  lacks = refl;
}

-- ---- late puts that are taken over

-- each is on a made key, with the promised bytes
late_made : (l : Laid) (v : Viewed) (ls : List LateCell) (key bytes : List ℕ) → v.laid ≡ l → AreStored v ls → IsAmong (late_writes (late_puts l.specs (bytes_under l.promise) ls)) key bytes
    → IsTrue (is_made l.specs key) × (bytes_under l.promise key ≡ Some bytes)
late_made l v [] key bytes laid all among = absurd among
late_made l v (m ∷ ms) key bytes laid all (inl own) =
    let named : IsTrue (is_named_cell l m.cell) = subst (λ (x : Laid). IsTrue (is_named_cell x m.cell)) laid all.0.named in
    let told = promised_there l m.cell named in
    let is : bytes ≡ told.0 = own.1 ∙ ap promised_bytes told.1 in
    (subst (λ k. IsTrue (is_made l.specs k)) (sym own.0) (named_made l m.cell named), ap (bytes_under l.promise) own.0 ∙ (told.1 ∙ ap (λ (b : List ℕ). Some b) (sym is)))
late_made l v (m ∷ ms) key bytes laid all (inr among) = late_made l v ms key bytes laid all.1 among

among_either : (xs ys : List Write) (key bytes : List ℕ) → IsAmong (xs ++ ys) key bytes → IsAmong xs key bytes ⊎ IsAmong ys key bytes
among_either [] ys key bytes h = inr h
among_either (x ∷ xs) ys key bytes (inl own) = inl (inl own)
among_either (x ∷ xs) ys key bytes (inr h) = ⊎_elim (λ a. inl (inr a)) (λ b. inr b) (among_either xs ys key bytes h)

writes_both : (xs ys : List Waiting) → late_writes (xs ++ ys) ≡ late_writes xs ++ late_writes ys
writes_both [] ys = refl
writes_both (x ∷ xs) ys = ap (λ zs. x.entry ∷ zs) (writes_both xs ys)

-- what is late then was late before, or is on a made key with its promised bytes
pub late_over : (l : Laid) (v : Viewed) (ls : List LateCell) (old new : List Waiting) → v.laid ≡ l → AreStored v ls
    → (new ≡ old ++ late_puts l.specs (bytes_under l.promise) ls) ⊎ (new ≡ old) → AllLateIn (late_writes new) (OrLate (PutPromised (record { specs = l.specs; promise = bytes_under l.promise })) (late_writes old))
late_over l v ls old new laid all (inr same) key bytes among = inr (bytes, refl, subst (λ (ws : List Waiting). IsAmong (late_writes ws) key bytes) same among)
late_over l v ls old new laid all (inl is) key bytes among =
    ⊎_elim
    (λ was. inr (bytes, refl, was))
    (λ taken. let made = late_made l v ls key bytes laid all taken in inl (bytes, refl, made.0, made.1))
    (among_either (late_writes old) (late_writes (late_puts l.specs (bytes_under l.promise) ls)) key bytes
    (subst (λ (ws : List Write). IsAmong ws key bytes) (writes_both old (late_puts l.specs (bytes_under l.promise) ls)) (subst (λ (ws : List Waiting). IsAmong (late_writes ws) key bytes) is among)))
