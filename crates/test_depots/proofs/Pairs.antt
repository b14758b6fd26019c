-- Two made keys of the same bytes.
use Rattle.std.proofs.Common.{◌≡◌, ◌<◌, ℕ, zero, suc, Bool, true, false, IsTrue, ◌||◌, if◌then◌else◌, List, [], ◌∷◌, Option, Some, None, All, length, refl, sym, ap, ◌∙◌, subst}
use Rattle.std.proofs.lemmas.List.Elements.{All-cons, All-nil}
use Rattle.std.proofs.lemmas.Slice.Eq.{bytes_eq-Decides}
use Rattle.std.specs.Prelude.{replicate}
use Rattle.std.specs.Str.{bytes_eq}
use Rattle.cu_store.specs.Held.{Contents, Holds}
use Rattle.cu_store.specs.Share.{Lent, KeysDiffer, IsPromiseOf, HoldsPromised, LatePromised, LateSteady, MayShare, ServesAs, IsShared, HoldsSeen}
use Rattle.cu_store.specs.Steps.{Shown}
use Rattle.cu_store.specs.Yard.{bytes_under, is_made, is_served, Served, Known, MayPut}
use Rattle.cu_store.specs.declared.yard.Spec.{Spec}
use Rattle.test_depots.specs.Pairs.{IsPair, made_of, pair_specs, pair_map, lent_pair, HoldsNothing, IsEmptyDepot}

true_false : true ≡ false → ⊥
true_false e = cc

pub or_left : (x y : Bool) → IsTrue x → IsTrue (x || y)
or_left true y is = refl
or_left false y is = cc

pub or_right : (x y : Bool) → IsTrue y → IsTrue (x || y)
or_right true y is = refl
or_right false y is = is

-- ---- the keys and their promise

not_equal : (x y : List ℕ) (e : Bool) → (e ≡ true → x ≡ y) → (x ≡ y → ⊥) → e ≡ false
not_equal x y true same differ = absurd (differ (same refl))
not_equal x y false same differ = refl

pub keys_differ : (a b bs : List ℕ) → IsPair a b bs → KeysDiffer (pair_specs a b)
keys_differ a b bs pair =
    let no : bytes_eq b a ≡ false = not_equal b a (bytes_eq b a) (bytes_eq-Decides b a).0 pair.apart in
    (ap (λ x. x || false) no, (refl, tt))

abbrev bytes_or : List ℕ → Option (List ℕ) → List ℕ
bytes_or d None = d
bytes_or d (Some bytes) = bytes

one_value : (x y : Bool) (bs bytes : List ℕ) → (if x then Some bs else (if y then Some bs else None)) ≡ Some bytes → bs ≡ bytes
one_value true y bs bytes is = ap (bytes_or bs) is
one_value false true bs bytes is = ap (bytes_or bs) is
one_value false false bs bytes is = cc

pair_promise : (a b bs : List ℕ) → IsPair a b bs → IsPromiseOf (pair_specs a b) (bytes_under (pair_map a b bs))
pair_promise a b bs pair =
    let P : Spec → Type 0 = λ s. IsTrue s.made → (bytes : List ℕ) → bytes_under (pair_map a b bs) s.key ≡ Some bytes → length bytes ≡ s.len in
    let each : (key bytes : List ℕ) → bytes_under (pair_map a b bs) key ≡ Some bytes → bs ≡ bytes =
    λ key bytes is. one_value (bytes_eq a key) (bytes_eq b key) bs bytes is in
    record {
      lengths = All-cons P (made_of a) (made_of b ∷ []) (λ made bytes is. ap length (sym (each a bytes is)) ∙ pair.long)
          (All-cons P (made_of b) [] (λ made bytes is. ap length (sym (each b bytes is)) ∙ pair.long) (All-nil P));
      bytes = λ key bytes is. subst (λ xs. All (λ x. x < 256) xs) (each key bytes is) pair.small;
    }

same_is : (x : List ℕ) → bytes_eq x x ≡ true
same_is x = (bytes_eq-Decides x x).1 refl

or_first : (x rest : Bool) → x ≡ true → (x || rest) ≡ true
or_first true rest is = refl
or_first false rest is = cc

or_second : (x y rest : Bool) → y ≡ true → (x || (y || rest)) ≡ true
or_second true y rest is = refl
or_second false y rest is = ap (λ z. z || rest) is

pub first_made : (a b : List ℕ) → is_made (pair_specs a b) a ≡ true
first_made a b = or_first (bytes_eq a a) (bytes_eq b a || false) (same_is a)

pub second_made : (a b : List ℕ) → is_made (pair_specs a b) b ≡ true
second_made a b = or_second (bytes_eq a b) (bytes_eq b b) false (same_is b)

pub first_served : (a b : List ℕ) → is_served (pair_specs a b) a ≡ true
first_served a b = or_first (bytes_eq a a) (bytes_eq b a || false) (same_is a)

pub second_served : (a b : List ℕ) → is_served (pair_specs a b) b ≡ true
second_served a b = or_second (bytes_eq a b) (bytes_eq b b) false (same_is b)

pub first_bytes : (a b bs : List ℕ) → bytes_under (pair_map a b bs) a ≡ Some bs
first_bytes a b bs = ap (λ x. if x then Some bs else (if bytes_eq b a then Some bs else None)) (same_is a)

second_if : (x y : Bool) (bs : List ℕ) → y ≡ true → (if x then Some bs else (if y then Some bs else None)) ≡ Some bs
second_if true y bs is = refl
second_if false y bs is = ap (λ z. if z then Some bs else None) is

pub second_bytes : (a b bs : List ℕ) → bytes_under (pair_map a b bs) b ≡ Some bs
second_bytes a b bs = second_if (bytes_eq a b) (bytes_eq b b) bs (same_is b)

all_same : (n x : ℕ) → x < 256 → All (λ y. y < 256) (replicate n x)
all_same zero x small = All-nil (λ y. y < 256)
all_same (suc n) x small = All-cons (λ y. y < 256) x (replicate n x) small (all_same n x small)

-- the pair of one byte, 64 times
pub filled_pair : (a b bs : List ℕ) (x : ℕ) → x < 256 → bs ≡ replicate 64 x → (same : Bool) → same ≡ false → (b ≡ a → IsTrue same) → IsPair a b bs
filled_pair a b bs x small is same differ told = record {
  apart = λ e. true_false (sym (told e) ∙ differ);
  long = ap length is;
  small = subst (λ ys. All (λ y. y < 256) ys) (sym is) (all_same 64 x small);
}

-- ---- what sharing wants, and what it gives

none_some : (bytes : List ℕ) → None ≡ Some bytes → ⊥
none_some bytes is = cc

nothing_held : (l : Lent) (held : Option Contents) → HoldsNothing held → HoldsPromised l held
nothing_held l None empty = tt
nothing_held l (Some held) empty = λ key bytes made is. absurd (none_some bytes (sym (empty key) ∙ is))

nothing_late : (l : Lent) (held : Option Contents) → LatePromised l held []
nothing_late l None = tt
nothing_late l (Some held) = λ key bytes made among. absurd among

nothing_unsteady : (specs : List Spec) (held : Option Contents) → LateSteady specs held []
nothing_unsteady specs None = tt
nothing_unsteady specs (Some held) = λ key bytes served read among. absurd among

pub may_share : (a b bs : List ℕ) (s : Shown) → IsPair a b bs → IsEmptyDepot s → MayShare (lent_pair a b bs) s
may_share a b bs s pair fresh = let l = lent_pair a b bs in record {
  promise = pair_promise a b bs pair;
  held = nothing_held l s.held fresh.0;
  late = subst (λ late. LatePromised l s.held late) (sym fresh.1) (nothing_late l s.held);
  steady = subst (λ late. LateSteady l.specs s.held late) (sym fresh.1) (nothing_unsteady l.specs s.held);
}

promise_told : (l : Lent) (held : Option Contents) (yard : Served) (key bs : List ℕ) → ServesAs l held yard → l.promise key ≡ Some bs → Holds yard.promise key bs
promise_told l None yard key bs tells told = subst (λ p. Holds p key bs) (sym tells.0) tt
promise_told l (Some held) yard key bs tells told = subst (λ p. Holds p key bs) (sym tells.0) told

-- a made key that the promise names may be put with its bytes
pub may_put : (l : Lent) (wants : Bool) (s : Shown) (yard : Served) (pass : Known) → IsShared l wants s yard pass
    → (key bs : List ℕ) → is_made l.specs key ≡ true → l.promise key ≡ Some bs → MayPut yard key bs
may_put l wants s yard pass shared key bs made told = record {
  made = subst (λ ss. IsTrue (is_made ss key)) (sym shared.specs) made;
  promised = promise_told l s.held yard key bs shared.tells told;
}

pub served_by : (l : Lent) (wants : Bool) (s : Shown) (yard : Served) (pass : Known) → IsShared l wants s yard pass
    → (key : List ℕ) → is_served l.specs key ≡ true → IsTrue (is_served yard.specs key)
served_by l wants s yard pass shared key served = subst (λ ss. IsTrue (is_served ss key)) (sym shared.specs) served

-- a made key that was seen is held afterwards with its bytes
pub held_by : (l : Lent) (seen : List ℕ → Bool) (held : Option Contents) → HoldsSeen l seen held
    → (key bs : List ℕ) → is_made l.specs key ≡ true → IsTrue (seen key) → l.promise key ≡ Some bs → Holds held key bs
held_by l seen None holds key bs made had told = tt
held_by l seen (Some held) holds key bs made had told = holds key made had ∙ told
