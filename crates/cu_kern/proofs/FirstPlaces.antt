-- The place of a region that a place in the first piece reads.
use Rattle.std.proofs.Common.{◌≡◌, ◌==◌, zero, suc, ℕ, ◌+◌, ◌-◌, ◌*◌, ◌/◌, ◌%◌, ◌<◌, Bool, true, false, if◌then◌else◌, List, [], ◌∷◌, length, drop, refl, ap, sym, ◌∙◌, arith}
use Rattle.cu_shape.specs.Index.{product, place_of, index_at, back_along, back}
use Rattle.cu_kern.specs.Lays.{IsRun, place_read}

-- each number is 0
abbrev AreNone : List ℕ → Type 0
AreNone [] = Unit {0}
AreNone (i ∷ is) = (i ≡ 0) × AreNone is

none_divided : (m : ℕ) → (0 / m ≡ 0) × (0 % m ≡ 0)
none_divided m = (omega arith, omega arith)

first_index : (ds : List ℕ) (p : ℕ) → p ≡ 0 → AreNone (index_at ds p)
first_index [] p e = tt
first_index (d ∷ ds) p e =
    let q = none_divided (product ds) in
    (ap (λ n. n / product ds) e ∙ q.0, first_index ds (p % product ds) (ap (λ n. n % product ds) e ∙ q.1))

none_dropped : (k : ℕ) (is : List ℕ) → AreNone is → AreNone (drop k is)
none_dropped zero is h = h
none_dropped (suc k) [] h = tt
none_dropped (suc k) (i ∷ is) h = none_dropped k is h.1

none_on : (b : Bool) (i : ℕ) → i ≡ 0 → (if b then 0 else i) ≡ 0
none_on true i e = refl
none_on false i e = e

none_back : (l is : List ℕ) → AreNone is → AreNone (back_along l is)
none_back [] is h = tt
none_back (n ∷ ns) [] h = tt
none_back (n ∷ ns) (i ∷ is) h = (none_on (n == 1) i h.0, none_back ns is h.1)

none_place : (l is : List ℕ) → AreNone is → place_of l is ≡ 0
none_place [] is h = refl
none_place (n ∷ ns) [] h = refl
none_place (n ∷ ns) (i ∷ is) h = (λ j. h.0 j * product ns + none_place ns is h.1 j) ∙ omega arith

first_read : (l ds : List ℕ) → place_read l ds 0 ≡ 0
first_read l ds =
    let idx = index_at ds 0 in
    none_place l (back l idx) (none_back l (drop (length idx - length l) idx) (none_dropped (length idx - length l) idx (first_index ds 0 refl)))

pub piece_read : (l ds : List ℕ) (run step p : ℕ) → IsRun l ds run step → p < product ds → p < run → step * p ≡ place_read l ds p
piece_read l ds run step p paced within below =
    let none = none_divided run in
    let first = first_read l ds in
    let on : place_read l ds (0 + p) ≡ place_read l ds 0 + step * p = paced 0 p (omega arith) (omega (arith, none.1)) in
    let is : 0 + p ≡ p = omega arith in
    let at : 0 + step * p ≡ step * p = omega arith in
    sym (sym (ap (place_read l ds) is) ∙ on ∙ ap (λ n. n + step * p) first ∙ at)
