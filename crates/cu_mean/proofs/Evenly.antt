-- Boxes of an array whose places lie evenly apart.
use Rattle.std.proofs.Common.{◌≡◌, ◌+◌, ◌*◌, ◌/◌, ◌%◌, ◌<◌, ◌≤◌, zero, suc, ℕ, ℤ, List, [], ◌∷◌, Some, length, get_or, refl, sym, ap, ◌∙◌, subst, arith, inl, inr}
use Rattle.std.specs.Prelude.{◌⊎◌, pos, slice_get}
use Rattle.std.proofs.Math.Nat.{mod-eq_of_lt, div-eq_of_lt}
use Rattle.std.proofs.lemmas.Nat.{div_below, mod_below, div-add-mod'}
use Rattle.cu_shape.specs.Index.{product, place_of, index_at, sums, IsInside}
use Rattle.cu_shape.proofs.Places.{test_from_inside, place-below}
use Rattle.cu_mean.specs.Evenly.{AreEven, IsSpan, LieEvenly}
use Rattle.cu_mean.specs.declared.lines.AxisSpan.{AxisSpan}
use Rattle.cu_mean.specs.Plain.{PlainArray, IsPlain}
use Rattle.cu_mean.specs.Reading.{plain_at}

factor_positive : (a b p : ℕ) → p < a * b → 0 < b
factor_positive a zero p h = absurd (omega arith)
factor_positive a (suc b) p h = omega arith

-- the number on an axis, and the place behind it
axis_place : (n front rest stride p q r : ℕ) → (n ≤ 1) ⊎ (front ≡ rest * stride) → p < n * rest → q ≡ p / rest → r ≡ p % rest → q * front + r * stride ≡ p * stride
axis_place zero front rest stride p q r (inl e) h eq er = absurd (omega arith)
axis_place (suc zero) front rest stride p q r (inl e) h eq er =
    let below : p < rest = omega arith in
    rw (eq, er, div-eq_of_lt below, mod-eq_of_lt below) (omega arith)
axis_place (suc (suc n)) front rest stride p q r (inl e) h eq er = absurd (omega arith)
axis_place n front rest stride p q r (inr e) h eq er =
    let whole : q * rest + r ≡ p = rw (eq, er) (div-add-mod' p rest) in
    let times : (q * rest + r) * stride ≡ p * stride = ap (λ m. m * stride) whole in
    rw e (omega arith)

-- each index of such a box lies inside, at the place that the distance tells
pub even_place : (ds is ns : List ℕ) (s p : ℕ) → AreEven ds is ns s → p < product ns → IsInside ds (sums is (index_at ns p)) × (place_of ds (sums is (index_at ns p)) ≡ place_of ds is + p * s)
even_place [] [] [] s p even h = let e : p ≡ 0 = omega arith in (tt, (let z : p * s ≡ 0 * s = ap (λ n. n * s) e in omega arith))
even_place (d ∷ ds) (i ∷ is) (n ∷ ns) s p even h =
    let some : 0 < product ns = factor_positive n (product ns) p h in
    let on : p / product ns < n = div_below p (product ns) n some h in
    let fits : i + n ≤ d = even.0 in
    let behind = even_place ds is ns s (p % product ns) even.2 (mod_below p (product ns) some) in
    let here = axis_place n (product ds) (product ns) s p (p / product ns) (p % product ns) even.1 h refl refl in
    let place : place_of ds (sums is (index_at ns (p % product ns))) ≡ place_of ds is + (p % product ns) * s = behind.1 in
    ((omega arith, behind.0), omega arith)
even_place ds is ns s p even h = absurd even

one_of : (n m : ℕ) → n * m ≡ 1 → (n ≤ 1) × (m ≡ 1)
one_of zero m h = absurd (omega arith)
one_of (suc zero) m h = (omega arith, omega arith)
one_of (suc (suc n)) zero h = absurd (omega arith)
one_of (suc (suc n)) (suc m) h = absurd (omega arith)

-- in a box of one element any distance does
pub ones_even : (ds is ns : List ℕ) (s t : ℕ) → AreEven ds is ns s → product ns ≡ 1 → AreEven ds is ns t
ones_even [] [] [] s t even h = tt
ones_even (d ∷ ds) (i ∷ is) (n ∷ ns) s t even h =
    let one = one_of n (product ns) h in
    (even.0, inl one.0, ones_even ds is ns s t even.2 one.1)
ones_even ds is ns s t even h = absurd even

-- one axis more in front of a box of one element
pub one_even : (size start count : ℕ) (ds is ns : List ℕ) (s t : ℕ) → start + count ≤ size → AreEven ds is ns s → product ns ≡ 1 → product ds ≡ t → AreEven (size ∷ ds) (start ∷ is) (count ∷ ns) t
one_even size start count ds is ns s t fits even one whole =
    let e : product ds ≡ product ns * t = rw one (omega arith) in
    (fits, inr e, ones_even ds is ns s t even one)

stands : (xs : List ℤ) (k : ℕ) → k < length xs → slice_get xs k ≡ Some (get_or xs k (pos 0))
stands [] k h = absurd (omega arith)
stands (x ∷ xs) zero h = refl
stands (x ∷ xs) (suc k) h = stands xs k (omega arith)

at_evenly : (a : PlainArray) (start sizes : List ℕ) (first s : ℕ) → IsPlain a → AreEven a.dims start sizes s → first ≡ place_of a.dims start → LieEvenly (plain_at a) start sizes a.cells first s
at_evenly a start sizes first s plain even e p h =
    let at = even_place a.dims start sizes s p even h in
    let idx = sums start (index_at sizes p) in
    let below : place_of a.dims idx < product a.dims = place-below a.dims idx at.0 in
    let place : first + p * s ≡ place_of a.dims idx = ap (λ n. n + p * s) e ∙ sym at.1 in
    let there = stands a.cells (place_of a.dims idx) (let c = plain.count in omega arith) in
    rw (place, test_from_inside a.dims idx at.0) there

-- the elements of an array in such a box
pub plain_evenly : (a : PlainArray) (ds start sizes : List ℕ) (cells : List ℤ) (s : AxisSpan) → IsPlain a → ds ≡ a.dims → cells ≡ a.cells → IsSpan ds start sizes s → LieEvenly (plain_at a) start sizes cells s.first s.stride
plain_evenly a ds start sizes cells s plain d c span =
    let even = subst (λ (xs : List ℕ). AreEven xs start sizes s.stride) d span.even in
    let first = span.first ∙ ap (λ (xs : List ℕ). place_of xs start) d in
    subst (λ (xs : List ℤ). LieEvenly (plain_at a) start sizes xs s.first s.stride) (sym c) (at_evenly a start sizes s.first s.stride plain even first)
