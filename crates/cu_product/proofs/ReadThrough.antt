-- Which regions of an operand are read through broadcasting: a region of the result, with the whole of each stretched axis.
use Rattle.std.proofs.Common.{inl, inr, ◌≡◌, ℕ, zero, suc, ◌<◌, ◌≤◌, ◌-◌, ◌==◌, List, [], ◌∷◌, length, drop, refl, ap, sym, ◌∙◌, subst, arith, if◌then◌else◌}
use Rattle.std.proofs.lemmas.Bool.Decides.{eqb_tells}
use Rattle.std.proofs.lemmas.List.{length-drop}
use Rattle.cu_shape.specs.Index.{axis_by_axis, differences, back_along, IsInside}
use Rattle.cu_shape.proofs.Axes.{length-axis_by_axis}
use Rattle.cu_shape.proofs.Places.{inside-length}
use Rattle.cu_product.specs.Block.{IsReadThrough}

-- the numbers of an array's axes, where an axis of size 1 has this one
abbrev pub numbers_as : ℕ → List ℕ → List ℕ → List ℕ
numbers_as one shape numbers = axis_by_axis (λ n i. if n == 1 then one else i) shape numbers

-- the sizes of the array's region for the result's region from `lo` to below `hi`
abbrev pub region_along : List ℕ → List ℕ → List ℕ → List ℕ
region_along shape lo hi = differences (numbers_as 1 shape hi) (numbers_as 0 shape lo)

inside_on : (n l h i : ℕ) → i < h - l → let d = (if n == 1 then 1 else h) - (if n == 1 then 0 else l) in (if d == 1 then 0 else i) < d
inside_on n l h i b = elim (eqb_tells n 1) [
  | inl p ↦ rw p.0 (omega arith)
  | inr p ↦ rw p.0 (elim (eqb_tells (h - l) 1) [ inl q ↦ rw q.0 (omega arith) | inr q ↦ rw q.0 b ])
]

inside_along : (shape lo hi idx : List ℕ) → length lo ≡ length shape → length hi ≡ length shape → IsInside (differences hi lo) idx
    → IsInside (region_along shape lo hi) (back_along (region_along shape lo hi) idx)
inside_along [] [] [] [] p q h = tt
inside_along (n ∷ ns) (l ∷ ls) (t ∷ ts) (i ∷ is) p q h = (inside_on n l t i h.0, inside_along ns ls ts is (omega arith) (omega arith) h.1)
inside_along shape lo hi idx p q h = absurd (first_of (assumption, omega arith))

drop_differences : (k : ℕ) (xs ys : List ℕ) → length xs ≡ length ys → drop k (differences xs ys) ≡ differences (drop k xs) (drop k ys)
drop_differences zero xs ys h = refl
drop_differences (suc k) [] [] h = refl
drop_differences (suc k) (x ∷ xs) (y ∷ ys) h = drop_differences k xs ys (omega arith)
drop_differences (suc k) [] (y ∷ ys) h = absurd (omega arith)
drop_differences (suc k) (x ∷ xs) [] h = absurd (omega arith)

drop_inside : (k : ℕ) (ds is : List ℕ) → IsInside ds is → IsInside (drop k ds) (drop k is)
drop_inside zero ds is h = h
drop_inside (suc k) [] [] h = tt
drop_inside (suc k) [] (i ∷ is) h = absurd h
drop_inside (suc k) (d ∷ ds) [] h = absurd h
drop_inside (suc k) (d ∷ ds) (i ∷ is) h = drop_inside k ds is h.1

-- the region of an array of this shape for a region of the result
pub region_read : (shape lo hi : List ℕ) → length shape ≤ length lo → length hi ≡ length lo
    → IsReadThrough (region_along shape (drop (length lo - length shape) lo) (drop (length hi - length shape) hi)) (differences hi lo)
region_read shape lo hi short e idx h =
    let k = length lo - length shape in
    let front = drop k lo in
    let back_end = drop (length hi - length shape) hi in
    let region = region_along shape front back_end in
    let same : length hi - length shape ≡ k = omega (arith, e) in
    let long_front : length front ≡ length shape = length-drop k lo ∙ omega arith in
    let long_back : length back_end ≡ length shape = length-drop (length hi - length shape) hi ∙ omega (arith, e) in
    let ends = length-axis_by_axis (λ n i. if n == 1 then 1 else i) shape back_end (sym long_back) in
    let begins = length-axis_by_axis (λ n i. if n == 1 then 0 else i) shape front (sym long_front) in
    let long : length region ≡ length shape = length-axis_by_axis (λ i j. i - j) (numbers_as 1 shape back_end) (numbers_as 0 shape front) (ends ∙ sym begins) ∙ ends in
    let long_idx : length idx ≡ length lo = inside-length (differences hi lo) idx h ∙ length-axis_by_axis (λ i j. i - j) hi lo e ∙ e in
    let at : length idx - length region ≡ k = omega (arith, long, long_idx) in
    let inside : IsInside (differences back_end front) (drop k idx) =
    subst (λ ds. IsInside ds (drop k idx)) (drop_differences k hi lo e ∙ ap (λ j. differences (drop j hi) front) (sym same)) (drop_inside k (differences hi lo) idx h) in
    subst (λ j. IsInside region (back_along region (drop j idx))) (sym at) (inside_along shape front back_end (drop k idx) long_front long_back inside)
