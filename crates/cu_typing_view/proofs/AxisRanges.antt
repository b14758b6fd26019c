-- A function axis by axis, on a range of axes.
use Rattle.std.proofs.Common.{◌≡◌, ◌∙◌, ℕ, zero, suc, ◌≤◌, List, [], ◌∷◌, length, take, drop, refl, ap, arith}
use Rattle.std.proofs.lemmas.List.{take_all, length-drop}
use Rattle.cu_shape.specs.Index.{axis_by_axis}
use Rattle.cu_shape.proofs.Axes.{length-axis_by_axis}

pub axes_drop : (f : ℕ → ℕ → ℕ) (k : ℕ) (xs ys : List ℕ) → length xs ≡ length ys → drop k (axis_by_axis f xs ys) ≡ axis_by_axis f (drop k xs) (drop k ys)
axes_drop f zero xs ys e = refl
axes_drop f (suc k) [] ys e = refl
axes_drop f (suc k) (x ∷ xs) [] e = absurd (omega arith)
axes_drop f (suc k) (x ∷ xs) (y ∷ ys) e = axes_drop f k xs ys (omega arith)

axes_take : (f : ℕ → ℕ → ℕ) (k : ℕ) (xs ys : List ℕ) → take k (axis_by_axis f xs ys) ≡ axis_by_axis f (take k xs) (take k ys)
axes_take f zero xs ys = refl
axes_take f (suc k) [] ys = refl
axes_take f (suc k) (x ∷ xs) [] = refl
axes_take f (suc k) (x ∷ xs) (y ∷ ys) = ap (λ rest. f x y ∷ rest) (axes_take f k xs ys)

-- on the axes from k on, n of them
pub axes_range : (f : ℕ → ℕ → ℕ) (n k : ℕ) (xs ys : List ℕ) → length xs ≡ length ys → take n (drop k (axis_by_axis f xs ys)) ≡ axis_by_axis f (take n (drop k xs)) (take n (drop k ys))
axes_range f n k xs ys e = ap (take n) (axes_drop f k xs ys e) ∙ axes_take f n (drop k xs) (drop k ys)

-- on all axes from k on
pub axes_rest : (f : ℕ → ℕ → ℕ) (n k : ℕ) (xs ys : List ℕ) → length xs ≡ length ys → length xs ≤ n → take n (drop k (axis_by_axis f xs ys)) ≡ axis_by_axis f (drop k xs) (drop k ys)
axes_rest f n k xs ys e within =
    let long = length-axis_by_axis f xs ys e in
    let left = length-drop k (axis_by_axis f xs ys) in
    take_all n (drop k (axis_by_axis f xs ys)) (omega arith) ∙ axes_drop f k xs ys e
