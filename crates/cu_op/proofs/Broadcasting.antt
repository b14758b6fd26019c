-- Reading through broadcasting, axis by axis.
use Rattle.std.proofs.Common.{◌≡◌, ℕ, zero, suc, ◌<◌, ◌≤◌, ◌+◌, ◌-◌, ◌==◌, List, [], ◌∷◌, length, drop, get_or, refl, ap, sym, ◌∙◌, subst, arith, if◌then◌else◌}
use Rattle.std.proofs.lemmas.List.{length-drop, get_or-drop}
use Rattle.cu_shape.specs.Index.{IsInside, axis_by_axis}
use Rattle.cu_shape.proofs.Axes.{axis_by_axis_from}
use Rattle.cu_op.specs.Walks.{back_as}

-- where an axis of this size is read
abbrev pub read_on : ℕ → ℕ → ℕ
read_on n i = if n == 1 then 0 else i

-- a list that has each axis' number is what is read
pub as_from : (one : ℕ) (r shape is : List ℕ) (first : ℕ) → first ≡ length is - length shape → length shape ≤ length is → length r ≡ length shape
    → ((k : ℕ) → k < length shape → get_or r k 0 ≡ (if get_or shape k 0 == 1 then one else get_or is (first + k) 0)) → r ≡ back_as one shape is
as_from one r shape is first e l p h =
    let n : length (drop first is) ≡ length is - first = length-drop first is in
    let all : r ≡ axis_by_axis (λ x i. if x == 1 then one else i) shape (drop first is) = axis_by_axis_from (λ x i. if x == 1 then one else i) r shape (drop first is) p (omega arith)
    (λ k b. h k b ∙ ap (λ i. if get_or shape k 0 == 1 then one else i) (sym (get_or-drop first is k 0))) in
    subst (λ (f : ℕ). r ≡ axis_by_axis (λ x i. if x == 1 then one else i) shape (drop f is)) e all

-- leading axes fall away
pub inside_drop : (k : ℕ) (ns is : List ℕ) → IsInside ns is → IsInside (drop k ns) (drop k is)
inside_drop zero ns is h = h
inside_drop (suc k) [] [] h = tt
inside_drop (suc k) [] (i ∷ is) h = absurd h
inside_drop (suc k) (n ∷ ns) [] h = absurd h
inside_drop (suc k) (n ∷ ns) (i ∷ is) h = inside_drop k ns is h.1

pub axes_drop : (f : ℕ → ℕ → ℕ) (k : ℕ) (xs ys : List ℕ) → length xs ≡ length ys → drop k (axis_by_axis f xs ys) ≡ axis_by_axis f (drop k xs) (drop k ys)
axes_drop f zero xs ys e = refl
axes_drop f (suc k) [] ys e = refl
axes_drop f (suc k) (x ∷ xs) [] e = absurd (omega arith)
axes_drop f (suc k) (x ∷ xs) (y ∷ ys) e = axes_drop f k xs ys (omega arith)

pub axes_short : (f : ℕ → ℕ → ℕ) (xs ys : List ℕ) → length (axis_by_axis f xs ys) ≤ length xs
axes_short f [] ys = omega arith
axes_short f (x ∷ xs) [] = omega arith
axes_short f (x ∷ xs) (y ∷ ys) = let rest = axes_short f xs ys in omega (arith, rest)

-- what is read has no more axes than the array
pub back_short : (one : ℕ) (shape numbers : List ℕ) → length (back_as one shape numbers) ≤ length shape
back_short one shape numbers = axes_short (λ n i. if n == 1 then one else i) shape (drop (length numbers - length shape) numbers)
