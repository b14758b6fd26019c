-- Reading through broadcasting, axis by axis.
use Rattle.std.proofs.Common.{◌≡◌, ℕ, ◌<◌, ◌≤◌, ◌+◌, ◌-◌, ◌==◌, List, [], ◌∷◌, length, drop, get_or, refl, ap, sym, ◌∙◌, subst, arith, if◌then◌else◌}
use Rattle.std.proofs.lemmas.List.{length-drop, get_or-drop}
use Rattle.cu_shape.specs.Index.{axis_by_axis, back_along, back}
use Rattle.cu_shape.proofs.Axes.{axis_by_axis_from}

-- where an axis of this size is read
abbrev read_on : ℕ → ℕ → ℕ
read_on n i = if n == 1 then 0 else i

along_axes : (shape is : List ℕ) → back_along shape is ≡ axis_by_axis read_on shape is
along_axes [] is = refl
along_axes (n ∷ ns) [] = refl
along_axes (n ∷ ns) (i ∷ is) = ap (λ rest. read_on n i ∷ rest) (along_axes ns is)

-- a list that has each axis' number is what is read
pub back_from : (r shape is : List ℕ) (first : ℕ) → first ≡ length is - length shape → length shape ≤ length is → length r ≡ length shape
    → ((k : ℕ) → k < length shape → get_or r k 0 ≡ (if get_or shape k 0 == 1 then 0 else get_or is (first + k) 0)) → r ≡ back shape is
back_from r shape is first e l p h =
    let n : length (drop first is) ≡ length is - first = length-drop first is in
    let all : r ≡ axis_by_axis read_on shape (drop first is) = axis_by_axis_from read_on r shape (drop first is) p (omega arith)
    (λ k b. h k b ∙ ap (read_on (get_or shape k 0)) (sym (get_or-drop first is k 0))) in
    let there : r ≡ back_along shape (drop first is) = all ∙ sym (along_axes shape (drop first is)) in
    subst (λ (f : ℕ). r ≡ back_along shape (drop f is)) e there
