-- Axes of size 1 that are put in or taken out leave the other sizes as they are.
use Rattle.std.proofs.Common.{◌≡◌, ◌∙◌, ℕ, ◌+◌, ◌==◌, not, ◌||◌, Bool, true, false, ℤ, List, [], ◌∷◌, ◌++◌, length, take, drop, Ok, refl, ap, sym}
use Rattle.std.specs.Prelude.{insert}
use Rattle.std.proofs.lemmas.Bool.{and_parts, eqb-true}
use Rattle.std.proofs.lemmas.List.{take-append-drop}
use Rattle.std.proofs.lemmas.List.Elements.{filter-append}
use Rattle.cu_result.specs.Results.{◌>>=◌, check}
use Rattle.cu_result.proofs.ResultSteps.{check_step_ok, need_step_ok}
use Rattle.cu_node.specs.Axes.{axis_of, marked_of}
use Rattle.cu_node.specs.Fault.{fault}
use Rattle.cu_node.specs.Limited.{limited}
use Rattle.cu_node.specs.declared.faults.FaultCode.TheVariants.{Axis}
use Rattle.cu_node.specs.declared.info.NodeInfo.{NodeInfo}
use Rattle.cu_origin.specs.Fits.{without_ones}
use Rattle.cu_typing_view.specs.NewShapes.{typed_expand, unless_marked, unmarked, are_single, typed_squeeze}
use Rattle.cu_lower_view.proofs.Typed.{limited_array}

abbrev is_kept : ℕ → Bool
is_kept n = not (n == 1)

-- ---- put in

inserted : (xs : List ℕ) (k : ℕ) → without_ones (insert xs k 1) ≡ without_ones xs
inserted xs k =
    filter-append is_kept (take k xs) (1 ∷ drop k xs) ∙ sym (filter-append is_kept (take k xs) (drop k xs)) ∙ ap without_ones (take-append-drop k xs)

pub expanded_ones : (a : NodeInfo) (number : ℤ) (i : NodeInfo) → typed_expand a number ≡ Ok i → without_ones i.dims ≡ without_ones a.dims
expanded_ones a number i h =
    let p = need_step_ok (axis_of number (length a.dims + 1)) (fault Axis) (λ axis. limited a.dtype (insert a.dims axis 1) (insert a.chunk axis 1)) i h in
    let g = limited_array a.dtype (insert a.dims p.0 1) (insert a.chunk p.0 1) i p.2 in
    ap without_ones g.dims ∙ inserted a.dims p.0

-- ---- taken out

first_left_out : (m : Bool) (n : ℕ) → (not m || n == 1) ≡ true → without_ones (unless_marked m n) ≡ without_ones (n ∷ [])
first_left_out true n h = let e : n ≡ 1 = eqb-true n 1 h in rw e refl
first_left_out false n h = refl

left_out : (ns : List ℕ) (ms : List Bool) → are_single ns ms ≡ true → without_ones (unmarked ns ms) ≡ without_ones ns
left_out [] ms h = refl
left_out (n ∷ ns) [] h = refl
left_out (n ∷ ns) (m ∷ ms) h =
    let both = and_parts (not m || n == 1) (are_single ns ms) h in
    filter-append is_kept (unless_marked m n) (unmarked ns ms)
    ∙ ap (λ xs. xs ++ without_ones (unmarked ns ms)) (first_left_out m n both.0)
    ∙ ap (λ xs. without_ones (n ∷ []) ++ xs) (left_out ns ms both.1)
    ∙ sym (filter-append is_kept (n ∷ []) ns)

pub squeezed_ones : (a : NodeInfo) (axes : List ℤ) (i : NodeInfo) → typed_squeeze a axes ≡ Ok i → without_ones i.dims ≡ without_ones a.dims
squeezed_ones a axes i h =
    let p = need_step_ok (marked_of (length a.dims) axes) (fault Axis) (λ marks. check (are_single a.dims marks) (fault Axis) >>= λ _. limited a.dtype (unmarked a.dims marks) (unmarked a.chunk marks)) i h in
    let q = check_step_ok (are_single a.dims p.0) (fault Axis) (λ _. limited a.dtype (unmarked a.dims p.0) (unmarked a.chunk p.0)) i p.2 in
    let g = limited_array a.dtype (unmarked a.dims p.0) (unmarked a.chunk p.0) i q.1 in
    ap without_ones g.dims ∙ left_out a.dims p.0 q.0
