-- What the typing of a reduction and of a search for places says of their steps.
use Rattle.std.proofs.Common.{◌≡◌, ℕ, ◌<◌, ◌≤◌, ◌+◌, ◌==◌, ◌&&◌, Bool, true, false, ℤ, List, [], ◌∷◌, Option, Some, None, Ok, length, get_or, refl, ap, sym, ◌∙◌, subst, arith, if◌then◌else◌}
use Rattle.std.specs.Prelude.{◌≢◌, nat_le, option_map, unwrap_or, replicate}
use Rattle.std.specs.List.{list_all}
use Rattle.std.proofs.lemmas.Bool.{and_parts, eq-eqb, leb-true}
use Rattle.cu_num.specs.Dtype.{is_signed, IsInteger}
use Rattle.cu_num.specs.Fold.{fold_type}
use Rattle.cu_num.specs.declared.folds.FoldKind.{FoldKind}
use Rattle.cu_num.specs.declared.folds.FoldKind.TheVariants as fold
use Rattle.cu_num.specs.declared.types.Dtype.{Dtype}
use Rattle.cu_num.specs.declared.types.Dtype.TheVariants.{Int64, Uint64}
use Rattle.cu_shape.specs.Index.{product}
use Rattle.cu_form.specs.Form.{are_arrays, is_array}
use Rattle.cu_form.specs.declared.args.Arg.{Arg}
use Rattle.cu_node.specs.Info.{IsInfo}
use Rattle.cu_node.specs.declared.info.NodeInfo.{NodeInfo}
use Rattle.cu_op.specs.Places.{HasPlaceAxis}
use Rattle.cu_op.specs.Partial.{partial_grid, IsSqueezed}
use Rattle.cu_origin.specs.Pull.{has_axis}
use Rattle.cu_reduce.specs.Groups.{groups_of}
use Rattle.cu_reduce.specs.Kinds.{Accumulates, HasEnough}
use Rattle.cu_tree.specs.Marks.{marked_axes}
use Rattle.cu_tree.proofs.Bits.{marked}
use Rattle.cu_typing.specs.Reduction.{fold_rule, place_rule, needs_element, marks_of, reduced_sizes, typed_reduction, typed_arg_place}
use Rattle.cu_typing.proofs.PassedTogether.{reduction_passed}
use Rattle.cu_need.specs.Reduction.{axes_reduced, axes_sought, sought_axis}
use Rattle.cu_need.proofs.SoughtAxes.{sought_marked}
use Rattle.cu_lower_view.proofs.Marks.{axis_below}
use Rattle.cu_lower_reduce.specs.Reductions.{whole_groups, IsReduction}
use Rattle.cu_lower_reduce.specs.Searches.{IsSearch}
use Rattle.cu_lower_reduce.specs.Steps.{grid_of}
use Rattle.cu_lower.proofs.Marked.{AreMarked, squeezed, have_elements}

-- ---- arguments

-- one argument that is an array
pub one_array : (args : List Arg) → are_arrays 1 1 args ≡ true → (n : ℕ) × (args ≡ Arg.Node n ∷ [])
one_array [] h = cc
one_array (Arg.Node n ∷ []) h = (n, refl)
one_array (Arg.Int x ∷ []) h = cc
one_array (Arg.Truth b ∷ []) h = cc
one_array (x ∷ y ∷ args) h =
    let a = and_parts (nat_le 1 (length (x ∷ y ∷ args)) && nat_le (length (x ∷ y ∷ args)) 1) (list_all is_array (x ∷ y ∷ args)) h in
    let b = and_parts (nat_le 1 (length (x ∷ y ∷ args))) (nat_le (length (x ∷ y ∷ args)) 1) a.0 in
    let c = leb-true (length (x ∷ y ∷ args)) 1 b.1 in
    absurd (omega (arith, c))

-- two
pub two_arrays : (args : List Arg) → are_arrays 2 2 args ≡ true → (m : ℕ) × ((n : ℕ) × (args ≡ Arg.Node m ∷ Arg.Node n ∷ []))
two_arrays [] h = cc
two_arrays (x ∷ []) h = cc
two_arrays (Arg.Node m ∷ Arg.Node n ∷ []) h = (m, (n, refl))
two_arrays (Arg.Int x ∷ y ∷ []) h = cc
two_arrays (Arg.Truth b ∷ y ∷ []) h = cc
two_arrays (Arg.Node m ∷ Arg.Int y ∷ []) h = cc
two_arrays (Arg.Node m ∷ Arg.Truth b ∷ []) h = cc
two_arrays (x ∷ y ∷ z ∷ args) h =
    let a = and_parts (nat_le 2 (length (x ∷ y ∷ z ∷ args)) && nat_le (length (x ∷ y ∷ z ∷ args)) 2) (list_all is_array (x ∷ y ∷ z ∷ args)) h in
    let b = and_parts (nat_le 2 (length (x ∷ y ∷ z ∷ args))) (nat_le (length (x ∷ y ∷ z ∷ args)) 2) a.0 in
    let c = leb-true (length (x ∷ y ∷ z ∷ args)) 2 b.1 in
    absurd (omega (arith, c))

-- ---- types

wide : (signed : Bool) → IsInteger (if signed then Int64 else Uint64)
wide true = tt
wide false = tt

pub accumulates : (kind : FoldKind) (t : Dtype) → Accumulates kind t (fold_type kind t)
accumulates fold.Sum t = wide (is_signed t)
accumulates fold.Prod t = wide (is_signed t)
accumulates fold.Min t = refl
accumulates fold.Max t = refl
accumulates fold.Any t = refl
accumulates fold.All t = refl

-- ---- elements

pub not_empty : (p : ℕ) → (true && p == 0) ≡ false → p ≢ 0
not_empty p h e = let z = eq-eqb p 0 e in let no : true ≡ false = sym (ap (λ (b : Bool). true && b) z) ∙ h in cc

pub enough : (kind : FoldKind) (reduced : ℕ → Bool) (ms : List Bool) (ns : List ℕ) → AreMarked reduced 0 ms ns → (needs_element kind && product (reduced_sizes ns ms) == 0) ≡ false → HasEnough kind (groups_of reduced ns) ns
enough fold.Sum reduced ms ns h some = tt
enough fold.Prod reduced ms ns h some = tt
enough fold.Min reduced ms ns h some = have_elements reduced 0 ms ns h (not_empty (product (reduced_sizes ns ms)) some)
enough fold.Max reduced ms ns h some = have_elements reduced 0 ms ns h (not_empty (product (reduced_sizes ns ms)) some)
enough fold.Any reduced ms ns h some = tt
enough fold.All reduced ms ns h some = tt

-- ---- a reduction

-- its axes are those that are marked
pub reduced_marked : (from : NodeInfo) (axes : Option (List ℤ)) (ms : List Bool) → marks_of (length from.dims) axes ≡ Some ms → AreMarked (has_axis (axes_reduced from axes)) 0 ms from.dims
reduced_marked from axes ms named i l =
    ap (λ o. has_axis (marked_axes (unwrap_or o (replicate 6 false))) (0 + i)) named ∙ marked ms (0 + i) ∙ ap (λ d. get_or ms d false) (let e : 0 + i ≡ i = omega arith in e)

pub reduction_typed : (kind : FoldKind) (axes : Option (List ℤ)) (keepdims : Bool) (from made : NodeInfo) (source : ℕ) → IsInfo from → IsInfo made → typed_reduction kind axes keepdims from ≡ Ok made
    → IsReduction (record { kind = kind; axes = axes_reduced from axes; source = source; from = from; made = made })
reduction_typed kind axes keepdims from made source kept_from kept_made typed =
    let (ms, p) = reduction_passed (fold_rule kind from.dtype) axes keepdims from made typed in
    let are = reduced_marked from axes ms p.named in
    record {
      from = kept_from;
      made = kept_made;
      result = subst (λ (m : NodeInfo). IsSqueezed (partial_grid (whole_groups (axes_reduced from axes) from.dims) (grid_of from)) (grid_of m)) (sym p.array)
          (squeezed (has_axis (axes_reduced from axes)) 0 keepdims ms from.dims from.chunk kept_from.ranks are);
      types = subst (Accumulates kind from.dtype) (sym (ap (λ (m : NodeInfo). m.dtype) p.array)) (accumulates kind from.dtype);
      enough = enough kind (has_axis (axes_reduced from axes)) ms from.dims are p.elements;
    }

-- ---- a search for places

pub sought_are : (from : NodeInfo) (axis : Option ℤ) (ms : List Bool) → length from.dims ≤ 6 → marks_of (length from.dims) (option_map (λ d. d ∷ []) axis) ≡ Some ms → AreMarked (has_axis (axes_sought from axis)) 0 ms from.dims
sought_are from axis ms few named i l =
    ap (has_axis (axes_sought from axis)) (let e : 0 + i ≡ i = omega arith in e) ∙ sought_marked (length from.dims) axis ms i few l named

pub along_axis : (from : NodeInfo) (axis : Option ℤ) → HasPlaceAxis (sought_axis (length from.dims) axis) from.dims
along_axis from axis = below (sought_axis (length from.dims) axis) refl
  where
    below : (o : Option ℕ) → sought_axis (length from.dims) axis ≡ o → HasPlaceAxis o from.dims
    below None is = tt
    below (Some d) is = named axis is
      where
        named : (a : Option ℤ) → sought_axis (length from.dims) a ≡ Some d → d < length from.dims
        named None is = cc
        named (Some x) is = axis_below x (length from.dims) d is

pub search_typed : (least : Bool) (axis : Option ℤ) (keepdims : Bool) (from made : NodeInfo) (source : ℕ) → IsInfo from → IsInfo made → typed_arg_place axis keepdims from ≡ Ok made
    → IsSearch (record { least = least; axis = sought_axis (length from.dims) axis; source = source; from = from; made = made })
search_typed least axis keepdims from made source kept_from kept_made typed =
    let (ms, p) = reduction_passed (place_rule from.dtype) (option_map (λ d. d ∷ []) axis) keepdims from made typed in
    let are = sought_are from axis ms kept_from.short p.named in
    record {
      from = kept_from;
      made = kept_made;
      along = along_axis from axis;
      result = subst (λ (m : NodeInfo). IsSqueezed (partial_grid (whole_groups (axes_sought from axis) from.dims) (grid_of from)) (grid_of m)) (sym p.array)
          (squeezed (has_axis (axes_sought from axis)) 0 keepdims ms from.dims from.chunk kept_from.ranks are);
      places = ap (λ (m : NodeInfo). m.dtype) p.array;
      enough = have_elements (has_axis (axes_sought from axis)) 0 ms from.dims are (not_empty (product (reduced_sizes from.dims ms)) p.elements);
    }
