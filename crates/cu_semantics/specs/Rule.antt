-- The element of a node by its operator, over the elements of its arguments (Python array API), and the types that it needs for
-- the element to be a number of the node's type. Nothing here speaks of chunks.
use Rattle.std.specs.Prelude.{ℕ, ℤ, pos, List, [], ◌∷◌, length, map, Option, option_map, if◌then◌else◌, slice_index, ◌≡◌, ◌≤◌, ◌^◌, true, All}
use Rattle.std.specs.Int.{int_min, int_max}
use Rattle.cu_num.specs.Scalar.{op1, op2, is_nonzero}
use Rattle.cu_num.specs.Wrap.{wrapped}
use Rattle.cu_num.specs.declared.functions.Fn1.TheVariants.{Astype}
use Rattle.cu_num.specs.declared.types.Dtype.{Dtype}
use Rattle.cu_shape.specs.Index.{back, is_inside, product}
use Rattle.cu_origin.specs.Pull.{is_in_triangle}
use Rattle.cu_node.specs.declared.element_op.ElementOp.{ElementOp}
use Rattle.cu_form.specs.Form.{group_kind, args_of}
use Rattle.cu_form.specs.declared.form.Form.{Form}
use Rattle.cu_node.specs.Info.{info_at}
use Rattle.cu_node.specs.Literal.{literal_number}
use Rattle.cu_node.specs.declared.info.NodeInfo.{NodeInfo}
use Rattle.cu_semantics.specs.Along.{line_axis, along, sum_up_to, places_on}
use Rattle.cu_semantics.specs.Argument.{NodeElements, shape_of_node, argument_at, source_at, source_shape}
use Rattle.cu_semantics.specs.Index.{axis_in}
use Rattle.cu_semantics.specs.Matmul.{matmul_at}
use Rattle.cu_semantics.specs.Reduction.{reduced_elements, reduced_box}
use Rattle.cu_reduce.specs.Folds.{fold_of}
use Rattle.cu_reduce.specs.Labels.{grouped_at}
use Rattle.cu_reduce.specs.Places.{best_place}
use Rattle.cu_semantics.specs.View.{arange_at, eye_at, indexed, permuted_index, same_place, flipped_index, rolled_index, concat_at, stack_at}
use Rattle.cu_num.specs.Dtype.{InRange}
use Rattle.cu_num.specs.declared.types.Dtype.TheVariants.{Int64}
use Rattle.cu_semantics.specs.Typed.{type_of_node, FitsType, IsResultType}

-- An elementwise function of its arguments' elements. `t` is the type of the result: comparisons and logical functions do not
-- depend on the type.
abbrev pub function_value : ElementOp → Dtype → List ℤ → ℤ
function_value (ElementOp.One f) t (x ∷ []) = op1 f t x
function_value (ElementOp.Two f) t (x ∷ y ∷ []) = op2 f t x y
function_value ElementOp.Where t (c ∷ x ∷ y ∷ []) = if is_nonzero c then x else y
function_value (ElementOp.Astype d) t (x ∷ []) = op1 Astype d x
function_value (ElementOp.Extreme least) t (x ∷ y ∷ []) = if least then int_min x y else int_max x y
function_value (ElementOp.Clip min max) t (x ∷ []) = int_min max (int_max min x)
function_value op t xs = pos 0

-- the axes over which a place is sought: one, or all
abbrev pub place_axes : Option ℤ → Option (List ℤ)
place_axes axis = option_map (λ d. d ∷ []) axis

-- the element of node number k at an index that lies inside its shape
abbrev pub rule_of : List NodeInfo → NodeElements → NodeElements → ℕ → Form → List ℕ → ℤ
rule_of infos env at k (Form.Input name) idx = env k idx
rule_of infos env at k (Form.Elementwise op args) idx = function_value op (info_at infos k).dtype (map (argument_at infos at idx) args)
rule_of infos env at k (Form.Full shape dtype value chunk) idx = literal_number value
rule_of infos env at k (Form.Arange start stop step dtype chunk) idx = arange_at start step idx
rule_of infos env at k (Form.Eye rows cols d dtype chunk) idx = eye_at d idx
rule_of infos env at k (Form.Triangle lower args d) idx = if is_in_triangle lower d idx then source_at at args 0 idx else pos 0
rule_of infos env at k (Form.Index args items) idx = source_at at args 0 (indexed items (source_shape infos args 0) idx)
rule_of infos env at k (Form.Concat args axis) idx = concat_at infos at (axis_in (length idx) axis) args idx
rule_of infos env at k (Form.Stack args axis) idx = stack_at at (axis_in (length idx) axis) args idx
rule_of infos env at k (Form.PermuteDims args axes) idx = source_at at args 0 (permuted_index axes idx)
rule_of infos env at k (Form.Reshape args shape) idx = source_at at args 0 (same_place (source_shape infos args 0) (shape_of_node infos k) idx)
rule_of infos env at k (Form.Flip args axes) idx = source_at at args 0 (flipped_index axes (shape_of_node infos k) idx)
rule_of infos env at k (Form.Roll args shifts axes) idx = source_at at args 0 (rolled_index shifts axes (shape_of_node infos k) idx)
rule_of infos env at k (Form.BroadcastTo args shape chunk) idx = source_at at args 0 (back (source_shape infos args 0) idx)
rule_of infos env at k (Form.Rechunk args chunk) idx = source_at at args 0 idx
rule_of infos env at k (Form.Reduce kind args axes keepdims) idx =
    wrapped (info_at infos k).dtype (fold_of kind (reduced_elements (source_at at args 0) axes keepdims (source_shape infos args 0) idx))
rule_of infos env at k (Form.ArgPlace least args axis keepdims) idx =
    pos (best_place least (reduced_elements (source_at at args 0) (place_axes axis) keepdims (source_shape infos args 0) idx))
rule_of infos env at k (Form.Matmul args) idx =
    wrapped (info_at infos k).dtype (matmul_at (source_at at args 0) (source_shape infos args 0) (source_at at args 1) (source_shape infos args 1) idx)
rule_of infos env at k (Form.CumulativeSum args axis) idx =
    wrapped (info_at infos k).dtype (sum_up_to (source_at at args 0) (line_axis (length idx) axis) idx)
rule_of infos env at k (Form.GroupBy least args axis groups) idx =
    wrapped (info_at infos k).dtype
    (grouped_at (group_kind least) (info_at infos k).dtype (λ p. source_at at args 1 (p ∷ []))
    (along (source_at at args 0) (axis_in (length idx) axis) idx) (slice_index idx (axis_in (length idx) axis))
    (places_on (source_shape infos args 0) (axis_in (length idx) axis)))

-- What the types of the nodes have to be so that the rule of node k gives numbers of the node's type. Typing gives it.
abbrev pub KeepsType : List NodeInfo → NodeElements → ℕ → Form → Type 0
KeepsType infos env k (Form.Input name) = (idx : List ℕ) → InRange (type_of_node infos k) (env k idx)
KeepsType infos env k (Form.Elementwise op args) = IsResultType infos (type_of_node infos k) op args
KeepsType infos env k (Form.Full shape dtype value chunk) = InRange (type_of_node infos k) (literal_number value)
KeepsType infos env k (Form.Arange start stop step dtype chunk) = (idx : List ℕ) → is_inside (shape_of_node infos k) idx ≡ true → InRange (type_of_node infos k) (arange_at start step idx)
KeepsType infos env k (Form.Eye rows cols d dtype chunk) = Unit {0}
KeepsType infos env k (Form.Reduce kind args axes keepdims) = Unit {0}
KeepsType infos env k (Form.ArgPlace least args axis keepdims) = (type_of_node infos k ≡ Int64) × (product (reduced_box (place_axes axis) (source_shape infos args 0)) ≤ 2 ^ 40)
KeepsType infos env k (Form.Matmul args) = Unit {0}
KeepsType infos env k (Form.CumulativeSum args axis) = Unit {0}
KeepsType infos env k (Form.GroupBy least args axis groups) = Unit {0}
KeepsType infos env k form = All (FitsType infos (type_of_node infos k)) (args_of form)

-- outside the node's shape the element is 0
abbrev pub node_element : List NodeInfo → NodeElements → NodeElements → ℕ → Form → List ℕ → ℤ
node_element infos env at k form idx = if is_inside (shape_of_node infos k) idx then rule_of infos env at k form idx else pos 0
