-- What a node of an expression adds to a plan (this project's own rule).
use Rattle.std.specs.Prelude.{◌≡◌, ℕ, ◌+◌, ◌-◌, ◌*◌, ◌^◌, ◌<◌, ◌≤◌, ◌==◌, ◌&&◌, not, true, false, IsOk, All, ℤ, pos, List, [], ◌∷◌, ◌++◌, length, map, slice_index, Option, None, Some, Result, Ok, Err, unwrap_or, if◌then◌else◌, Bool as Test}
use Rattle.cu_num.specs.declared.layout.Encoding.TheVariants.{Plain}
use Rattle.cu_num.specs.declared.layout.Endian.TheVariants.{Little}
use Rattle.cu_num.specs.declared.layout.Sep.TheVariants.{Slash}
use Rattle.cu_num.specs.declared.types.Dtype.{Dtype}
use Rattle.cu_num.specs.declared.types.Dtype.TheVariants.{Bool}
use Rattle.cu_grid.specs.Grid.{IsGrid}
use Rattle.cu_name.specs.Keys.{made_prefix_of}
use Rattle.cu_op.specs.Arrays.{maker_at}
use Rattle.cu_op.specs.Kind.Map.{map_of}
use Rattle.cu_op.specs.Operation.{IsBefore}
use Rattle.cu_op.specs.declared.kernel.Instr.{Instr}
use Rattle.cu_op.specs.declared.layout.ArrayInfo.{ArrayInfo}
use Rattle.cu_op.specs.declared.layout.Layout.{Layout}
use Rattle.cu_op.specs.declared.operation.Op.{Op}
use Rattle.cu_op.specs.declared.operation.Op.TheVariants.{Pull}
use Rattle.cu_op.specs.declared.operation.Planned.{Planned}
use Rattle.cu_form.specs.Expression.{Expression}
use Rattle.cu_form.specs.Form.{args_of, group_kind, names_earlier, takes_args, HasShortIndex}
use Rattle.cu_form.specs.declared.args.Arg.{Arg}
use Rattle.cu_node.specs.declared.element_op.ElementOp.{ElementOp}
use Rattle.cu_form.specs.declared.form.Form.{Form}
use Rattle.cu_node.specs.Info.{info_at}
use Rattle.cu_node.specs.declared.faults.NodeFault.{NodeFault}
use Rattle.cu_node.specs.declared.info.NodeInfo.{NodeInfo}
use Rattle.cu_expr.specs.Kernel.{element_kernel}
use Rattle.cu_typing.specs.Types.{shared_type}
use Rattle.cu_typing.specs.declared.argument.Argument.{Argument}
use Rattle.cu_expr.specs.Typing.{argument_of}
use Rattle.cu_need.specs.Along.{group_axis, labels_wanted, sum_axis}
use Rattle.cu_need.specs.Live.{is_live}
use Rattle.cu_need.specs.Need.{own_need}
use Rattle.cu_need.specs.Operands.{left_wanted, operands_of, right_wanted}
use Rattle.cu_need.specs.Reduction.{array_of, axes_reduced, sought_axis}
use Rattle.cu_origin.specs.declared.pull.Pull.{Pull as View}
use Rattle.cu_origin.specs.declared.pull.Pull.TheVariants.{Reshape}
use Rattle.cu_lower_view.specs.View.{pull_of}
use Rattle.cu_copy.specs.Copies.{in_chunks, max_mem, rechunked, IsRechunk}
use Rattle.cu_copy.specs.declared.copies.Rechunk.{Rechunk}
use Rattle.cu_lower_reduce.specs.Copies.{aligned_places, aligned_steps, copy_steps, AreOperands, IsStaged}
use Rattle.cu_lower_reduce.specs.Steps.{all_made, grid_of}
use Rattle.cu_lower_reduce.specs.declared.copy.CopySetting.{CopySetting}
use Rattle.cu_lower_reduce.specs.Cumulative.{cumulative_steps, IsCumulative}
use Rattle.cu_lower_reduce.specs.Grouped.{grouped_steps, IsGrouped}
use Rattle.cu_lower_reduce.specs.Products.{product_steps, IsProduct}
use Rattle.cu_lower_reduce.specs.Reductions.{reduction_steps, IsReduction}
use Rattle.cu_lower_reduce.specs.Searches.{search_steps, IsSearch}
use Rattle.cu_lower_reduce.specs.declared.cumulative.Cumulative.{Cumulative}
use Rattle.cu_lower_reduce.specs.declared.grouped.Grouped.{Grouped}
use Rattle.cu_lower_reduce.specs.declared.product.Product.{Product}
use Rattle.cu_lower_reduce.specs.declared.reduction.Reduction.{Reduction}
use Rattle.cu_lower_reduce.specs.declared.search.Search.{Search}
use Rattle.cu_lower_reduce.specs.declared.step.Setting.{Setting}
use Rattle.cu_lower_reduce.specs.declared.step.Step.{Step}
use Rattle.cu_num.specs.declared.folds.FoldKind.{FoldKind}
use Rattle.cu_lower.specs.declared.options.Options.{Options}
use Rattle.cu_lower.specs.Inputs.{input_names, input_place}

-- A plan while nodes are gone over: its arrays and operations so far, and for each of these nodes the number of its array. That of a
-- node that isn't live means nothing.
pub record Grown : Type 0 where
  pub arrays : List ArrayInfo
  pub ops : List Planned
  pub places : List ℕ

-- ---- an array that is made

-- a made array is little-endian, with fill value 0 and the encoding "default" with "/"
abbrev pub made_layout : NodeInfo → Layout
made_layout i = record { dtype = i.dtype; grid = record { shape = i.dims; chunk = i.chunk }; encoding = Plain Slash; endian = Little; fill = pos 0 }

-- the array that the operation `maker` makes, where `others` made arrays come before it; the stored node's own has the name of the
-- output
abbrev pub made_array : Expression → NodeInfo → Test → ℕ → ℕ → ArrayInfo
made_array e i stored others maker =
    record { prefix = if stored then e.store_as else made_prefix_of e.store_as others; layout = made_layout i; maker = Some maker; inlined = false }

-- the one or two arrays that a step writes, values before places; the last of them may be the stored node's own
abbrev pub pair_arrays : Expression → Test → ℕ → ℕ → Option NodeInfo → NodeInfo → List ArrayInfo
pair_arrays e stored others maker None i = made_array e i stored others maker ∷ []
pair_arrays e stored others maker (Some values) i = made_array e values false others maker ∷ made_array e i stored (others + 1) maker ∷ []

-- ---- an elementwise function

-- the type that arguments have together; where they have none, one that means nothing
abbrev pub type_or_bool : Result Dtype NodeFault → Dtype
type_or_bool (Ok t) = t
type_or_bool (Err f) = Bool

-- a load or a literal for each argument in order, then the instructions of the function
abbrev pub instructions_of : ElementOp → List Argument → List Instr
instructions_of op told = element_kernel op (type_or_bool (shared_type op told)) told

-- the arrays of the arguments that are arrays, in order
abbrev pub array_places : List ℕ → List Arg → List ℕ
array_places places [] = []
array_places places (Arg.Node n ∷ args) = slice_index places n ∷ array_places places args
array_places places (Arg.Int x ∷ args) = array_places places args
array_places places (Arg.Truth b ∷ args) = array_places places args

-- the map that makes array `out` of the arguments, whose arrays are `ins`
abbrev pub elementwise_op : List NodeInfo → ElementOp → List Arg → List ℕ → ℕ → Op
elementwise_op infos op args ins out = map_of (instructions_of op (map (argument_of infos) args)) ins out

-- ---- a view

-- the pull of a view; of a form that has none, one that means nothing
abbrev pub pull_in : List NodeInfo → Form → View
pull_in infos form = unwrap_or (pull_of infos form) Reshape

-- the operation that makes array `out` of the arguments, whose arrays are `ins`
abbrev pub view_op : List NodeInfo → Form → List ℕ → ℕ → Op
view_op infos form ins out = Pull (pull_in infos form) (record { items = ins }) out

-- ---- a node by its form

-- the one step of node k, an operation that makes its array and needs so many bytes
abbrev pub only_step : List NodeInfo → ℕ → Op → ℕ → List Step
only_step infos k op need = record { op = op; values = None; made = info_at infos k; need = need } ∷ []

-- what the steps of a node go by besides its arrays: the number of the first array that they make, and two options
abbrev pub setting : Options → ℕ → Setting
setting options first = record { first = first; split_every = options.split_every; reserved = options.reserved }

-- where the copies of a node stand, the first of which makes array number `first`
abbrev pub copying : Options → ℕ → CopySetting
copying options first = record { first = first; reserved = options.reserved; most = max_mem options.allowed options.reserved }

-- a reduction and a search for places, as node k, of arguments whose arrays are `ins`
abbrev pub reduction_of : List NodeInfo → ℕ → FoldKind → List Arg → Option (List ℤ) → List ℕ → Reduction
reduction_of infos k kind args axes ins = record {
  kind = kind;
  axes = axes_reduced (array_of infos args 0) axes;
  source = slice_index ins 0;
  from = array_of infos args 0;
  made = info_at infos k;
}

abbrev pub search_of : List NodeInfo → ℕ → Test → List Arg → Option ℤ → List ℕ → Search
search_of infos k least args axis ins = record {
  least = least;
  axis = sought_axis (length (array_of infos args 0).dims) axis;
  source = slice_index ins 0;
  from = array_of infos args 0;
  made = info_at infos k;
}

-- a product of operands in the chunks that are wanted of them, whose arrays in these chunks are `ins`
abbrev pub product_of : List NodeInfo → ℕ → List Arg → List ℕ → Product
product_of infos k args ins = record {
  left = slice_index ins 0;
  right = slice_index ins 1;
  left_info = rechunked (left_wanted (info_at infos k) (array_of infos args 0) (array_of infos args 1));
  right_info = rechunked (right_wanted (info_at infos k) (array_of infos args 0) (array_of infos args 1));
  made = info_at infos k;
}

-- prefix sums along an axis
abbrev pub cumulative_of : List NodeInfo → ℕ → List Arg → Option ℤ → List ℕ → Cumulative
cumulative_of infos k args axis ins = record {
  source = slice_index ins 0;
  from = array_of infos args 0;
  made = info_at infos k;
  axis = sum_axis (array_of infos args 0) axis;
}

-- groups of an array by labels in its chunks on the axis, whatever arrays these are, and over the array and the labels that are read
abbrev pub grouped_of : List NodeInfo → ℕ → Test → List Arg → ℤ → ℕ → Grouped
grouped_of infos k least args axis groups = record {
  kind = group_kind least;
  axis = group_axis (array_of infos args 0) axis;
  groups = groups;
  source = 0;
  labels = 0;
  source_info = array_of infos args 0;
  labels_info = rechunked (labels_wanted (array_of infos args 0) axis (array_of infos args 1));
  made = info_at infos k;
}

abbrev pub grouped_over : Grouped → List ℕ → Grouped
grouped_over x ins = record {
  kind = x.kind;
  axis = x.axis;
  groups = x.groups;
  source = slice_index ins 0;
  labels = slice_index ins 1;
  source_info = x.source_info;
  labels_info = x.labels_info;
  made = x.made;
}

-- The copies of operands that have other chunks than are wanted, and then steps that read the operands in these chunks; `own` takes their
-- arrays, and the number of the next one.
abbrev pub behind_copies : CopySetting → List ℕ → List Rechunk → (List ℕ → ℕ → List Step) → List Step
behind_copies s ins wanted own = aligned_steps s ins wanted ++ own (aligned_places s ins wanted) (s.first + length (all_made (aligned_steps s ins wanted)))

-- The steps of node k, whose arguments have the arrays `ins`; the first array that they write has number `first`. An elementwise function
-- and a view have one step; a reduction, a search for places, a product and groups by labels have one over chunks and one for each round of
-- merges, and prefix sums further ones that carry these sums on. Operands of a function and of a product, and labels, that have other chunks
-- than are wanted are copied before. A rechunk is a copy of its argument, and an
-- input one of the array with its name, which `with_next_node` asks for where the node is the one that is stored alone.
abbrev pub steps_of : List NodeInfo → Options → ℕ → Form → List ℕ → ℕ → List Step
steps_of infos options k (Form.Elementwise op args) ins first =
    behind_copies (copying options first) ins (operands_of infos k (Form.Elementwise op args))
    (λ read next. only_step infos k (elementwise_op infos op args read next) (own_need options.reserved options.split_every infos k (Form.Elementwise op args)))
steps_of infos options k (Form.Reduce kind args axes keepdims) ins first = reduction_steps (setting options first) (reduction_of infos k kind args axes ins)
steps_of infos options k (Form.ArgPlace least args axis keepdims) ins first = search_steps (setting options first) (search_of infos k least args axis ins)
steps_of infos options k (Form.Matmul args) ins first =
    behind_copies (copying options first) ins (operands_of infos k (Form.Matmul args)) (λ read next. product_steps (setting options next) (product_of infos k args read))
steps_of infos options k (Form.CumulativeSum args axis) ins first = cumulative_steps (setting options first) (cumulative_of infos k args axis ins)
steps_of infos options k (Form.GroupBy least args axis groups) ins first =
    behind_copies (copying options first) ins (operands_of infos k (Form.GroupBy least args axis groups))
    (λ read next. grouped_steps (setting options next) (grouped_over (grouped_of infos k least args axis groups) read))
steps_of infos options k (Form.Rechunk args chunk) ins first = copy_steps (copying options first) (slice_index ins 0) (in_chunks (array_of infos args 0) (info_at infos k).chunk)
steps_of infos options k (Form.Input name) ins first = copy_steps (copying options first) (slice_index ins 0) (in_chunks (info_at infos k) (info_at infos k).chunk)
steps_of infos options k form ins first = only_step infos k (view_op infos form ins first) (own_need options.reserved options.split_every infos k form)

-- an operation of this form computes something: a rechunk and an input are copies alone
abbrev pub is_computed : Form → Test
is_computed (Form.Rechunk args chunk) = false
is_computed (Form.Input name) = false
is_computed form = true

-- Steps that make an array of which this is known: the last of them writes it, each array that they write has a grid, and they are few.
pub record Make (i : NodeInfo) (ss : List Step) : Type 0 where
  pub ends : (rest : List NodeInfo) × (all_made ss ≡ rest ++ i ∷ [])
  pub grids : All (λ m. IsGrid (grid_of m)) (all_made ss)
  pub few : length ss ≤ 40

-- ---- a plan that grows

-- with the arrays and the operation of a step of the next node; `last` says that it is the node's last step
abbrev pub with_step : Expression → Test → Grown → Step → Grown
with_step e last g s = record {
  arrays = g.arrays ++ pair_arrays e (last && (length g.places == e.out)) (length g.arrays - length (input_names e)) (length g.ops) s.values s.made;
  ops = g.ops ++ record { op = s.op; node = length g.places; projected = s.need } ∷ [];
  places = g.places;
}

-- no step is left
abbrev pub is_none : List Step → Test
is_none [] = true
is_none (s ∷ ss) = false

-- with all steps of the next node
abbrev pub with_steps : Expression → Grown → List Step → Grown
with_steps e g [] = g
with_steps e g (s ∷ ss) = with_steps e (with_step e (is_none ss) g s) ss

-- with the next node, whose array has this number
abbrev pub with_place : Grown → ℕ → Grown
with_place g place = record { arrays = g.arrays; ops = g.ops; places = g.places ++ place ∷ [] }

-- with the next node, whose array is the last one
abbrev pub with_last : Grown → Grown
with_last g = with_place g (length g.arrays - 1)

-- the arrays that the next node's steps read: those of its arguments, or that with an input's name
abbrev pub source_places : Expression → List ℕ → Form → List ℕ
source_places e places (Form.Input name) = input_place e name ∷ []
source_places e places form = array_places places (args_of form)

-- node k is an input that isn't itself stored, and so has its array from the beginning
abbrev pub is_given : Expression → ℕ → Form → Test
is_given e k (Form.Input name) = not (k == e.out)
is_given e k form = false

-- with the next node's steps; its array is the last that they write
abbrev pub with_made : Expression → List NodeInfo → Options → Grown → Form → Grown
with_made e infos options g form =
    with_last (with_steps e g (steps_of infos options (length g.places) form (source_places e g.places form) (length g.arrays)))

-- with the next node
abbrev pub with_next_node : Expression → List NodeInfo → Options → Grown → Form → Grown
with_next_node e infos options g (Form.Input name) = if length g.places == e.out then with_made e infos options g (Form.Input name) else with_place g (input_place e name)
with_next_node e infos options g form = with_made e infos options g form

-- only a live node adds something
abbrev pub with_live : Expression → List NodeInfo → Options → Grown → Form → Grown
with_live e infos options g form = if is_live e (length g.places) then with_next_node e infos options g form else with_place g 0

-- ---- while a plan grows

-- What is known of a plan while it grows, also between the steps of a node: the inputs' arrays come first, an operation makes at most two
-- arrays, each array has no later maker, and live nodes have arrays.
pub record IsGrowing (e : Expression) (g : Grown) : Type 0 where
  pub inputs : length (input_names e) ≤ length g.arrays
  pub few : length g.arrays ≤ length (input_names e) + 2 * length g.ops
  pub makers : (a : ℕ) → a < length g.arrays → IsBefore (maker_at g.arrays a) (length g.ops)
  pub placed : (n : ℕ) → n < length g.places → is_live e n ≡ true → slice_index g.places n < length g.arrays

-- and behind a node: each node has at most 40 operations
pub record IsGrown (e : Expression) (g : Grown) : Type 0 where
  pub growing : IsGrowing e g
  pub few : length g.ops ≤ 40 * length g.places

-- the options lie in their ranges
pub record AreOptions (options : Options) : Type 0 where
  pub allowed : options.allowed ≤ 2 ^ 40
  pub reserved : options.reserved ≤ 2 ^ 40
  pub several : 2 ≤ options.split_every
  pub few : options.split_every ≤ 64

-- what the steps of any node with number k take for granted: as many arguments as the form takes, which name earlier nodes, and an index of
-- few entries
pub record IsWritten (k : ℕ) (form : Form) : Type 0 where
  pub takes : takes_args form ≡ true
  pub earlier : names_earlier k form ≡ true
  pub short : HasShortIndex form

-- what the copies of a node take for granted
pub record CanMakeCopies (infos : List NodeInfo) (options : Options) (k : ℕ) (form : Form) (first : ℕ) : Type 0 where
  pub rechunks : All IsRechunk (operands_of infos k form)
  pub operands : AreOperands (copying options first) (operands_of infos k form)
  pub few : length (operands_of infos k form) ≤ 3

-- and beside it, by the form: a function's arguments have a type together; and what is reduced, sought, multiplied, summed or grouped is
abbrev pub IsFitting : List NodeInfo → Options → ℕ → Form → Type 0
IsFitting infos options k (Form.Elementwise op args) =
    IsOk (shared_type op (map (argument_of infos) args)) × ((first : ℕ) → CanMakeCopies infos options k (Form.Elementwise op args) first)
IsFitting infos options k (Form.Reduce kind args axes keepdims) = (ins : List ℕ) → IsReduction (reduction_of infos k kind args axes ins)
IsFitting infos options k (Form.ArgPlace least args axis keepdims) = (ins : List ℕ) → IsSearch (search_of infos k least args axis ins)
IsFitting infos options k (Form.Matmul args) =
    ((ins : List ℕ) → IsProduct (product_of infos k args ins)) × ((first : ℕ) → CanMakeCopies infos options k (Form.Matmul args) first)
IsFitting infos options k (Form.CumulativeSum args axis) = (ins : List ℕ) → IsCumulative (cumulative_of infos k args axis ins)
IsFitting infos options k (Form.GroupBy least args axis groups) =
    ((ins : List ℕ) → IsGrouped (grouped_over (grouped_of infos k least args axis groups) ins)) × ((first : ℕ) → CanMakeCopies infos options k (Form.GroupBy least args axis groups) first)
IsFitting infos options k (Form.Rechunk args chunk) = (first : ℕ) → IsStaged (copying options first) (in_chunks (array_of infos args 0) (info_at infos k).chunk)
IsFitting infos options k (Form.Input name) = (first : ℕ) → IsStaged (copying options first) (in_chunks (info_at infos k) (info_at infos k).chunk)
IsFitting infos options k form = Unit {0}

-- what the steps of a node take for granted
pub record CanGrow (infos : List NodeInfo) (options : Options) (k : ℕ) (form : Form) : Type 0 where
  pub written : IsWritten k form
  pub fitting : IsFitting infos options k form

-- the steps of a node that isn't given make its array
abbrev pub HasSteps : Expression → List NodeInfo → Options → ℕ → Form → Type 0
HasSteps e infos options k form =
    is_given e k form ≡ false → (places : List ℕ) (first : ℕ) → first < 2 ^ 30 → Make (info_at infos k) (steps_of infos options k form (source_places e places form) first)
