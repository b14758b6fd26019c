-- The form of a node of an expression, apart from the text that it is read from (this project's own form).
use Rattle.std.specs.Prelude.{ℕ, ◌<◌, ◌^◌, ◌-◌, ◌&&◌, ◌||◌, not, nat_lt, nat_le, ℤ, pos, neg_ℤ, int_lt, Bool, true, false, List, [], ◌∷◌, length, ◌≡◌, if◌then◌else◌}
use Rattle.std.specs.List.{list_all}
use Rattle.cu_name.specs.Name.{is_name}
use Rattle.cu_num.specs.declared.folds.FoldKind.{FoldKind}
use Rattle.cu_num.specs.declared.folds.FoldKind.TheVariants.{Sum, Min}
use Rattle.cu_num.specs.declared.functions.Fn1.TheVariants as fn1
use Rattle.cu_form.specs.declared.args.Arg.{Arg}
use Rattle.cu_node.specs.declared.literal.Literal.{Literal}
use Rattle.cu_node.specs.NewShape.{is_size, is_new_shape}
use Rattle.cu_node.specs.declared.element_op.ElementOp.{ElementOp}
use Rattle.cu_form.specs.declared.form.Form.{Form}

-- ---- arguments

-- the arguments of a form, in order
abbrev pub args_of : Form → List Arg
args_of (Form.Elementwise op args) = args
args_of (Form.Triangle lower args k) = args
args_of (Form.Index args items) = args
args_of (Form.Concat args axis) = args
args_of (Form.Stack args axis) = args
args_of (Form.PermuteDims args axes) = args
args_of (Form.Reshape args shape) = args
args_of (Form.Flip args axes) = args
args_of (Form.Roll args shifts axes) = args
args_of (Form.BroadcastTo args shape chunk) = args
args_of (Form.Rechunk args chunk) = args
args_of (Form.Reduce kind args axes keepdims) = args
args_of (Form.ArgPlace least args axis keepdims) = args
args_of (Form.Matmul args) = args
args_of (Form.CumulativeSum args axis) = args
args_of (Form.GroupBy least args axis groups) = args
args_of form = []

-- the argument names a node before the one with this number; one that is written names none
abbrev pub is_earlier : ℕ → Arg → Bool
is_earlier number (Arg.Node n) = nat_lt n number
is_earlier number arg = true

-- each argument of the form of the node with this number names an earlier node, or none
abbrev pub names_earlier : ℕ → Form → Bool
names_earlier number form = list_all (is_earlier number) (args_of form)

-- the argument is an array
abbrev pub is_array : Arg → Bool
is_array (Arg.Node n) = true
is_array arg = false

-- arrays, and from so many to so many of them
abbrev pub are_arrays : ℕ → ℕ → List Arg → Bool
are_arrays least most args = nat_le least (length args) && nat_le (length args) most && list_all is_array args

-- what an elementwise function takes: as many arguments as it has, at least one of them an array (Python array API,
-- "Element-wise Functions"); `where` an array of truth values and, of the other two, an array at least
abbrev pub element_takes : ElementOp → List Arg → Bool
element_takes (ElementOp.Two f) (x ∷ y ∷ []) = is_array x || is_array y
element_takes (ElementOp.Two f) args = false
element_takes (ElementOp.Extreme least) (x ∷ y ∷ []) = is_array x || is_array y
element_takes (ElementOp.Extreme least) args = false
element_takes ElementOp.Where (c ∷ x ∷ y ∷ []) = is_array c && (is_array x || is_array y)
element_takes ElementOp.Where args = false
element_takes op args = are_arrays 1 1 args

-- the form has as many arguments as its operator takes, and no number or truth value where that wants an array
abbrev pub takes_args : Form → Bool
takes_args (Form.Input name) = true
takes_args (Form.Elementwise op args) = element_takes op args
takes_args (Form.Full shape dtype value chunk) = true
takes_args (Form.Arange start stop step dtype chunk) = true
takes_args (Form.Eye rows cols k dtype chunk) = true
takes_args (Form.Concat args axis) = are_arrays 1 8 args
takes_args (Form.Stack args axis) = are_arrays 1 8 args
takes_args (Form.Matmul args) = are_arrays 2 2 args
takes_args (Form.GroupBy least args axis groups) = are_arrays 2 2 args
takes_args form = are_arrays 1 1 (args_of form)

-- ---- members

-- a size of a chunk on an axis
abbrev pub is_chunk_size : ℕ → Bool
is_chunk_size n = nat_le 1 n && nat_le n (2 ^ 40)

-- an integer that may be written: from -2^63 to 2^64 - 1
abbrev pub is_written : ℤ → Bool
is_written x = not (int_lt x (neg_ℤ (pos (2 ^ 63)))) && not (int_lt (pos (2 ^ 64 - 1)) x)

abbrev pub is_written_arg : Arg → Bool
is_written_arg (Arg.Int x) = is_written x
is_written_arg arg = true

abbrev pub is_written_value : Literal → Bool
is_written_value (Literal.Int x) = is_written x
is_written_value value = true

-- `astype` is a function of its own, and the bounds of `clip` are integers that may be written
abbrev pub is_function : ElementOp → Bool
is_function (ElementOp.One fn1.Astype) = false
is_function (ElementOp.Clip min max) = is_written min && is_written max
is_function op = true

-- how many groups labels may name
abbrev pub is_group_count : ℕ → Bool
is_group_count n = nat_le 1 n && nat_le n 65536

-- what is made of a group: the least of its elements or their sum
abbrev pub group_kind : Bool → FoldKind
group_kind least = if least then Min else Sum

-- the members of the form lie in their ranges
abbrev pub in_ranges : Form → Bool
in_ranges (Form.Input name) = is_name name
in_ranges (Form.Elementwise op args) = is_function op && list_all is_written_arg args
in_ranges (Form.Full shape dtype value chunk) = list_all is_size shape && is_written_value value && list_all is_chunk_size chunk
in_ranges (Form.Arange start stop step dtype chunk) = list_all is_chunk_size chunk
in_ranges (Form.Eye rows cols k dtype chunk) = is_size rows && is_size cols && list_all is_chunk_size chunk
in_ranges (Form.Reshape args shape) = is_new_shape shape
in_ranges (Form.BroadcastTo args shape chunk) = list_all is_size shape && list_all is_chunk_size chunk
in_ranges (Form.Rechunk args chunk) = list_all is_chunk_size chunk
in_ranges (Form.GroupBy least args axis groups) = is_group_count groups
in_ranges form = true

-- an index has fewer than 2^32 entries
abbrev pub HasShortIndex : Form → Type 0
HasShortIndex (Form.Index args items) = length items < 2 ^ 32
HasShortIndex form = Unit {0}

-- the form is one of the node with this number
pub record IsForm (number : ℕ) (form : Form) : Type 0 where
  pub args : takes_args form ≡ true
  pub earlier : names_earlier number form ≡ true
  pub ranges : in_ranges form ≡ true
