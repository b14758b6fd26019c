-- The rows of elementwise functions (Python array API, "Element-wise Functions"; `where` of "Searching Functions"; `astype`;
-- `maximum`, `minimum` and `clip` of its version 2023.12).
use Rattle.std.specs.Prelude.{ℕ, Bool, true, false, List, codes, bytes_eq, Option, Some, None, option_map, Result, Ok, Err, if◌then◌else◌, ◌≡◌}
use Rattle.std.specs.Option.{option_or}
use Rattle.serde_json.specs.Data.{Data}
use Rattle.cu_num.specs.declared.functions.Fn1.{Fn1}
use Rattle.cu_num.specs.declared.functions.Fn1.TheVariants.{Negative, Positive, Abs, Square, Sign, BitwiseInvert, LogicalNot}
use Rattle.cu_num.specs.declared.functions.Fn2.{Fn2}
use Rattle.cu_num.specs.declared.functions.Fn2.TheVariants.{Add, Subtract, Multiply, FloorDivide, Remainder, BitwiseAnd, BitwiseOr, BitwiseXor, LeftShift, RightShift, Equal, NotEqual, Less, LessEqual, Greater, GreaterEqual, LogicalAnd, LogicalOr, LogicalXor}
use Rattle.cu_node.specs.declared.element_op.ElementOp.{ElementOp}
use Rattle.cu_form.specs.declared.form.Form.{Form}
use Rattle.cu_result.specs.Results.{◌>>=◌}
use Rattle.cu_read.specs.Args.{args_in, HasArgs}
use Rattle.cu_read.specs.Members.{dtype_of, written_of, IsObjectOf, Has}
use Rattle.cu_read.specs.Rows.{has_members, required}
use Rattle.cu_read.specs.declared.faults.NodeCode.{NodeCode}

-- the functions of one argument
abbrev pub unary_named : List ℕ → Option Fn1
unary_named op =
    if bytes_eq op (codes "negative") then Some Negative
    else if bytes_eq op (codes "positive") then Some Positive
    else if bytes_eq op (codes "abs") then Some Abs
    else if bytes_eq op (codes "square") then Some Square
    else if bytes_eq op (codes "sign") then Some Sign
    else if bytes_eq op (codes "bitwise_invert") then Some BitwiseInvert
    else if bytes_eq op (codes "logical_not") then Some LogicalNot
    else None

-- the functions of two arguments whose result has the arguments' type
abbrev pub arithmetic_named : List ℕ → Option Fn2
arithmetic_named op =
    if bytes_eq op (codes "add") then Some Add
    else if bytes_eq op (codes "subtract") then Some Subtract
    else if bytes_eq op (codes "multiply") then Some Multiply
    else if bytes_eq op (codes "floor_divide") then Some FloorDivide
    else if bytes_eq op (codes "remainder") then Some Remainder
    else if bytes_eq op (codes "bitwise_and") then Some BitwiseAnd
    else if bytes_eq op (codes "bitwise_or") then Some BitwiseOr
    else if bytes_eq op (codes "bitwise_xor") then Some BitwiseXor
    else if bytes_eq op (codes "bitwise_left_shift") then Some LeftShift
    else if bytes_eq op (codes "bitwise_right_shift") then Some RightShift
    else None

-- the functions of two arguments whose result is a truth value
abbrev pub comparison_named : List ℕ → Option Fn2
comparison_named op =
    if bytes_eq op (codes "equal") then Some Equal
    else if bytes_eq op (codes "not_equal") then Some NotEqual
    else if bytes_eq op (codes "less") then Some Less
    else if bytes_eq op (codes "less_equal") then Some LessEqual
    else if bytes_eq op (codes "greater") then Some Greater
    else if bytes_eq op (codes "greater_equal") then Some GreaterEqual
    else if bytes_eq op (codes "logical_and") then Some LogicalAnd
    else if bytes_eq op (codes "logical_or") then Some LogicalOr
    else if bytes_eq op (codes "logical_xor") then Some LogicalXor
    else None

-- the functions of two arguments
abbrev pub binary_named : List ℕ → Option Fn2
binary_named op = option_or (arithmetic_named op) (comparison_named op)

-- the functions that give one of two arguments: true for the lesser
abbrev pub extreme_named : List ℕ → Option Bool
extreme_named op =
    if bytes_eq op (codes "minimum") then Some true
    else if bytes_eq op (codes "maximum") then Some false
    else None

-- the functions that have no member of their own
abbrev pub function_named : List ℕ → Option ElementOp
function_named op =
    if bytes_eq op (codes "where") then Some ElementOp.Where
    else
    option_or (option_map ElementOp.One (unary_named op))
    (option_or (option_map ElementOp.Two (binary_named op)) (option_map ElementOp.Extreme (extreme_named op)))

-- an elementwise function; `astype` and `clip` have members of their own
abbrev pub IsFunction : List ℕ → Data → ElementOp → Type 0
IsFunction op d (ElementOp.Astype dtype) = (op ≡ codes "astype") × IsObjectOf 4 d × Has dtype_of (codes "dtype") d dtype
IsFunction op d (ElementOp.Clip min max) = (op ≡ codes "clip") × IsObjectOf 5 d × Has written_of (codes "min") d min × Has written_of (codes "max") d max
IsFunction op d function = (function_named op ≡ Some function) × IsObjectOf 3 d

-- A node with this operator says this form: it has exactly the members of the operator's row, and these are the form's.
abbrev pub SaysElementwise : List (List ℕ) → List ℕ → Data → Form → Type 0
SaysElementwise ids op d (Form.Elementwise function args) = IsFunction op d function × HasArgs ids d args
SaysElementwise ids op d form = ⊥

abbrev pub function_in : ElementOp → List (List ℕ) → Data → Result Form NodeCode
function_in op ids d = do
  _ ← has_members 3 d
  args ← args_in ids d
  Ok (Form.Elementwise op args)

abbrev pub function_row : Option ElementOp → List (List ℕ) → Data → Result Form NodeCode
function_row None ids d = Err NodeCode.Unknown
function_row (Some op) ids d = function_in op ids d

abbrev pub astype_in : List (List ℕ) → Data → Result Form NodeCode
astype_in ids d = do
  _ ← has_members 4 d
  dtype ← required dtype_of (codes "dtype") d
  args ← args_in ids d
  Ok (Form.Elementwise (ElementOp.Astype dtype) args)

abbrev pub clip_in : List (List ℕ) → Data → Result Form NodeCode
clip_in ids d = do
  _ ← has_members 5 d
  min ← required written_of (codes "min") d
  max ← required written_of (codes "max") d
  args ← args_in ids d
  Ok (Form.Elementwise (ElementOp.Clip min max) args)

-- the row of an operator of this family
abbrev pub elementwise_row : List ℕ → List (List ℕ) → Data → Result Form NodeCode
elementwise_row op ids d =
    if bytes_eq op (codes "astype") then astype_in ids d
    else if bytes_eq op (codes "clip") then clip_in ids d
    else function_row (function_named op) ids d
