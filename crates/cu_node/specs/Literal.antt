-- A value that is written in an expression.
use Rattle.std.specs.Prelude.{ℤ, ◌&&◌}
use Rattle.std.specs.Prelude.{Bool as Test}
use Rattle.cu_num.specs.Dtype.{is_bool, is_integer}
use Rattle.cu_num.specs.Scalar.{truth_number}
use Rattle.cu_num.specs.declared.types.Dtype.{Dtype}
use Rattle.cu_node.specs.Types.{in_range}
use Rattle.cu_node.specs.declared.literal.Literal.{Literal}
use Rattle.cu_node.specs.declared.literal.Literal.TheVariants.{Int, Truth}

-- the value as a number
abbrev pub literal_number : Literal → ℤ
literal_number (Int x) = x
literal_number (Truth b) = truth_number b

-- a written integer is a number of an integer type, a truth value one of bool
abbrev pub suits : Dtype → Literal → Test
suits t (Int x) = is_integer t && in_range t x
suits t (Truth b) = is_bool t
