-- A test of a number of a type (Python array API, data types).
use Rattle.std.specs.Prelude.{ℤ, ◌&&◌, int_le, Bool}
use Rattle.cu_num.specs.Dtype.{least, greatest}
use Rattle.cu_num.specs.declared.types.Dtype.{Dtype}
pub use Rattle.cu_num.specs.Dtype.{is_integer}

-- x is a number of the type
abbrev pub in_range : Dtype → ℤ → Bool
in_range t x = int_le (least t) x && int_le x (greatest t)
