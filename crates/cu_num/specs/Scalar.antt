-- The elementwise functions on whole numbers (Python array API, elementwise functions): the exact number, wrapped once to the type.
-- The comparisons and the logical functions give a bool. `t` is the type of the arguments; of Astype it is the new type.
use Rattle.std.specs.Prelude.{ℕ, ◌-◌, ◌^◌, true, false, not, ◌&&◌, ◌||◌, ℤ, pos, negsuc, neg_ℤ, ◌+ℤ◌, ◌-ℤ◌, ◌*ℤ◌, unsigned_abs, int_lt, int_le, nat_lt, bit_and, bit_or, bit_xor, if◌then◌else◌}
use Rattle.std.specs.Prelude.{Bool as Test}
use Rattle.std.specs.Int.{int_signum}
use Rattle.std.specs.Ordering.{int_eq}
use Rattle.cu_num.specs.Dtype.{bit_width}
use Rattle.cu_num.specs.Wrap.{residue, wrapped}
use Rattle.cu_num.specs.Division.{floor_quotient, floor_remainder}
use Rattle.cu_num.specs.declared.types.Dtype.{Dtype}
use Rattle.cu_num.specs.declared.types.Dtype.TheVariants.{Bool}
use Rattle.cu_num.specs.declared.functions.Fn1.{Fn1}
use Rattle.cu_num.specs.declared.functions.Fn1.TheVariants.{Negative, Positive, Abs, Square, Sign, BitwiseInvert, LogicalNot, Astype}
use Rattle.cu_num.specs.declared.functions.Fn2.{Fn2}
use Rattle.cu_num.specs.declared.functions.Fn2.TheVariants.{Add, Subtract, Multiply, FloorDivide, Remainder, BitwiseAnd, BitwiseOr, BitwiseXor, LeftShift, RightShift, Equal, NotEqual, Less, LessEqual, Greater, GreaterEqual, LogicalAnd, LogicalOr, LogicalXor}

-- a test as a number
abbrev pub truth_number : Test → ℤ
truth_number true = pos 1
truth_number false = pos 0

-- a number as a test: it is not 0
abbrev pub is_nonzero : ℤ → Test
is_nonzero x = not (int_eq x (pos 0))

-- exactly one of two tests
abbrev pub exactly_one : Test → Test → Test
exactly_one p q = (p && not q) || (not p && q)

-- a function of the two's complement bits; a bool has one bit
abbrev pub bitwise : (ℕ → ℕ → ℕ) → Dtype → ℤ → ℤ → ℤ
bitwise f t x y = wrapped t (pos (f (residue (bit_width t) x) (residue (bit_width t) y)))

-- x * 2 ^ y, and 0 where y is below 0 or not below the width (this project's rule)
unfoldable pub shifted_left : ℕ → ℤ → ℤ → ℤ
shifted_left w x (pos k) = if nat_lt k w then x *ℤ pos (2 ^ k) else pos 0
shifted_left w x (negsuc k) = pos 0

-- -1 for a negative number, 0 for the others
abbrev pub sign_fill : ℤ → ℤ
sign_fill (pos n) = pos 0
sign_fill (negsuc n) = negsuc 0

-- x / 2 ^ y rounded down, and the sign alone where y is below 0 or not below the width (this project's rule)
unfoldable pub shifted_right : ℕ → ℤ → ℤ → ℤ
shifted_right w x (pos k) = if nat_lt k w then floor_quotient x (pos (2 ^ k)) else sign_fill x
shifted_right w x (negsuc k) = sign_fill x

-- the type of the result: a bool for the comparisons and the logical functions
abbrev pub result_type1 : Fn1 → Dtype → Dtype
result_type1 LogicalNot t = Bool
result_type1 f t = t

abbrev pub result_type2 : Fn2 → Dtype → Dtype
result_type2 Equal t = Bool
result_type2 NotEqual t = Bool
result_type2 Less t = Bool
result_type2 LessEqual t = Bool
result_type2 Greater t = Bool
result_type2 GreaterEqual t = Bool
result_type2 LogicalAnd t = Bool
result_type2 LogicalOr t = Bool
result_type2 LogicalXor t = Bool
result_type2 f t = t

abbrev pub op1 : Fn1 → Dtype → ℤ → ℤ
op1 Negative t x = wrapped t (neg_ℤ x)
op1 Positive t x = wrapped t x
op1 Abs t x = wrapped t (pos (unsigned_abs x))
op1 Square t x = wrapped t (x *ℤ x)
op1 Sign t x = wrapped t (int_signum x)
op1 BitwiseInvert t x = wrapped t (pos (2 ^ bit_width t - 1 - residue (bit_width t) x))
op1 LogicalNot t x = truth_number (not (is_nonzero x))
op1 Astype t x = wrapped t x

abbrev pub op2 : Fn2 → Dtype → ℤ → ℤ → ℤ
op2 Add t x y = wrapped t (x +ℤ y)
op2 Subtract t x y = wrapped t (x -ℤ y)
op2 Multiply t x y = wrapped t (x *ℤ y)
op2 FloorDivide t x y = wrapped t (floor_quotient x y)
op2 Remainder t x y = wrapped t (floor_remainder x y)
op2 BitwiseAnd t x y = bitwise bit_and t x y
op2 BitwiseOr t x y = bitwise bit_or t x y
op2 BitwiseXor t x y = bitwise bit_xor t x y
op2 LeftShift t x y = wrapped t (shifted_left (bit_width t) x y)
op2 RightShift t x y = wrapped t (shifted_right (bit_width t) x y)
op2 Equal t x y = truth_number (int_eq x y)
op2 NotEqual t x y = truth_number (not (int_eq x y))
op2 Less t x y = truth_number (int_lt x y)
op2 LessEqual t x y = truth_number (int_le x y)
op2 Greater t x y = truth_number (int_lt y x)
op2 GreaterEqual t x y = truth_number (int_le y x)
op2 LogicalAnd t x y = truth_number (is_nonzero x && is_nonzero y)
op2 LogicalOr t x y = truth_number (is_nonzero x || is_nonzero y)
op2 LogicalXor t x y = truth_number (exactly_one (is_nonzero x) (is_nonzero y))
