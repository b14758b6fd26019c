-- The order of words. With 2 ^ 63 added, words of signed numbers are in the order of the numbers; those of uint64 are by themselves.
use Rattle.std.specs.Prelude.{ℕ, ◌+◌, ◌-◌, ◌%◌, ◌^◌, ◌==◌, ℤ, nat_lt, nat_le, int_lt, int_le, not, if◌then◌else◌}
use Rattle.std.specs.Prelude.{Bool as Test}
use Rattle.std.specs.Ordering.{int_eq}
use Rattle.cu_num.specs.declared.types.Dtype.{Dtype}
use Rattle.cu_num.specs.declared.types.Dtype.TheVariants.{Uint64}
use Rattle.cu_lane.specs.declared.compared.Order.{Order}
use Rattle.cu_lane.specs.declared.compared.Order.TheVariants.{Equal, NotEqual, Less, LessEqual}

-- what is added to a word
abbrev pub bias_of : Dtype → ℕ
bias_of Uint64 = 0
bias_of t = 2 ^ 63

abbrev pub key : ℕ → ℕ → ℕ
key bias w = (w + bias) % 2 ^ 64

-- the key, or where the greatest is looked for what it lacks to the greatest key: the least is the best
abbrev pub rank : Test → ℕ → ℕ → ℕ
rank least bias w = if least then key bias w else 2 ^ 64 - 1 - key bias w

-- two keys, and two numbers, are in this order
abbrev pub are_in_order : Order → ℕ → ℕ → Test
are_in_order Equal m n = m == n
are_in_order NotEqual m n = not (m == n)
are_in_order Less m n = nat_lt m n
are_in_order LessEqual m n = nat_le m n

abbrev pub numbers_in_order : Order → ℤ → ℤ → Test
numbers_in_order Equal x y = int_eq x y
numbers_in_order NotEqual x y = not (int_eq x y)
numbers_in_order Less x y = int_lt x y
numbers_in_order LessEqual x y = int_le x y

-- 1 where two words are in this order, else 0
abbrev pub compared : Order → ℕ → ℕ → ℕ → ℕ
compared order bias v w = if are_in_order order (key bias v) (key bias w) then 1 else 0
