-- Wrapping a whole number to an element type: the number of the type that is congruent to it modulo two to the width.
-- A bool has 0 for 0 and 1 for every other number.
use Rattle.std.specs.Prelude.{◌≡◌, ℕ, ◌-◌, ◌%◌, ◌^◌, zero, suc, ℤ, pos, negsuc, ◌+ℤ◌, ◌-ℤ◌, ◌*ℤ◌, ◌↔◌, nat_lt, if◌then◌else◌}
use Rattle.cu_num.specs.Dtype.{bit_width, is_signed, InRange}
use Rattle.cu_num.specs.declared.types.Dtype.{Dtype}
use Rattle.cu_num.specs.declared.types.Dtype.TheVariants.{Bool}

-- the number below 2 ^ w that is congruent to x modulo 2 ^ w
abbrev pub residue : ℕ → ℤ → ℕ
residue w (pos n) = n % 2 ^ w
residue w (negsuc n) = 2 ^ w - 1 - n % 2 ^ w

-- the number from -2 ^ (w - 1) to 2 ^ (w - 1) - 1 that is congruent to r, which is below 2 ^ w: two's complement
abbrev pub centred : ℕ → ℕ → ℤ
centred w r = if nat_lt r (2 ^ (w - 1)) then pos r else pos r -ℤ pos (2 ^ w)

-- 0 for 0, else 1
abbrev pub truth_of : ℤ → ℤ
truth_of (pos zero) = pos 0
truth_of (pos (suc n)) = pos 1
truth_of (negsuc n) = pos 1

-- x wrapped to the type
unfoldable pub wrapped : Dtype → ℤ → ℤ
wrapped Bool x = truth_of x
wrapped t x = if is_signed t then centred (bit_width t) (residue (bit_width t) x) else pos (residue (bit_width t) x)

-- a and b differ by a multiple of m
abbrev pub DifferByMultiple : ℕ → ℤ → ℤ → Type 0
DifferByMultiple m a b = (k : ℤ) × (a ≡ b +ℤ k *ℤ pos m)

-- r is x wrapped to the type, in the words of the standard
abbrev pub IsWrapOf : Dtype → ℤ → ℤ → Type 0
IsWrapOf Bool x r = InRange Bool r × ((r ≡ pos 0) ↔ (x ≡ pos 0))
IsWrapOf t x r = InRange t r × DifferByMultiple (2 ^ bit_width t) x r
