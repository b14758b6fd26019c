-- The magnitudes that a machine's division of the type takes, and what divides in its place.
use Rattle.std.specs.Prelude.{◌≡◌, ℕ, ◌-◌, ◌*◌, ◌/◌, ◌^◌, ◌<◌, ℤ, pos, neg_ℤ, ◌-ℤ◌, ◌<ℤ◌, ◌≤ℤ◌, if◌then◌else◌}
use Rattle.std.specs.Prelude.{Bool as Test}
use Rattle.cu_num.specs.Dtype.{InRange}
use Rattle.cu_num.specs.declared.types.Dtype.{Dtype}
use Rattle.cu_num.specs.declared.types.Dtype.TheVariants.{Int64, Uint64}

-- the greatest number without a sign of 32 bits where the type has at most as many, else of 64
abbrev pub greatest_word : Dtype → ℕ
greatest_word Int64 = 2 ^ 64 - 1
greatest_word Uint64 = 2 ^ 64 - 1
greatest_word t = 2 ^ 32 - 1

-- the number, or the one whose bits are its complement
abbrev pub complemented : Test → ℤ → ℤ
complemented below x = if below then pos 0 -ℤ pos 1 -ℤ x else x

-- of the product with the factor the bits above the lowest 32, shifted to the right, are the quotient of each number below 2 ^ 31
pub record IsReciprocal (divisor factor shift : ℕ) : Type 0 where
  pub some : 0 < divisor
  pub shift_fits : shift < 32
  pub quotient : (u : ℕ) → u < 2 ^ 31 → u * factor / 2 ^ 32 / 2 ^ shift ≡ u / divisor

-- the type's numbers lie between -2 ^ 31 and 2 ^ 31
abbrev pub HasSmallNumbers : Dtype → Type 0
HasSmallNumbers t = (x : ℤ) → InRange t x → (neg_ℤ (pos (2 ^ 31)) ≤ℤ x) × (x <ℤ pos (2 ^ 31))
