-- Two inner places by one multiplication (S. Winograd, "A New Algorithm for Inner Product", IEEE Transactions on Computers, 1968).
use Rattle.std.specs.Prelude.{ℕ, zero, suc, ◌+◌, ◌*◌, ◌/◌, ◌%◌, ℤ, pos, ◌+ℤ◌, ◌*ℤ◌, List}
use Rattle.cu_num.specs.Element.{element_at}
use Rattle.cu_num.specs.declared.types.Dtype.{Dtype}
use Rattle.cu_num.specs.declared.layout.Endian.TheVariants.{Little}

-- the sum over so many pairs of places: each number of the left meets the other place's number of the right
abbrev pub pairs : (ℕ → ℤ) → (ℕ → ℤ) → ℕ → ℤ
pairs left right zero = pos 0
pairs left right (suc p) = pairs left right p +ℤ (left (2 * p) +ℤ right (2 * p + 1)) *ℤ (left (2 * p + 1) +ℤ right (2 * p))

-- a column of a panel, which has nine; the two numbers of a pair lie side by side
abbrev pub column : Dtype → List ℕ → ℕ → ℕ → ℤ
column t bytes j q = element_at Little t bytes (q / 2 * 18 + 2 * j + q % 2)
