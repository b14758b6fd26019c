-- How long a coordinate's decimal digits are, and the coordinates from an axis on.
use Rattle.std.proofs.Common.{ℕ, ◌<◌, ◌≤◌, length, arith}
use Rattle.std.specs.Fmt.{decimal}
use Rattle.std.proofs.lemmas.Fmt.{length-decimal-le}

-- a coordinate has at most seven digits
pub length-coordinate-le : (n : ℕ) → n < 1048576 → length (decimal n) ≤ 7
length-coordinate-le n small = length-decimal-le 7 n (omega arith) (omega arith) (omega arith)
