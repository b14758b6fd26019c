-- The bounds to which the ends of a slice are clipped.
use Rattle.std.proofs.Common.{ℕ, ℤ, pos, negsuc, ◌≤ℤ◌, arith}
use Rattle.std.proofs.lemmas.Int.{ints, clamps}
use Rattle.std.specs.Int.{int_min, int_max}
use Rattle.cu_shape.specs.Slice.{lowest, highest, IsEnd}

pub lowest_below : (step : ℤ) (n : ℕ) → lowest step ≤ℤ highest step n
lowest_below (pos step) n = omega (arith, ints)
lowest_below (negsuc step) n = omega (arith, ints)

pub highest_below : (step : ℤ) (n : ℕ) → highest step n ≤ℤ pos n
highest_below (pos step) n = omega (arith, ints)
highest_below (negsuc step) n = omega (arith, ints)

-- what is clipped lies between the bounds
pub clipped_inside : (x step : ℤ) (n : ℕ) → IsEnd (int_max (int_min x (highest step n)) (lowest step)) step n
clipped_inside x step n =
    let h = lowest_below step n in
    record { low = omega (arith, ints, clamps); high = omega (arith, ints, clamps) }
