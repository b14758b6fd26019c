-- Floor division of whole numbers (Python array API, floor_divide and remainder); 0 where the divisor is 0 (this project's rule).
use Rattle.std.specs.Prelude.{zero, suc, ℤ, pos, negsuc, neg_ℤ, ◌-ℤ◌, ◌*ℤ◌, ◌≤ℤ◌}
use Rattle.std.specs.Int.{int_div_euclid}

-- x / y rounded down
unfoldable pub floor_quotient : ℤ → ℤ → ℤ
floor_quotient x (pos zero) = pos 0
floor_quotient x (pos (suc n)) = int_div_euclid x (pos (suc n))
floor_quotient x (negsuc n) = int_div_euclid (neg_ℤ x) (pos (suc n))

-- what the rounded quotient leaves
unfoldable pub floor_remainder : ℤ → ℤ → ℤ
floor_remainder x (pos zero) = pos 0
floor_remainder x (pos (suc n)) = x -ℤ pos (suc n) *ℤ floor_quotient x (pos (suc n))
floor_remainder x (negsuc n) = x -ℤ negsuc n *ℤ floor_quotient x (negsuc n)

-- k is at most x / y: k * y is at most x where y is above 0, and at least x where it is below
abbrev pub IsAtMostQuotient : ℤ → ℤ → ℤ → Type 0
IsAtMostQuotient x (pos n) k = (k *ℤ pos n) ≤ℤ x
IsAtMostQuotient x (negsuc n) k = x ≤ℤ (k *ℤ negsuc n)

-- q is the greatest whole number at most x / y
abbrev pub IsFloorOf : ℤ → ℤ → ℤ → Type 0
IsFloorOf x y q = IsAtMostQuotient x y q × ((k : ℤ) → IsAtMostQuotient x y k → k ≤ℤ q)
