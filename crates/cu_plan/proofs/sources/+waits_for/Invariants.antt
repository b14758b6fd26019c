use Rattle.cu_op.specs.Arrays.{maker_at}
use Rattle.cu_plan.proofs.sources.+waits_for.Given as goal
use Rattle.cu_plan.specs.Listed.{comes_from, waits_for}
use Rattle.std.proofs.Common.{◌≡◌, ℕ, ◌*◌, ◌+◌, drop, Option, None, Some}
use Rattle.std.specs.List.{list_any}

-- one more than the number of an array's maker
abbrev from_maker : Option ℕ → ℕ
from_maker None = 0
from_maker (Some k) = k + 1

abbrev pub decreases-waits_for : goal.decreases-waits_for
decreases-waits_for l = 2 * l.op + 1

abbrev pub decreases-comes_from : goal.decreases-comes_from
decreases-comes_from l = 2 * from_maker (maker_at l.plan.now.arrays l.array)

-- the operation is waited for exactly where one of the arrays that are left comes from it
abbrev pub invariant-waits_for-loop-array : goal.invariant-waits_for-loop-array
invariant-waits_for-loop-array l =
    list_any (λ a. comes_from l.plan a l.other) (drop l.array-index l.array-items) ≡ waits_for l.plan l.op l.other
