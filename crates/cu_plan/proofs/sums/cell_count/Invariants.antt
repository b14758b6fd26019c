use Rattle.std.proofs.Common.{◌≡◌, take}
use Rattle.std.specs.Prelude.{sum_by}
use Rattle.cu_op.specs.Sound.{made_chunks}
use Rattle.cu_plan.proofs.sums.cell_count.Given as goal

abbrev pub invariant-loop-k : goal.invariant-loop-k
invariant-loop-k l = l.count ≡ sum_by made_chunks (take l.k l.plan.arrays)
