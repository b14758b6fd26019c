use Rattle.std.proofs.Common.{◌≡◌, ◌++◌, drop}
use Rattle.cu_lower_reduce.specs.Reductions.{reduction_steps}
use Rattle.cu_lower.proofs.reduced.reduction_steps.Given as goal

abbrev pub invariant-loop-at : goal.invariant-loop-at
invariant-loop-at l = l.steps.items ++ drop l.at (reduction_steps l.s l.x) ≡ reduction_steps l.s l.x
