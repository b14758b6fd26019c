use Rattle.std.proofs.Common.{◌≡◌, ◌++◌, drop}
use Rattle.cu_lower_reduce.specs.Cumulative.{cumulative_steps}
use Rattle.cu_lower.proofs.reduced.cumulative_steps.Given as goal

abbrev pub invariant-loop-at : goal.invariant-loop-at
invariant-loop-at l = l.steps.items ++ drop l.at (cumulative_steps l.s l.x) ≡ cumulative_steps l.s l.x
