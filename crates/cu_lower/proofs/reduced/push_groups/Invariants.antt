use Rattle.std.proofs.Common.{◌≡◌, ◌++◌, drop}
use Rattle.cu_lower_reduce.specs.Grouped.{grouped_steps}
use Rattle.cu_lower.proofs.reduced.push_groups.Given as goal

abbrev pub invariant-loop-at : goal.invariant-loop-at
invariant-loop-at l = l.steps.items ++ drop l.at (grouped_steps l.s l.x) ≡ l.initial.steps.items ++ grouped_steps l.s l.x
