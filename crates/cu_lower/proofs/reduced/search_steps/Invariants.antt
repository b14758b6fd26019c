use Rattle.std.proofs.Common.{◌≡◌, ◌++◌, drop}
use Rattle.cu_lower_reduce.specs.Searches.{search_steps}
use Rattle.cu_lower.proofs.reduced.search_steps.Given as goal

abbrev pub invariant-loop-at : goal.invariant-loop-at
invariant-loop-at l = l.steps.items ++ drop l.at (search_steps l.s l.x) ≡ search_steps l.s l.x
