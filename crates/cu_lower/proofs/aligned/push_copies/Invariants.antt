use Rattle.std.proofs.Common.{◌≡◌, ◌++◌, drop}
use Rattle.cu_lower_reduce.specs.Copies.{copy_steps}
use Rattle.cu_lower.proofs.aligned.push_copies.Given as goal

-- what is left adds its own
abbrev pub invariant-loop-at : goal.invariant-loop-at
invariant-loop-at l = l.steps.items ++ drop l.at (copy_steps l.s l.source l.rechunk) ≡ l.initial.steps.items ++ copy_steps l.s l.source l.rechunk
