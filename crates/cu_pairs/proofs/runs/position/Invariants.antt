use Rattle.std.proofs.Common.{◌≢◌, ◌<◌, ℕ}
use Rattle.cu_pairs.specs.Runs.{elements}
use Rattle.cu_pairs.proofs.runs.position.Given as goal

abbrev pub invariant-loop-at : goal.invariant-loop-at
invariant-loop-at l = (k : ℕ) → k < l.at → elements l.t l.bytes k ≢ l.x
