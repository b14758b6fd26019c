use Rattle.std.proofs.Common.{◌≢◌, ◌<◌, ℕ, get_or}
use Rattle.cu_lane.specs.Compared.{rank}
use Rattle.cu_lane.proofs.best.position.Given as goal

abbrev pub invariant-loop-at : goal.invariant-loop-at
invariant-loop-at l = (k : ℕ) → k < l.at → rank l.least l.bias (get_or l.x k 0) ≢ l.sought
