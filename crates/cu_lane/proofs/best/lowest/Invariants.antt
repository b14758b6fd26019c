use Rattle.std.proofs.Common.{◌≡◌, ◌<◌, ◌≤◌, ℕ, length, get_or}
use Rattle.cu_lane.specs.Compared.{rank}
use Rattle.cu_lane.proofs.best.lowest.Given as goal

abbrev pub invariant-loop-at : goal.invariant-loop-at
invariant-loop-at l = record {
  one : (number : ℕ) × (number < length l.x) × (rank l.least l.bias (get_or l.x number 0) ≡ l.best);
  lowest : (k : ℕ) → k < l.at → l.best ≤ rank l.least l.bias (get_or l.x k 0);
}
