use Rattle.std.proofs.Common.{◌≡◌, ◌<◌, ◌-◌, ℕ, length, get_or}
use Rattle.cu_grid.proofs.region.Region.last.Given as goal

abbrev pub invariant-loop-axis : goal.invariant-loop-axis
invariant-loop-axis l = record {
  ranks : length l.last ≡ length l.self.hi;
  done : (k : ℕ) → k < l.axis → get_or l.last k 0 ≡ get_or l.self.hi k 0 - 1;
}
