use Rattle.std.proofs.Common.{◌≡◌, ◌<◌, ℕ, length, get_or}
use Rattle.cu_grid.specs.Cover.{span_on}
use Rattle.cu_grid.proofs.cover.spans.Given as goal

abbrev pub invariant-loop-axis : goal.invariant-loop-axis
invariant-loop-axis l = record {
  ranks : length l.spans ≡ length l.chunk;
  done : (k : ℕ) → k < l.axis → get_or l.spans k 0 ≡ span_on (get_or l.lo k 0) (get_or l.hi k 0) (get_or l.chunk k 0);
}
