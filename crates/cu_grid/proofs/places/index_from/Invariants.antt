use Rattle.std.proofs.Common.{◌≡◌, ◌<◌, ℕ, ◌+◌, ◌*◌, length, get_or}
use Rattle.cu_grid.proofs.places.index_from.Given as goal

abbrev pub invariant-loop-axis : goal.invariant-loop-axis
invariant-loop-axis l = record {
  rank : length l.index ≡ length l.coord;
  done : (k : ℕ) → k < l.axis → get_or l.index k 0 ≡ get_or l.coord k 0 * get_or l.chunk k 0 + get_or l.inner k 0;
}
