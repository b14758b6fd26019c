use Rattle.std.proofs.Common.{◌≡◌, ◌<◌, ℕ, ◌+◌, ◌*◌, min, length, get_or}
use Rattle.cu_grid.proofs.region.region_of_chunk.Given as goal

abbrev pub invariant-loop-axis : goal.invariant-loop-axis
invariant-loop-axis l = record {
  lo_rank : length l.lo ≡ length l.coord;
  hi_rank : length l.hi ≡ length l.coord;
  lo_done : (k : ℕ) → k < l.axis → get_or l.lo k 0 ≡ get_or l.coord k 0 * get_or l.chunk k 0;
  hi_done : (k : ℕ) → k < l.axis → get_or l.hi k 0 ≡ min ((get_or l.coord k 0 + 1) * get_or l.chunk k 0) (get_or l.shape k 0);
}
