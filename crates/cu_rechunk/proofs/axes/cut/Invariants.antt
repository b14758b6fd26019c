use Rattle.std.proofs.Common.{◌≡◌, ℕ, ◌<◌, length, get_or, min, max}
use Rattle.cu_rechunk.proofs.axes.cut.Given as goal

abbrev pub invariant-loop-axis : goal.invariant-loop-axis
invariant-loop-axis l = record {
  ranks : length l.sizes ≡ length l.chunk;
  done : (k : ℕ) → k < l.axis → get_or l.sizes k 0 ≡ min (get_or l.chunk k 0) (max (get_or l.shape k 0) 1);
}
