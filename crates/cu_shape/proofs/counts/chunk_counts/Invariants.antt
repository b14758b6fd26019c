use Rattle.std.proofs.Common.{◌≡◌, ◌<◌, ℕ, length, get_or}
use Rattle.std.specs.Int.{div_ceil}
use Rattle.cu_shape.proofs.counts.chunk_counts.Given as goal

abbrev pub invariant-loop-axis : goal.invariant-loop-axis
invariant-loop-axis l = record {
  ranks : length l.counts ≡ length l.shape;
  done : (k : ℕ) → k < l.axis → get_or l.counts k 0 ≡ div_ceil (get_or l.shape k 0) (get_or l.chunk k 0);
}
