use Rattle.std.proofs.Common.{◌≡◌, ◌<◌, ℕ, length, get_or}
use Rattle.cu_typing.specs.Joined.{aligned_on}
use Rattle.cu_typing.proofs.joining.chunk_aligned.Given as goal

abbrev pub invariant-loop-axis : goal.invariant-loop-axis
invariant-loop-axis l = record {
  ranks : length l.aligned ≡ length l.i.dims;
  done : (k : ℕ) → k < l.axis → get_or l.aligned k 0 ≡ aligned_on l.shape l.chunk l.i k;
}
