use Rattle.std.proofs.Common.{◌≡◌, ◌<◌, ℕ, length, get_or}
use Rattle.cu_typing.specs.Joined.{arrays_of, joined_chunk_on}
use Rattle.cu_typing.proofs.joining.chunk_joined.Given as goal

abbrev pub invariant-loop-axis : goal.invariant-loop-axis
invariant-loop-axis l = record {
  ranks : length l.chunk ≡ length l.shape;
  done : (k : ℕ) → k < l.axis → get_or l.chunk k 0 ≡ joined_chunk_on l.shape (arrays_of l.args) k;
}
