use Rattle.std.proofs.Common.{◌≡◌, ◌<◌, ℕ, length, get_or}
use Rattle.cu_typing_view.specs.Entries.{clipped_chunk_size}
use Rattle.cu_typing_view.proofs.entries.cut_whole.Given as goal

abbrev pub invariant-loop-axis : goal.invariant-loop-axis
invariant-loop-axis l = record {
  rank : length l.whole ≡ length l.array.chunk;
  done : (k : ℕ) → k < l.axis → get_or l.whole k 0 ≡ clipped_chunk_size (get_or l.array.dims k 0) (get_or l.array.chunk k 0);
}
