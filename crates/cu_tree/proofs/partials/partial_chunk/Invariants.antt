use Rattle.std.proofs.Common.{◌≡◌, ◌<◌, ℕ, length, get_or, if◌then◌else◌}
use Rattle.cu_origin.specs.Pull.{has_axis}
use Rattle.cu_tree.proofs.partials.partial_chunk.Given as goal

abbrev pub invariant-loop-axis : goal.invariant-loop-axis
invariant-loop-axis l = record {
  rank : length l.sizes ≡ length l.chunk;
  front : (k : ℕ) → k < l.axis → get_or l.sizes k 0 ≡ (if has_axis l.axes k then 1 else get_or l.chunk k 0);
}
