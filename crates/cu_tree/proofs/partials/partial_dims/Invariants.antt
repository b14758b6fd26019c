use Rattle.std.proofs.Common.{◌≡◌, ◌<◌, ℕ, length, get_or}
use Rattle.cu_tree.specs.Partials.{partial_size}
use Rattle.cu_tree.proofs.partials.partial_dims.Given as goal

abbrev pub invariant-loop-axis : goal.invariant-loop-axis
invariant-loop-axis l = record {
  rank : length l.dims ≡ length l.source.dims;
  front : (k : ℕ) → k < l.axis → get_or l.dims k 0 ≡ partial_size l.axes k (get_or l.source.dims k 0) (get_or l.source.chunk k 0);
}
