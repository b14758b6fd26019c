use Rattle.std.proofs.Common.{◌≡◌, ◌<◌, ℕ, length, get_or}
use Rattle.cu_op.specs.Partial.{is_reduced, count_on}
use Rattle.cu_op.proofs.groups.group_counts.Given as goal

abbrev pub invariant-loop-axis : goal.invariant-loop-axis
invariant-loop-axis l = record {
  ranks : length l.counts ≡ length l.shape;
  done : (k : ℕ) → k < l.axis → get_or l.counts k 0 ≡ count_on (is_reduced l.reduced k) (get_or l.sizes k 0) (get_or l.shape k 0);
}
