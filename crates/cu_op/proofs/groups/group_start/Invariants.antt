use Rattle.std.proofs.Common.{◌≡◌, ◌<◌, ℕ, length, get_or}
use Rattle.cu_op.specs.Partial.{is_reduced, start_on}
use Rattle.cu_op.proofs.groups.group_start.Given as goal

abbrev pub invariant-loop-axis : goal.invariant-loop-axis
invariant-loop-axis l = record {
  ranks : length l.lo ≡ length l.shape;
  done : (k : ℕ) → k < l.axis → get_or l.lo k 0 ≡ start_on (is_reduced l.reduced k) (get_or l.sizes k 0) (get_or l.idx k 0);
}
