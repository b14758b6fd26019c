use Rattle.std.proofs.Common.{◌≡◌, ℕ, ◌<◌, length, get_or}
use Rattle.cu_origin.specs.Pull.{permuted_on}
use Rattle.cu_view.proofs.origins.permuted.Given as goal

abbrev pub invariant-loop-axis : goal.invariant-loop-axis
invariant-loop-axis l = record {
  ranks : length l.read ≡ length l.idx;
  done : (k : ℕ) → k < l.axis → get_or l.read k 0 ≡ permuted_on l.axes l.idx k;
}
