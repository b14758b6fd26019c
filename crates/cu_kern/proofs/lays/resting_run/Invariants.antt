use Rattle.std.proofs.Common.{◌≡◌, ◌<◌, ◌≤◌, ◌+◌, ℕ, drop, length, get_or}
use Rattle.cu_shape.specs.Index.{product}
use Rattle.cu_kern.proofs.lays.resting_run.Given as goal

abbrev pub invariant-loop-axis : goal.invariant-loop-axis
invariant-loop-axis l = record {
  within : l.axis ≤ length l.dims;
  ones : (j : ℕ) → l.axis ≤ l.lead + j → j < length l.shape → get_or l.shape j 0 ≡ 1;
  places : l.run ≡ product (drop l.axis l.dims);
}

abbrev pub decreases-loop-axis : goal.decreases-loop-axis
decreases-loop-axis l = l.axis
