use Rattle.std.proofs.Common.{◌≡◌, ◌≤◌, drop, length}
use Rattle.cu_shape.specs.Index.{product}
use Rattle.cu_kern.proofs.lays.period_of.Given as goal

abbrev pub invariant-loop-axis : goal.invariant-loop-axis
invariant-loop-axis l = record {
  within : l.axis ≤ length l.dims;
  above : l.lead ≤ l.axis;
  places : l.period ≡ product (drop l.axis l.dims);
}

abbrev pub decreases-loop-axis : goal.decreases-loop-axis
decreases-loop-axis l = l.axis
