use Rattle.std.proofs.Common.{◌≡◌, ◌≤◌, ◌+◌, drop, length}
use Rattle.cu_shape.specs.Index.{product}
use Rattle.cu_kern.proofs.lays.moving_run.Given as goal

abbrev pub invariant-loop-axis : goal.invariant-loop-axis
invariant-loop-axis l = record {
  within : l.axis ≤ length l.shape;
  alike : drop l.axis l.shape ≡ drop (l.lead + l.axis) l.dims;
  places : l.run ≡ product (drop (l.lead + l.axis) l.dims);
}

abbrev pub decreases-loop-axis : goal.decreases-loop-axis
decreases-loop-axis l = l.axis
