use Rattle.std.proofs.Common.{◌≡◌, drop}
use Rattle.cu_shape.specs.Index.{product}
use Rattle.cu_box.specs.StridedSteps.{box_axes}
use Rattle.cu_box.proofs.boxes.write_axes.Given as goal

abbrev pub invariant-loop-axis : goal.invariant-loop-axis
invariant-loop-axis l = record {
  from : l.from ≡ product (drop l.axis l.placing.from);
  to : l.to ≡ product (drop l.axis l.placing.to);
  written : drop l.axis l.axes ≡ box_axes (drop l.axis l.placing.sizes) (drop l.axis l.placing.from) (drop l.axis l.placing.to);
}
