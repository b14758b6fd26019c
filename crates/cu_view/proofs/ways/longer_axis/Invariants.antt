use Rattle.std.proofs.Common.{◌≡◌, ◌+◌}
use Rattle.cu_view.specs.Boxes.{longer_before}
use Rattle.cu_view.proofs.ways.longer_axis.Given as goal

abbrev pub invariant-loop-axis : goal.invariant-loop-axis
invariant-loop-axis l = l.left + longer_before l.sizes l.axis ≡ l.place
