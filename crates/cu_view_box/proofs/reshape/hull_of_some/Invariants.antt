use Rattle.cu_view_box.proofs.Reshapes.{IsHull}
use Rattle.cu_view_box.proofs.reshape.hull_of_some.Given as goal

abbrev pub invariant-loop-axis : goal.invariant-loop-axis
invariant-loop-axis l = IsHull l.source l.first l.last l.hull.lo l.hull.hi l.apart l.axis
