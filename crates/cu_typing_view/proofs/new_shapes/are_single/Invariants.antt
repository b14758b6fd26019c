use Rattle.std.proofs.Common.{◌≡◌, drop}
use Rattle.cu_typing_view.specs.NewShapes.{are_single}
use Rattle.cu_typing_view.proofs.new_shapes.are_single.Given as goal

abbrev pub invariant-loop-axis : goal.invariant-loop-axis
invariant-loop-axis l = record {
  rest : are_single l.sizes l.marks ≡ are_single (drop l.axis l.sizes) (drop l.axis l.marks);
}
