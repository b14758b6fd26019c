use Rattle.std.proofs.Common.{◌≡◌, ◌≤◌, ◌++◌, drop, length}
use Rattle.cu_typing_view.specs.NewShapes.{unmarked}
use Rattle.cu_typing_view.proofs.new_shapes.unmarked.Given as goal

abbrev pub invariant-loop-axis : goal.invariant-loop-axis
invariant-loop-axis l = record {
  rank : length l.left ≤ l.axis;
  whole : unmarked l.numbers l.marks ≡ l.left ++ unmarked (drop l.axis l.numbers) (drop l.axis l.marks);
}
