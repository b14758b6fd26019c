use Rattle.std.proofs.Common.{◌≡◌, drop}
use Rattle.cu_typing_view.specs.Reshaped.{are_stretched}
use Rattle.cu_typing_view.proofs.reshaped.are_stretched.Given as goal

abbrev pub invariant-loop-axis : goal.invariant-loop-axis
invariant-loop-axis l = record {
  rest : are_stretched l.a l.shape ≡ are_stretched (drop l.axis l.a) (drop l.axis l.shape);
}
