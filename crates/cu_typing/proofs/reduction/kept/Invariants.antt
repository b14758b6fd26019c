use Rattle.std.proofs.Common.{◌≡◌, ◌≤◌, ◌++◌, length, drop}
use Rattle.cu_typing.specs.Reduction.{kept_sizes}
use Rattle.cu_typing.proofs.reduction.kept.Given as goal

abbrev pub invariant-loop-axis : goal.invariant-loop-axis
invariant-loop-axis l = record {
  short : length l.kept ≤ l.axis;
  rest : l.kept ++ kept_sizes l.keepdims (drop l.axis l.sizes) (drop l.axis l.marks) ≡ kept_sizes l.keepdims l.sizes l.marks;
}
