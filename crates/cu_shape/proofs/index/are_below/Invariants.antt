use Rattle.std.proofs.Common.{◌≡◌, drop}
use Rattle.cu_shape.specs.Index.{is_inside}
use Rattle.cu_shape.proofs.index.are_below.Given as goal

abbrev pub invariant-loop-axis : goal.invariant-loop-axis
invariant-loop-axis l = record {
  rest : is_inside l.dims l.idx ≡ is_inside (drop l.axis l.dims) (drop l.axis l.idx);
}
