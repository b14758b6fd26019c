use Rattle.std.proofs.Common.{◌≡◌, ◌/◌, ◌%◌, take, drop, ◌++◌}
use Rattle.cu_shape.specs.Index.{product, index_at}
use Rattle.cu_mean.proofs.digits.index_at.Given as goal

abbrev pub invariant-loop-axis : goal.invariant-loop-axis
invariant-loop-axis l = record {
  digits : l.index ≡ take l.axis l.dims ++ index_at (drop l.axis l.dims) (l.fn.place % product (drop l.axis l.dims));
  left : l.rest ≡ l.fn.place / product (drop l.axis l.dims);
}
