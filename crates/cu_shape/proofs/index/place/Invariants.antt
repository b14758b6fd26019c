use Rattle.std.proofs.Common.{◌≡◌, ◌+◌, ◌*◌, drop}
use Rattle.cu_shape.specs.Index.{product, place_of, IsInside}
use Rattle.cu_shape.proofs.index.place.Given as goal

abbrev pub invariant-loop-axis : goal.invariant-loop-axis
invariant-loop-axis l = record {
  whole : place_of l.dims l.idx ≡ l.place * product (drop l.axis l.dims) + place_of (drop l.axis l.dims) (drop l.axis l.idx);
  rest : IsInside (drop l.axis l.dims) (drop l.axis l.idx);
}
