use Rattle.std.proofs.Common.{◌≡◌, ◌+◌, ◌/◌, drop}
use Rattle.cu_shape.specs.Index.{product}
use Rattle.cu_kern.proofs.ReadPlaces.{place_from}
use Rattle.cu_kern.proofs.lays.place_in.Given as goal

abbrev pub invariant-loop-axis : goal.invariant-loop-axis
invariant-loop-axis l = record {
  left : l.rest ≡ l.fn.place / product (drop (l.lead + l.axis) l.dims);
  stride : l.stride ≡ product (drop l.axis l.shape);
  sum : l.at ≡ place_from l.shape l.dims l.lead l.axis l.fn.place;
}
