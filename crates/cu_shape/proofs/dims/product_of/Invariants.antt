use Rattle.std.proofs.Common.{◌≡◌, ◌≤◌, ◌<◌, ◌^◌, ◌*◌, drop}
use Rattle.cu_shape.specs.Index.{product}
use Rattle.cu_shape.proofs.dims.product_of.Given as goal

abbrev pub invariant-loop-size : goal.invariant-loop-size
invariant-loop-size l = record {
  positive : 0 < l.count;
  small : l.count ≤ 2 ^ 40;
  whole : product l.sizes ≡ l.count * product (drop l.size-index l.sizes);
}
