use Rattle.std.proofs.Common.{◌≡◌, ◌≤◌, ◌*◌, drop, min}
use Rattle.cu_shape.specs.Index.{product}
use Rattle.cu_typing_view.specs.Reshaped.{given}
use Rattle.cu_typing_view.proofs.reshaped.given_product.Given as goal

abbrev pub invariant-loop-size : goal.invariant-loop-size
invariant-loop-size l = record {
  small : l.count ≤ 1099511627777;
  whole : min (product (given l.shape)) 1099511627777 ≡ min (l.count * product (given (drop l.size-index l.shape))) 1099511627777;
}
