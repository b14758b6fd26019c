use Rattle.std.proofs.Common.{◌≡◌, ◌⊎◌, ◌*◌, ◌+◌, drop, get_or, ap, arith}
use Rattle.std.proofs.lemmas.List.{drop_more}
use Rattle.cu_shape.specs.Index.{product}
use Rattle.cu_shape.proofs.Products.{saturated_step}
use Rattle.cu_shape.proofs.dims.Dims.product.Goals as goal

pub loop-axis-preserved : goal.loop-axis-preserved
loop-axis-preserved c =
    let k = c.loop-axis.axis in
    let sizes = c.args.self.now in
    let more : product (drop k sizes) ≡ get_or sizes k 0 * product (drop (k + 1) sizes) = ap product (drop_more sizes k 0 (omega arith)) in
    let before : (c.loop-axis.count * (get_or sizes k 0 * product (drop (k + 1) sizes)) ≡ product sizes) ⊎ ((get_or sizes k 0 * product (drop (k + 1) sizes) ≡ 0) × (product sizes ≡ 0)) = rw more at c.loop-axis.invariant in
    saturated_step c.loop-axis.count (get_or sizes k 0) (product (drop (k + 1) sizes)) (product sizes) c.saturating_mul-count.result (rw c.at.ensures at c.saturating_mul-count.ensures) c.requires before
