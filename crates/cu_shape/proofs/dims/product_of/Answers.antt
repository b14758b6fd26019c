use Rattle.std.proofs.Common.{◌<◌, ℕ, ◌+◌, ◌*◌, ◌^◌, get_or, drop, arith}
use Rattle.std.proofs.lemmas.List.{drop_more}
use Rattle.std.proofs.lemmas.List.Elements.{All-drop}
use Rattle.cu_shape.specs.Index.{product}
use Rattle.cu_shape.proofs.Places.{product_over, product_positive}
use Rattle.cu_shape.proofs.dims.product_of.Goals as goal

pub returns-then-size-count-clause-counted : goal.returns-then-size-count-clause-counted
returns-then-size-count-clause-counted c =
    let ds = c.args.sizes.now in
    let k = c.loop-size.size-index in
    let whole = rw (drop_more ds k 0 (omega arith)) at c.loop-size.invariant.whole in
    let over : 2 ^ 40 < c.loop-size.count * (get_or ds k 0 * product (drop (k + 1) ds)) =
    product_over c.loop-size.count (get_or ds k 0) (product (drop (k + 1) ds)) (2 ^ 40) c.loop-size.invariant.positive
    (product_positive _ (All-drop (λ (n : ℕ). 0 < n) (k + 1) ds c.requires)) c.if-size-count.true in
    (λ f. cc, λ f. absurd (omega arith))
