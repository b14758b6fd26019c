use Rattle.std.proofs.Common.{arith, sym, ◌∙◌}
use Rattle.cu_shape.proofs.Products.{product_within}
use Rattle.cu_grid.specs.Cover.{spans_of}
use Rattle.cu_grid.proofs.Covers.{bounds_of, spans_within, walk_of}
use Rattle.cu_grid.proofs.cover.cover_of.Goals as goal

pub spans-spans-requires-clause-lo_rank : goal.spans-spans-requires-clause-lo_rank
spans-spans-requires-clause-lo_rank c = (bounds_of _ _ _ c.requires.region).lo_rank ∙ sym c.requires.grid.ranks

pub spans-spans-requires-clause-hi_rank : goal.spans-spans-requires-clause-hi_rank
spans-spans-requires-clause-hi_rank c = (bounds_of _ _ _ c.requires.region).hi_rank ∙ sym c.requires.grid.ranks

pub corner-requires-clause-ranks : goal.corner-requires-clause-ranks
corner-requires-clause-ranks c = c.requires.grid.ranks ∙ sym ((bounds_of _ _ _ c.requires.region).lo_rank)

pub product-requires : goal.product-requires
product-requires c =
    let w = spans_within c.args.shape.now c.args.chunk.now c.args.lo.now c.args.hi.now c.requires.grid c.requires.region in
    let p = product_within (spans_of c.args.lo.now c.args.hi.now c.args.chunk.now) in
    rw c.spans-spans.ensures (omega arith)

pub invariant_of-result : goal.invariant_of-result
invariant_of-result c =
    rw (c.product.ensures, c.corner.ensures, c.spans-spans.ensures) (walk_of c.args.shape.now c.args.chunk.now c.args.lo.now c.args.hi.now c.requires.grid c.requires.region)
