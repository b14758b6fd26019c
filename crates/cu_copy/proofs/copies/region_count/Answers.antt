use Rattle.std.proofs.Common.{◌≡◌, ap, ◌∙◌, arith}
use Rattle.cu_shape.proofs.Products.{product_within, counts_within}
use Rattle.cu_shape.specs.Counts.{counts_of}
use Rattle.cu_grid.specs.Grid.{RegularGrid}
use Rattle.cu_shape.specs.Index.{product}
use Rattle.cu_copy.specs.Copies.{region_count}
use Rattle.cu_copy.proofs.copies.region_count.Goals as goal

-- on each axis at most as many as there are elements
pub returns-clause-few : goal.returns-clause-few
returns-clause-few c =
    let same : c.count.result ≡ region_count c.args.array.now c.args.sizes.now = c.count.ensures.count ∙ ap (λ (g : RegularGrid). product (counts_of g.shape g.chunk)) c.make_middle.ensures.grid in
    let within = counts_within c.args.array.now.dims c.args.sizes.now c.requires.positive c.requires.ranks in
    omega (arith, same, within, product_within (counts_of c.args.array.now.dims c.args.sizes.now), c.requires.elements)
