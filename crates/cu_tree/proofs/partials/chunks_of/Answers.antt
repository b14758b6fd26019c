use Rattle.std.proofs.Common.{◌≡◌, ap, ◌∙◌, arith}
use Rattle.cu_shape.proofs.Products.{product_within}
use Rattle.cu_shape.specs.Counts.{counts_of}
use Rattle.cu_shape.specs.Index.{product}
use Rattle.cu_grid.specs.Grid.{RegularGrid}
use Rattle.cu_tree.specs.Partials.{chunks_of}
use Rattle.cu_tree.proofs.partials.chunks_of.Goals as goal

pub returns-clause-few : goal.returns-clause-few
returns-clause-few c =
    let same : c.count.result ≡ chunks_of c.args.info.now = c.count.ensures.count ∙ ap (λ (g : RegularGrid). product (counts_of g.shape g.chunk)) c.make_middle.ensures.grid in
    omega (arith, same, product_within (counts_of c.args.info.now.dims c.args.info.now.chunk), c.requires.chunks)
