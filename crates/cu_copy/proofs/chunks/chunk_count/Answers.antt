use Rattle.std.proofs.Common.{◌≡◌, ap, ◌∙◌, arith}
use Rattle.cu_shape.proofs.Products.{product_within}
use Rattle.cu_shape.specs.Counts.{counts_of}
use Rattle.cu_grid.specs.Grid.{RegularGrid}
use Rattle.cu_shape.specs.Index.{product}
use Rattle.cu_copy.specs.Chunks.{chunk_count}
use Rattle.cu_copy.proofs.chunks.chunk_count.Goals as goal

-- an axis of size 0 counts as one in the limit
pub returns-clause-small : goal.returns-clause-small
returns-clause-small c =
    let same : c.count.result ≡ chunk_count c.args.info.now = c.count.ensures.count ∙ ap (λ (g : RegularGrid). product (counts_of g.shape g.chunk)) c.make_middle.ensures.grid in
    omega (arith, same, product_within (counts_of c.args.info.now.dims c.args.info.now.chunk), c.requires.chunks)
