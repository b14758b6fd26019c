use Rattle.std.proofs.Common.{◌≤◌, ◌^◌, arith}
use Rattle.cu_shape.specs.Index.{product}
use Rattle.cu_grid.specs.Counts.{counts_of}
use Rattle.cu_grid.specs.Grid.{RegularGrid, IsGrid}
use Rattle.cu_shape.proofs.Products.{counts_within, product_within}
use Rattle.cu_grid.proofs.grid.Grid.count.Goals as goal

within : (g : RegularGrid) → IsGrid g → product (counts_of g.shape g.chunk) ≤ 2 ^ 56
within g i =
    let w = counts_within g.shape g.chunk i.positive i.ranks in
    let p = product_within (counts_of g.shape g.chunk) in
    let b = i.elements in
    omega arith

pub product-requires : goal.product-requires
product-requires c =
    let w = within (record { shape = c.self.inside.shape; chunk = c.self.inside.chunk }) c.self.invariant in
    rw c.chunk_counts.ensures (omega arith)

pub returns-clause-small : goal.returns-clause-small
returns-clause-small c =
    let w = within (record { shape = c.before.self.inside.shape; chunk = c.before.self.inside.chunk }) c.before.self.invariant in
    let e = c.product.ensures in
    rw (e, c.before.chunk_counts.ensures) w
