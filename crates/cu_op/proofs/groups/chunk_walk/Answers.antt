use Rattle.std.proofs.Common.{arith}
use Rattle.cu_shape.proofs.Products.{product_within}
use Rattle.cu_reduce.specs.Groups.{groups_of}
use Rattle.cu_op.specs.Arrays.{grid_at}
use Rattle.cu_op.specs.Partial.{is_reduced, partial_grid}
use Rattle.cu_op.proofs.GroupLists.{chunk_sizes}
use Rattle.cu_op.proofs.Grouped.{squeezed_product}
use Rattle.cu_op.proofs.groups.chunk_walk.Goals as goal

pub group_region-requires-clause-sizes : goal.group_region-requires-clause-sizes
group_region-requires-clause-sizes c = rw (c.chunk.ensures.value, c.shape.ensures.value) (chunk_sizes c.grid_of-grid.result c.grid_of-grid.ensures.kept)

pub group_region-requires-clause-same : goal.group_region-requires-clause-same
group_region-requires-clause-same c =
    let g = grid_at c.args.arrays.now c.args.source in
    let o = grid_at c.args.arrays.now c.args.out in
    let p = partial_grid (groups_of (is_reduced c.args.reduced) g.chunk) g in
    rw (c.chunk.ensures.value, c.shape.ensures.value, c.shape-2.ensures.value, c.grid_of-grid.ensures.grid, c.grid_of-result.ensures.grid) (squeezed_product p.shape p.chunk o.shape o.chunk c.requires.result)

pub group_region-requires-clause-few : goal.group_region-requires-clause-few
group_region-requires-clause-few c =
    let w = product_within c.grid_of-result.result.shape in
    let few = c.grid_of-result.ensures.kept.elements in
    rw c.shape-2.ensures.value (omega (arith, w, few))
