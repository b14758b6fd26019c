use Rattle.std.proofs.Common.{◌≡◌, map, refl, arith}
use Rattle.cu_shape.proofs.Products.{product_within}
use Rattle.cu_op.specs.Arrays.{grid_at}
use Rattle.cu_op.specs.Partial.{merge_groups, partial_grid}
use Rattle.cu_op.proofs.GroupLists.{merge_sizes}
use Rattle.cu_op.proofs.Grouped.{squeezed_product}
use Rattle.cu_op.proofs.groups.merge_walk.Goals as goal

pub group_region-requires-clause-sizes : goal.group_region-requires-clause-sizes
group_region-requires-clause-sizes c =
    let same : c.filled-sizes.result ≡ map (λ n. c.args.group) c.shape-2.result.now = rw (c.filled-sizes.ensures, c.from.ensures, c.shape.ensures.value, c.shape-2.ensures.value) refl in
    merge_sizes c.shape-2.result.now c.filled-sizes.result c.args.group same c.requires.some c.requires.few

pub group_region-requires-clause-same : goal.group_region-requires-clause-same
group_region-requires-clause-same c =
    let g = grid_at c.args.arrays.now c.args.source in
    let o = grid_at c.args.arrays.now c.args.out in
    let p = partial_grid (merge_groups c.args.axis c.args.group g) g in
    rw (c.filled-sizes.ensures, c.from.ensures, c.shape.ensures.value, c.shape-2.ensures.value, c.shape-3.ensures.value, c.grid_of-grid.ensures.grid, c.grid_of-result.ensures.grid) (squeezed_product p.shape p.chunk o.shape o.chunk c.requires.result)

pub group_region-requires-clause-few : goal.group_region-requires-clause-few
group_region-requires-clause-few c =
    let w = product_within c.grid_of-result.result.shape in
    let few = c.grid_of-result.ensures.kept.elements in
    rw c.shape-3.ensures.value (omega (arith, w, few))
