use Rattle.std.proofs.Common.{◌≡◌}
use Rattle.cu_typing.specs.Matmul.{product_shape, product_chunk}
use Rattle.cu_typing.proofs.Chunks.{has_chunks}
use Rattle.cu_typing.proofs.ProductSizes.{product_ranks, product_positive}
use Rattle.cu_typing.proofs.matmul.array_of_product.Goals as goal

chunk_of : (c : goal.After-are_operands_within) → c.with_columns-chunk.result ≡ product_chunk c.args.lead.now c.args.l.now c.args.r.now
chunk_of c =
    let sizes = c.with_columns-chunk.ensures in
    let front = c.with_rows-2.ensures.sizes in
    let lead = c.chunk_joined-front.ensures.chunk in
    let arrays = c.lead_arguments.ensures in
    cc

shape_of : (c : goal.After-are_operands_within) → c.with_columns-dims.result ≡ product_shape c.args.lead.now c.args.l.now c.args.r.now
shape_of c =
    let sizes = c.with_columns-dims.ensures in
    let front = c.with_rows.ensures.sizes in
    cc

pub product_within-requires-clause-ranks : goal.product_within-requires-clause-ranks
product_within-requires-clause-ranks c =
    rw (chunk_of c) (rw (shape_of c) (product_ranks c.args.lead.now c.args.l.now c.args.r.now (has_chunks _ c.requires.left) (has_chunks _ c.requires.right)))

pub product_within-requires-clause-positive : goal.product_within-requires-clause-positive
product_within-requires-clause-positive c =
    rw (chunk_of c) (product_positive c.args.lead.now c.args.l.now c.args.r.now (has_chunks _ c.requires.left) (has_chunks _ c.requires.right))
