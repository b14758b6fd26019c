use Rattle.std.proofs.Common.{refl, arith}
use Rattle.cu_task.proofs.Fronts.{not_cut, is_front, has_ranks, rows_of_chunk}
use Rattle.cu_task.proofs.views.front_block.Goals as goal

pub at-first-requires : goal.at-first-requires
at-first-requires c =
    let b = c.chunk_block-front.ensures in
    let r = has_ranks c.args.chunk.now c.requires c.chunk_block-front.result b.region.inside b.dims in
    let l = r.lo in
    omega arith

pub at-requires : goal.at-requires
at-requires c =
    let b = c.chunk_block-front.ensures in
    let r = has_ranks c.args.chunk.now c.requires c.chunk_block-front.result b.region.inside b.dims in
    let l = r.hi in
    omega arith

pub at-requires-then-rank-gt0 : goal.at-requires-then-rank-gt0
at-requires-then-rank-gt0 c =
    let b = c.chunk_block-front.ensures in
    let r = has_ranks c.args.chunk.now c.requires c.chunk_block-front.result b.region.inside b.dims in
    let l = r.needed in
    omega arith

pub put-requires : goal.put-requires
put-requires c =
    let b = c.chunk_block-front.ensures in
    let r = has_ranks c.args.chunk.now c.requires c.chunk_block-front.result b.region.inside b.dims in
    let l = r.hi in
    omega arith

pub returns-then-rank-gt0 : goal.returns-then-rank-gt0
returns-then-rank-gt0 c =
    let b = c.chunk_block-front.ensures in
    rows_of_chunk c.args.chunk.now c.requires c.chunk_block-front.result _ b.region.lo b.region.hi b.region.inside b.dims b.dtype refl refl _ _ c.put.ensures c.put-then-rank-gt0.ensures (omega arith) (omega arith)

pub returns-else-rank-gt0 : goal.returns-else-rank-gt0
returns-else-rank-gt0 c =
    let b = c.chunk_block-front.ensures in
    is_front c.args.chunk.now c.requires c.chunk_block-front.result c.chunk_block-front.result b.region.lo b.region.hi b.region.inside b.dims b.dtype refl refl
    (not_cut c.chunk_block-front.result.region.lo c.chunk_block-front.result.region.hi c.chunk_block-front.result.dims c.args.chunk.now.needed.lo c.args.chunk.now.needed.hi)
