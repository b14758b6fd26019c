use Rattle.std.proofs.Common.{ap, ◌∙◌, arith}
use Rattle.cu_op.specs.declared.layout.ArrayInfo.{ArrayInfo}
use Rattle.cu_view.proofs.Shares.{piece_ranks}
use Rattle.cu_task.proofs.JobViews.{is_view, result_region, region_in_shape}
use Rattle.cu_task.proofs.StraightReads.{on_true_then, is_shifted}
use Rattle.cu_task.proofs.straight.is_shifted.Goals as goal

pub piece_count-requires : goal.piece_count-requires
piece_count-requires c = record { view = is_view c.args.chunk.now.job.now c.requires.chunk.job c.shape-shape.result.now (c.shape-shape.ensures.value ∙ ap (λ (a : ArrayInfo). a.layout.grid.shape) c.made_array-made.ensures) }

pub piece_at-piece-requires-clause-view : goal.piece_at-piece-requires-clause-view
piece_at-piece-requires-clause-view c = is_view c.args.chunk.now.job.now c.requires.chunk.job c.shape-shape.result.now (c.shape-shape.ensures.value ∙ ap (λ (a : ArrayInfo). a.layout.grid.shape) c.made_array-made.ensures)

pub reads_from-requires : goal.reads_from-requires
reads_from-requires c =
    let shape = c.shape-shape.ensures.value ∙ ap (λ (a : ArrayInfo). a.layout.grid.shape) c.made_array-made.ensures in
    piece_ranks c.args.chunk.now.job.now.pull.now c.args.chunk.now.job.now.shapes.now c.shape-shape.result.now c.in-Some.number c.args.chunk.now.source c.piece_at-piece.result c.region.result.now c.args.part.now c.piece_at-piece.ensures (omega arith)
    (result_region c.args.chunk.now.job.now c.requires.chunk.job c.shape-shape.result.now c.region.result.now.lo c.region.result.now.hi shape c.region.ensures.lo c.region.ensures.hi)
    (region_in_shape c.args.chunk.now.job.now c.requires.chunk.job c.args.chunk.now.source c.args.part.now.lo c.args.part.now.hi c.requires.chunk.source c.requires.part)

pub returns : goal.returns
returns c =
    let shape = c.shape-shape.ensures.value ∙ ap (λ (a : ArrayInfo). a.layout.grid.shape) c.made_array-made.ensures in
    on_true_then c.reads_from.result
    (is_shifted c.args.chunk.now c.requires.chunk c.shape-shape.result.now shape c.region.result.now c.args.part.now c.region.ensures.lo c.region.ensures.hi
    c.in-Some.number c.piece_at-piece.result c.piece_at-piece.ensures (omega arith) c.in-Some.ensures)
    c.reads_from.ensures
