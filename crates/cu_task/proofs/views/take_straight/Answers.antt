use Rattle.std.specs.Prelude.{IfErr}
use Rattle.std.proofs.Common.{◌≡◌, ap, sym, ◌∙◌, subst, refl, arith}
use Rattle.cu_op.specs.declared.layout.ArrayInfo.{ArrayInfo}
use Rattle.cu_op.proofs.CellsOfTasks.{coordinates_small}
use Rattle.cu_region.specs.Reading.{bytes_of, IsChunkReadFault, key_at}
use Rattle.cu_region.proofs.StoredReads.{fault_more}
use Rattle.cu_store.specs.Chunks.{Adds}
use Rattle.cu_task.specs.Views.{source_in, IsSourceKey}
use Rattle.cu_task.specs.ViewJobs.{view_task_of}
use Rattle.cu_task.proofs.JobViews.{source_below, source_array_ok}
use Rattle.cu_task.proofs.StraightReads.{if_err_then, straight_room, took_straight}
use Rattle.cu_task.proofs.views.take_straight.Goals as goal

pub read_chunk-requires-clause-short : goal.read_chunk-requires-clause-short
read_chunk-requires-clause-short g c = (source_array_ok c.args.chunk.now.job.now c.requires.chunk.job c.args.chunk.now.source c.source_array-from.result.now c.requires.chunk.source c.source_array-from.ensures).short

pub read_chunk-requires-clause-fill : goal.read_chunk-requires-clause-fill
read_chunk-requires-clause-fill g c = (source_array_ok c.args.chunk.now.job.now c.requires.chunk.job c.args.chunk.now.source c.source_array-from.result.now c.requires.chunk.source c.source_array-from.ensures).fill

pub read_chunk-requires-clause-small : goal.read_chunk-requires-clause-small
read_chunk-requires-clause-small g c =
    coordinates_small c.args.chunk.now.job.now.task.now.plan _ c.args.chunk.now.coord c.requires.chunk.job.sound (source_below c.args.chunk.now.job.now c.requires.chunk.job c.args.chunk.now.source c.requires.chunk.source) c.requires.chunk.coordinate

pub read_chunk-requires-clause-length : goal.read_chunk-requires-clause-length
read_chunk-requires-clause-length g c =
    c.requires.output ∙ straight_room c.args.chunk.now c.requires.chunk c.requires.straight ∙ ap (λ (a : ArrayInfo). bytes_of a.layout) (sym c.source_array-from.ensures)

pub read_chunk-requires-clause-may : goal.read_chunk-requires-clause-may
read_chunk-requires-clause-may g c = subst (λ (a : ArrayInfo). g.C.Chunks.may_get c.args.store.now c.args.access.now (key_at a c.args.chunk.now.coord)) (sym c.source_array-from.ensures) (c.requires.may (key_at (source_in (view_task_of c.args.chunk.now.job.now) c.args.chunk.now.source) c.args.chunk.now.coord) (c.args.chunk.now.coord, c.requires.chunk.coordinate, refl))

pub returns-clause-takes : goal.returns-clause-takes
returns-clause-takes g c told known =
    let room = c.requires.output ∙ straight_room c.args.chunk.now c.requires.chunk c.requires.straight in
    took_straight c.args.chunk.now c.requires.chunk c.requires.straight c.args.output.now c.read_chunk.new.buf told (g.C.Chunks.shown c.args.access.now) (g.C.Chunks.shown c.read_chunk.new.access)
    c.source_array-from.result.now c.source_array-from.ensures c.read_chunk.result (omega (arith, room)) known c.read_chunk.ensures.step c.read_chunk.ensures.read c.read_chunk.ensures.elements

pub returns-clause-called : goal.returns-clause-called
returns-clause-called g c =
    subst (λ (a : ArrayInfo). Adds (g.C.Chunks.weight c.args.store.now (key_at a c.args.chunk.now.coord)) (g.C.Chunks.tally c.args.access.now) (g.C.Chunks.tally c.read_chunk.new.access)) c.source_array-from.ensures
    c.read_chunk.ensures.called

pub returns-clause-cause : goal.returns-clause-cause
returns-clause-cause g c =
    if_err_then c.read_chunk.result
    (λ e fault. fault_more (g.C.Chunks.shown c.args.access.now) (g.C.Chunks.shown c.args.access.now) (g.C.Chunks.shown c.read_chunk.new.access) (λ key. key ≡ key_at (source_in (view_task_of c.args.chunk.now.job.now) c.args.chunk.now.source) c.args.chunk.now.coord)
    (IsSourceKey (view_task_of c.args.chunk.now.job.now) c.args.chunk.now.source) (bytes_of (source_in (view_task_of c.args.chunk.now.job.now) c.args.chunk.now.source).layout) e (omega arith) (λ key is. (c.args.chunk.now.coord, c.requires.chunk.coordinate, is)) fault)
    (subst (λ (a : ArrayInfo). IfErr c.read_chunk.result (IsChunkReadFault (g.C.Chunks.shown c.args.access.now) (g.C.Chunks.shown c.read_chunk.new.access) (λ key. key ≡ key_at a c.args.chunk.now.coord) (bytes_of a.layout))) c.source_array-from.ensures c.read_chunk.ensures.cause)
