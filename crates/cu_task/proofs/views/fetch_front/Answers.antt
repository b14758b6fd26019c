use Rattle.std.specs.Prelude.{IfErr, OnOk}
use Rattle.std.proofs.Common.{◌≡◌, ◌≤◌, ◌%◌, length, subst, arith, refl, sym}
use Rattle.cu_num.specs.Dtype.{size_of}
use Rattle.cu_num.specs.declared.types.Dtype.{Dtype}
use Rattle.cu_shape.specs.Index.{product}
use Rattle.cu_op.specs.declared.layout.ArrayInfo.{ArrayInfo}
use Rattle.cu_op.proofs.CellsOfTasks.{coordinates_small}
use Rattle.cu_region.specs.Reading.{bytes_of, HasFront, IsChunkReadFault, key_at}
use Rattle.cu_region.specs.Writing.{AreElements}
use Rattle.cu_region.proofs.StoredReads.{fault_more}
use Rattle.cu_store.specs.Chunks.{Adds}
use Rattle.cu_task.specs.ViewJobs.{view_task_of}
use Rattle.cu_task.specs.Views.{source_in, IsSourceKey}
use Rattle.cu_task.proofs.JobViews.{source_below, source_array_ok}
use Rattle.cu_task.proofs.Fronts.{front_room, front_whole}
use Rattle.cu_task.proofs.StraightReads.{if_err_then}
use Rattle.cu_task.proofs.views.fetch_front.Goals as goal

pub read_front-requires-clause-short : goal.read_front-requires-clause-short
read_front-requires-clause-short g c = (source_array_ok c.args.chunk.now.job.now c.requires.chunk.job c.args.chunk.now.source c.source_array-from.result.now c.requires.chunk.source c.source_array-from.ensures).short

pub read_front-requires-clause-fill : goal.read_front-requires-clause-fill
read_front-requires-clause-fill g c = (source_array_ok c.args.chunk.now.job.now c.requires.chunk.job c.args.chunk.now.source c.source_array-from.result.now c.requires.chunk.source c.source_array-from.ensures).fill

pub read_front-requires-clause-small : goal.read_front-requires-clause-small
read_front-requires-clause-small g c =
    coordinates_small c.args.chunk.now.job.now.task.now.plan _ c.args.chunk.now.coord c.requires.chunk.job.sound (source_below c.args.chunk.now.job.now c.requires.chunk.job c.args.chunk.now.source c.requires.chunk.source) c.requires.chunk.coordinate

pub read_front-requires-clause-may : goal.read_front-requires-clause-may
read_front-requires-clause-may g c = subst (λ (a : ArrayInfo). g.C.Chunks.may_get c.args.store.now c.args.access.now (key_at a c.args.chunk.now.coord)) (sym c.source_array-from.ensures) (c.requires.may (key_at (source_in (view_task_of c.args.chunk.now.job.now) c.args.chunk.now.source) c.args.chunk.now.coord) (c.args.chunk.now.coord, c.requires.chunk.coordinate, refl))

pub returns-clause-called : goal.returns-clause-called
returns-clause-called g c =
    subst (λ (a : ArrayInfo). Adds (g.C.Chunks.weight c.args.store.now (key_at a c.args.chunk.now.coord)) (g.C.Chunks.tally c.args.access.now) (g.C.Chunks.tally c.read_front.new.access)) c.source_array-from.ensures
    c.read_front.ensures.called

pub read_front-requires-clause-within : goal.read_front-requires-clause-within
read_front-requires-clause-within g c =
    let long = c.requires.bytes in
    let room = front_room c.args.chunk.now c.args.front.now c.requires.front in
    subst (λ (a : ArrayInfo). length c.args.bytes.now ≤ bytes_of a.layout) (sym c.source_array-from.ensures) (omega (arith, long, room))

pub read_front-requires-clause-whole : goal.read_front-requires-clause-whole
read_front-requires-clause-whole g c =
    subst (λ (a : ArrayInfo). length c.args.bytes.now % size_of a.layout.dtype ≡ 0) (sym c.source_array-from.ensures)
    (subst (λ (t : Dtype). length c.args.bytes.now % size_of t ≡ 0) c.requires.front.dtype (front_whole c.args.front.now.dtype (product c.args.front.now.dims) _ c.requires.bytes))

pub returns-clause-read : goal.returns-clause-read
returns-clause-read g c =
    subst (λ (a : ArrayInfo). OnOk c.read_front.result (HasFront a c.args.chunk.now.coord (g.C.Chunks.shown c.read_front.new.access).held c.read_front.new.buf)) c.source_array-from.ensures c.read_front.ensures.read

pub returns-clause-elements : goal.returns-clause-elements
returns-clause-elements g c = subst (λ (a : ArrayInfo). OnOk c.read_front.result (AreElements a.layout.dtype c.read_front.new.buf)) c.source_array-from.ensures c.read_front.ensures.elements

pub returns-clause-cause : goal.returns-clause-cause
returns-clause-cause g c =
    if_err_then c.read_front.result
    (λ e fault. fault_more (g.C.Chunks.shown c.args.access.now) (g.C.Chunks.shown c.args.access.now) (g.C.Chunks.shown c.read_front.new.access) (λ key. key ≡ key_at (source_in (view_task_of c.args.chunk.now.job.now) c.args.chunk.now.source) c.args.chunk.now.coord)
    (IsSourceKey (view_task_of c.args.chunk.now.job.now) c.args.chunk.now.source) (bytes_of (source_in (view_task_of c.args.chunk.now.job.now) c.args.chunk.now.source).layout) e (omega arith) (λ key is. (c.args.chunk.now.coord, c.requires.chunk.coordinate, is)) fault)
    (subst (λ (a : ArrayInfo). IfErr c.read_front.result (IsChunkReadFault (g.C.Chunks.shown c.args.access.now) (g.C.Chunks.shown c.read_front.new.access) (λ key. key ≡ key_at a c.args.chunk.now.coord) (bytes_of a.layout))) c.source_array-from.ensures c.read_front.ensures.cause)
