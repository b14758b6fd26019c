use Rattle.std.proofs.Common.{◌≡◌, ◌≤◌, length, sym, ap, ◌∙◌, subst, arith}
use Rattle.std.proofs.lemmas.List.{length-take-le}
use Rattle.std.proofs.lemmas.Result.{err_from_is_err_and}
use Rattle.cu_store.specs.Chunks.{Adds}
use Rattle.cu_op.specs.declared.layout.ArrayInfo.{ArrayInfo}
use Rattle.cu_op.proofs.CellsOfTasks.{coordinates_small}
use Rattle.cu_region.specs.Reading.{bytes_of, key_at, HasChunk, IsChunkReadFault}
use Rattle.cu_region.specs.Writing.{AreElements}
use Rattle.cu_task.proofs.ChunkReads.{from_array}
use Rattle.cu_task.proofs.chunk_copies.read_into_parts.Goals as goal

pub array-from-requires : goal.array-from-requires
array-from-requires g c = c.requires.copy.reads.0

pub read_chunk-requires-clause-short : goal.read_chunk-requires-clause-short
read_chunk-requires-clause-short g c = rw c.array-from.ensures.array (from_array c.args.task.now c.args.walk.now c.requires.copy).short

pub read_chunk-requires-clause-fill : goal.read_chunk-requires-clause-fill
read_chunk-requires-clause-fill g c = rw c.array-from.ensures.array (from_array c.args.task.now c.args.walk.now c.requires.copy).fill

pub read_chunk-requires-clause-small : goal.read_chunk-requires-clause-small
read_chunk-requires-clause-small g c = coordinates_small c.args.task.now.plan c.args.walk.now.array c.args.coord.now c.requires.copy.sound c.requires.copy.reads.0 c.requires.coordinate

pub read_chunk-requires-clause-length : goal.read_chunk-requires-clause-length
read_chunk-requires-clause-length g c =
    let room = subst (λ (i : ArrayInfo). bytes_of i.layout ≤ length c.args.scratch.now) (sym c.array-from.ensures.array) c.requires.scratch in
    length-take-le c.chunk_bytes.result c.args.scratch.now (omega (arith, room)) ∙ c.chunk_bytes.ensures

pub read_chunk-requires-clause-may : goal.read_chunk-requires-clause-may
read_chunk-requires-clause-may g c = rw c.array-from.ensures.array c.requires.may

pub take_into_parts-requires-clause-chunk : goal.take_into_parts-requires-clause-chunk
take_into_parts-requires-clause-chunk g c =
    let room = subst (λ (i : ArrayInfo). bytes_of i.layout ≤ length c.args.scratch.now) (sym c.array-from.ensures.array) c.requires.scratch in
    c.read_chunk.auto.buf ∙ length-take-le c.chunk_bytes.result c.args.scratch.now (omega (arith, room)) ∙ c.chunk_bytes.ensures ∙ ap (λ (i : ArrayInfo). bytes_of i.layout) c.array-from.ensures.array

pub returns-clause-takes : goal.returns-clause-takes
returns-clause-takes g c =
    let room = subst (λ (i : ArrayInfo). bytes_of i.layout ≤ length c.args.scratch.now) (sym c.array-from.ensures.array) c.requires.scratch in
    record {
      bytes = c.read_chunk.new.buf;
      long = c.read_chunk.auto.buf ∙ length-take-le c.chunk_bytes.result c.args.scratch.now (omega (arith, room)) ∙ c.chunk_bytes.ensures ∙ ap (λ (i : ArrayInfo). bytes_of i.layout) c.array-from.ensures.array;
      has = subst (λ (i : ArrayInfo). HasChunk i c.args.coord.now (g.C.Chunks.shown c.read_chunk.new.access).held c.read_chunk.new.buf) c.array-from.ensures.array c.in_ok-read_chunk.ensures.read;
      elements = subst (λ (i : ArrayInfo). AreElements i.layout.dtype c.read_chunk.new.buf) c.array-from.ensures.array c.in_ok-read_chunk.ensures.elements;
      taken = c.take_into_parts.ensures;
    }

pub returns-clause-called : goal.returns-clause-called
returns-clause-called g c =
    subst (λ (i : ArrayInfo). Adds (g.C.Chunks.weight c.args.store.now (key_at i c.args.coord.now)) (g.C.Chunks.tally c.args.access.now) (g.C.Chunks.tally c.read_chunk.new.access)) c.array-from.ensures.array c.read_chunk.ensures.called

pub returns-in_err-read_chunk-clause-called : goal.returns-in_err-read_chunk-clause-called
returns-in_err-read_chunk-clause-called g c =
    subst (λ (i : ArrayInfo). Adds (g.C.Chunks.weight c.args.store.now (key_at i c.args.coord.now)) (g.C.Chunks.tally c.args.access.now) (g.C.Chunks.tally c.read_chunk.new.access)) c.array-from.ensures.array c.read_chunk.ensures.called

pub returns-in_err-read_chunk-clause-takes : goal.returns-in_err-read_chunk-clause-takes
returns-in_err-read_chunk-clause-takes g c = let p = err_from_is_err_and c.from_residual.result c.from_residual.ensures.1 in rw p.1 tt

pub returns-in_err-read_chunk-clause-cause : goal.returns-in_err-read_chunk-clause-cause
returns-in_err-read_chunk-clause-cause g c =
    let p = err_from_is_err_and c.from_residual.result c.from_residual.ensures.1 in
    rw (p.1, p.2) (subst (λ (i : ArrayInfo). IsChunkReadFault (g.C.Chunks.shown c.args.access.now) (g.C.Chunks.shown c.read_chunk.new.access) (λ key. key ≡ key_at i c.args.coord.now) (bytes_of i.layout) c.in_err-read_chunk.field-0.0)
    c.array-from.ensures.array c.in_err-read_chunk.ensures.cause)
