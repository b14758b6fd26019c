use Rattle.std.proofs.Common.{◌≡◌, arith, rules}
use Rattle.cu_num.specs.declared.layout.Endian.TheVariants.{Little}
use Rattle.cu_codec.specs.Parts.{IsWholeChunk}
use Rattle.cu_store.specs.Steps.{PutOf}
use Rattle.cu_store.proofs.Steps.{steps_wider}
use Rattle.cu_region.specs.Reading.{key_at}
use Rattle.cu_region.specs.Writing.{RegionPut}
use Rattle.cu_region.proofs.StoredWrites.{whole_spelled, put_own, chunk_stored}
use Rattle.cu_region.proofs.write.write_part.Goals as goal

pub returns-then-lies_stored-clause-stored : goal.returns-then-lies_stored-clause-stored
returns-then-lies_stored-clause-stored g c =
    let one : IsWholeChunk c.args.part.now.info.now.layout.grid.chunk c.args.part.now.coord c.args.part.now.region.now.lo c.args.part.now.region.now.hi = c.lies_stored.ensures.one (search rules) in
    let little : c.args.part.now.info.now.layout.endian ≡ Little = c.lies_stored.ensures.little (search rules) in
    let value = whole_spelled c.args.part.now.info.now c.args.part.now.coord c.args.part.now.region.now.lo c.args.part.now.region.now.hi c.args.input.now c.requires.part.grid c.requires.part.region c.requires.part.meets.0 one little
    (λ idx own. c.requires.whole.whole c.args.part.now.coord c.requires.part.meets idx own) c.requires.whole.long c.requires.whole.elements in
    chunk_stored c.put_chunk.result c.args.part.now.info.now c.args.part.now.region.now.lo c.args.part.now.region.now.hi c.args.input.now c.args.part.now.coord c.args.input.now (g.C.Chunks.shown c.put_chunk.new.access).held value
    (rw c.chunk_key-key.ensures at c.put_chunk.ensures.stored)

pub returns-then-lies_stored-clause-step : goal.returns-then-lies_stored-clause-step
returns-then-lies_stored-clause-step g c =
    let one : IsWholeChunk c.args.part.now.info.now.layout.grid.chunk c.args.part.now.coord c.args.part.now.region.now.lo c.args.part.now.region.now.hi = c.lies_stored.ensures.one (search rules) in
    let little : c.args.part.now.info.now.layout.endian ≡ Little = c.lies_stored.ensures.little (search rules) in
    let value = whole_spelled c.args.part.now.info.now c.args.part.now.coord c.args.part.now.region.now.lo c.args.part.now.region.now.hi c.args.input.now c.requires.part.grid c.requires.part.region c.requires.part.meets.0 one little
    (λ idx own. c.requires.whole.whole c.args.part.now.coord c.requires.part.meets idx own) c.requires.whole.long c.requires.whole.elements in
    let step = rw c.chunk_key-key.ensures at c.put_chunk.ensures.step in
    steps_wider {V = PutOf (key_at c.args.part.now.info.now c.args.part.now.coord) c.args.input.now} {W = RegionPut c.args.part.now.info.now c.args.part.now.region.now.lo c.args.part.now.region.now.hi c.args.input.now}
    (put_own c.args.part.now.info.now c.args.part.now.region.now.lo c.args.part.now.region.now.hi c.args.input.now c.args.part.now.coord c.args.input.now c.requires.part.meets value) (omega arith) (omega arith) step

pub returns-clause-stored : goal.returns-clause-stored
returns-clause-stored g c =
    let value = c.spell_chunk.ensures in
    chunk_stored c.put_chunk-2.result c.args.part.now.info.now c.args.part.now.region.now.lo c.args.part.now.region.now.hi c.args.input.now c.args.part.now.coord c.spell_chunk.new.chunk (g.C.Chunks.shown c.put_chunk-2.new.access).held value
    (rw c.chunk_key-key.ensures at c.put_chunk-2.ensures.stored)

pub returns-clause-step : goal.returns-clause-step
returns-clause-step g c =
    let value = c.spell_chunk.ensures in
    let step = rw c.chunk_key-key.ensures at c.put_chunk-2.ensures.step in
    steps_wider {V = PutOf (key_at c.args.part.now.info.now c.args.part.now.coord) c.spell_chunk.new.chunk} {W = RegionPut c.args.part.now.info.now c.args.part.now.region.now.lo c.args.part.now.region.now.hi c.args.input.now}
    (put_own c.args.part.now.info.now c.args.part.now.region.now.lo c.args.part.now.region.now.hi c.args.input.now c.args.part.now.coord c.spell_chunk.new.chunk c.requires.part.meets value) (omega arith) (omega arith) step

pub put_chunk-requires-clause-may : goal.put_chunk-requires-clause-may
put_chunk-requires-clause-may g c =
    let one : IsWholeChunk c.args.part.now.info.now.layout.grid.chunk c.args.part.now.coord c.args.part.now.region.now.lo c.args.part.now.region.now.hi = c.lies_stored.ensures.one (search rules) in
    let little : c.args.part.now.info.now.layout.endian ≡ Little = c.lies_stored.ensures.little (search rules) in
    let value = whole_spelled c.args.part.now.info.now c.args.part.now.coord c.args.part.now.region.now.lo c.args.part.now.region.now.hi c.args.input.now c.requires.part.grid c.requires.part.region c.requires.part.meets.0 one little
    (λ idx own. c.requires.whole.whole c.args.part.now.coord c.requires.part.meets idx own) c.requires.whole.long c.requires.whole.elements in
    rw c.chunk_key-key.ensures (c.requires.may c.args.input.now value)
