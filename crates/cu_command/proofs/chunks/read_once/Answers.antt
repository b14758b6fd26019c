use Rattle.cu_region.specs.Reading.{key_at}
use Rattle.cu_store.proofs.Once.{once_step}
use Rattle.cu_command.proofs.ChunkReads.{held_chunk, ended}
use Rattle.cu_command.proofs.SeenLemmas.{stepped}
use Rattle.cu_command.proofs.chunks.read_once.Goals as goal

pub returns-in-Ok-clause-read : goal.returns-in-Ok-clause-read
returns-in-Ok-clause-read g c =
    held_chunk c.args.info.now c.args.coord.now c.read_chunk.new.buf (g.D.PutStore.shown c.args.depot.now) (g.D.PutStore.shown c.read_chunk.new.access) (stepped c.read_chunk.ensures.step) c.in-Ok.ensures.read

pub returns-in-Ok-clause-step : goal.returns-in-Ok-clause-step
returns-in-Ok-clause-step g c = stepped c.read_chunk.ensures.step

pub returns-in-Err-clause-step : goal.returns-in-Err-clause-step
returns-in-Err-clause-step g c = stepped c.read_chunk.ensures.step

pub returns-in-Err-clause-cause : goal.returns-in-Err-clause-cause
returns-in-Err-clause-cause g c =
    rw (c.read_end.ensures, c.chunk_key-key.ensures)
    (ended (g.D.PutStore.shown c.args.depot.now) (g.D.PutStore.shown c.read_chunk.new.access) c.args.info.now.layout (key_at c.args.info.now c.args.coord.now) c.in-Err.fault c.in-Err.ensures.cause)

pub returns-in-Ok-clause-once : goal.returns-in-Ok-clause-once
returns-in-Ok-clause-once g c = once_step c.read_chunk.ensures.step

pub returns-in-Err-clause-once : goal.returns-in-Err-clause-once
returns-in-Err-clause-once g c = once_step c.read_chunk.ensures.step
