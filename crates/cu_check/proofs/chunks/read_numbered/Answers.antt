use Rattle.std.proofs.Common.{subst, List, ℕ}
use Rattle.cu_check.specs.Chunks.{IsPlaced}
use Rattle.cu_command.specs.Chunks.{HasHeldChunk}
use Rattle.cu_check.proofs.ChunkReads.{numbered}
use Rattle.cu_check.proofs.Layouts.{small_coordinate}
use Rattle.cu_check.proofs.chunks.read_numbered.Goals as goal

pub read_stored_chunk-requires-clause-coordinate : goal.read_stored_chunk-requires-clause-coordinate
read_stored_chunk-requires-clause-coordinate g c = small_coordinate c.args.info.now.layout c.coordinate-coord.result c.requires.readable.layout c.coordinate-coord.ensures.coordinate

pub returns-in-Ok-clause-read : goal.returns-in-Ok-clause-read
returns-in-Ok-clause-read g c entry step before =
    numbered c.args.info.now c.args.number c.read_stored_chunk.new.chunk c.args.all.now c.place_chunk.new.all (g.D.PutStore.shown c.args.depot.now) entry c.coordinate-coord.ensures.kept
    (subst (λ (coord : List ℕ). HasHeldChunk c.args.info.now coord (g.D.PutStore.shown c.args.depot.now) c.read_stored_chunk.new.chunk) c.coordinate-coord.ensures.value c.in-Ok.ensures.read)
    (subst (λ (coord : List ℕ). IsPlaced c.args.info.now.layout coord c.read_stored_chunk.new.chunk c.args.all.now c.place_chunk.new.all) c.coordinate-coord.ensures.value c.place_chunk.ensures)
    step before

pub returns-in-Err-clause-cause : goal.returns-in-Err-clause-cause
returns-in-Err-clause-cause g c = rw (← c.coordinate-coord.ensures.value) c.in-Err.ensures.cause
