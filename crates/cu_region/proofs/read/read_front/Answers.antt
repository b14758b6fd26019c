use Rattle.cu_region.proofs.StoredReads.{has_front}
use Rattle.cu_region.proofs.read.read_front.Goals as goal

pub returns-clause-read : goal.returns-clause-read
returns-clause-read g c =
    let read = rw c.chunk_key-key.ensures at c.in_ok-read_bytes.ensures.read in
    has_front c.args.info.now c.args.coord.now c.read_bytes.new.buf c.settle.new.bytes (g.C.Chunks.shown c.read_bytes.new.access).held read c.requires.fill c.settle.ensures
