use Rattle.cu_region.proofs.StoredReads.{on_ok_then, has_chunk}
use Rattle.std.proofs.Common.{arith}
use Rattle.cu_region.proofs.read.read_chunk.Goals as goal

pub returns-clause-read : goal.returns-clause-read
returns-clause-read g c =
    on_ok_then c.read_front.result
    (has_chunk c.args.info.now c.args.coord.now c.read_front.new.buf (g.C.Chunks.shown c.read_front.new.access).held c.shape-grid.ensures.kept (omega arith))
    c.read_front.ensures.read
