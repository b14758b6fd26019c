use Rattle.cu_num.specs.Dtype.{size_of}
use Rattle.cu_region.proofs.Whole.{coordinates_small}
use Rattle.cu_print.proofs.BandReads.{part_of}
use Rattle.cu_print.proofs.ChunkReads.{limits_of}
use Rattle.cu_print.proofs.reads.read_part.Goals as goal

pub read_stored_chunk-requires-clause-coordinate : goal.read_stored_chunk-requires-clause-coordinate
read_stored_chunk-requires-clause-coordinate g c =
    coordinates_small c.args.info.now.layout.grid (size_of c.args.info.now.layout.dtype) c.args.region.now.lo c.args.region.now.hi c.args.coord.now (limits_of c.args.info.now.layout c.requires.shown.layout) c.requires.meets

pub returns-clause-part : goal.returns-clause-part
returns-clause-part g c entry before steady =
    let took = rw c.size.ensures at c.take_part.ensures.taken in
    part_of c.args.info.now c.args.coord.now c.args.region.now c.read_stored_chunk.new.chunk c.take_part.new.out entry.held c.shape-shape.ensures.kept c.requires.region
    (c.in-Ok.ensures.read entry before steady) took.taken
