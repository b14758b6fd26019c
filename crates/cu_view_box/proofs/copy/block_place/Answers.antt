use Rattle.cu_grid.proofs.Meeting.{within_of}
use Rattle.cu_view_box.proofs.copy.block_place.Goals as goal

pub difference-requires : goal.difference-requires
difference-requires c = (within_of c.args.block.now.region.lo c.args.block.now.region.hi c.args.idx.now c.requires.within).lo_rank
