use Rattle.std.proofs.Common.{◌≡◌, rules}
use Rattle.cu_grid.proofs.Meeting.{within_of}
use Rattle.cu_view_box.proofs.copy.copy_box.Goals as goal

pub copy_along-requires-clause-spelled : goal.copy_along-requires-clause-spelled
copy_along-requires-clause-spelled c = let same : c.args.from.now.dtype ≡ c.args.to.now.dtype = search rules in c.requires.spelled same

pub row_axis-requires : goal.row_axis-requires
row_axis-requires c = (within_of c.args.part.now.lo c.args.part.now.hi c.args.part.now.lo c.requires.moves.some).hi_rank
