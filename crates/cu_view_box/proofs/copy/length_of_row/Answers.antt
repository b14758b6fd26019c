use Rattle.std.proofs.Common.{arith}
use Rattle.cu_grid.proofs.Meeting.{within_of}
use Rattle.cu_view_box.proofs.Boxes.{at_axis}
use Rattle.cu_view_box.proofs.copy.length_of_row.Goals as goal

pub at-requires : goal.at-requires
at-requires c = let r = (within_of c.args.part.now.lo c.args.part.now.hi c.args.part.now.lo c.requires.some).hi_rank in omega arith

pub overflow_sub-result : goal.overflow_sub-result
overflow_sub-result c =
    let p = at_axis c.args.part.now.lo c.args.part.now.hi c.args.part.now.lo c.args.axis c.requires.some (omega arith) in
    let p1 = p.1 in
    let e = c.at.ensures in
    let f = c.at-then-axis-rank.ensures in
    omega arith
