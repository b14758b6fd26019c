use Rattle.std.proofs.Common.{arith}
use Rattle.cu_grid.proofs.Meeting.{within_of}
use Rattle.cu_view.proofs.Corners.{corner_within}
use Rattle.cu_view.proofs.touching.corner_of.Goals as goal

pub at-requires : goal.at-requires
at-requires c =
    let v = within_of c.args.shared.now.lo c.args.shared.now.hi c.args.shared.now.lo c.requires.some in
    let n = v.hi_rank in
    let l = c.requires.axis in
    omega arith

pub overflow_sub-at : goal.overflow_sub-at
overflow_sub-at c =
    let v = within_of c.args.shared.now.lo c.args.shared.now.hi c.args.shared.now.lo c.requires.some in
    let b = (v.at c.args.axis c.requires.axis).1 in
    let e = c.at.ensures in
    omega arith

pub returns-clause-within : goal.returns-clause-within
returns-clause-within c = rw (c.put.ensures, c.at.ensures) (corner_within c.args.shared.now.lo c.args.shared.now.hi c.args.axis c.requires.some c.requires.axis)
