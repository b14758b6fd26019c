use Rattle.std.proofs.Common.{arith}
use Rattle.cu_grid.proofs.Meeting.{within_of}
use Rattle.cu_view_box.proofs.Boxes.{at_axis, last_within}
use Rattle.cu_view_box.proofs.reads.last_index.Goals as goal

pub overflow_sub-at : goal.overflow_sub-at
overflow_sub-at c =
    let r = (within_of c.args.region.now.lo c.args.region.now.hi c.args.region.now.lo c.requires.some).hi_rank in
    let p = at_axis c.args.region.now.lo c.args.region.now.hi c.args.region.now.lo c.loop-axis.axis c.requires.some (omega arith) in
    let p1 = p.1 in
    let e = c.at.ensures in
    omega arith

pub returns-clause-within : goal.returns-clause-within
returns-clause-within c =
    last_within c.args.region.now.lo c.args.region.now.hi c.loop-axis.last c.requires.some c.loop-axis.invariant.rank (λ k b. c.loop-axis.invariant.done k (omega arith))

pub returns-clause-last : goal.returns-clause-last
returns-clause-last c = λ k b.
    let r = (within_of c.args.region.now.lo c.args.region.now.hi c.args.region.now.lo c.requires.some).hi_rank in
    c.loop-axis.invariant.done k (omega arith)
