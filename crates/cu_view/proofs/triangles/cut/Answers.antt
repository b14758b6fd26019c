use Rattle.cu_grid.proofs.Meeting.{within_of}
use Rattle.cu_view_box.proofs.Boxes.{within_set}
use Rattle.cu_view.proofs.Cells.{first_of_cut}
use Rattle.cu_view.proofs.triangles.cut.Goals as goal

pub returns-clause-exactly : goal.returns-clause-exactly
returns-clause-exactly c = λ idx.
    let v = within_of c.args.part.now.lo c.args.part.now.hi c.args.part.now.lo c.requires.some in
    let e = c.changed.ensures in
    let f = c.changed-2.ensures in
    rw e (rw f (within_set c.args.part.now.lo c.args.part.now.hi idx c.args.axis c.args.lo c.args.hi v.hi_rank c.requires.axis c.requires.low c.requires.high))

pub returns-clause-some : goal.returns-clause-some
returns-clause-some c =
    let e = c.changed.ensures in
    let f = c.changed-2.ensures in
    rw e (rw f (first_of_cut c.args.part.now.lo c.args.part.now.hi c.args.axis c.args.lo c.args.hi c.requires.some c.requires.axis c.requires.low c.requires.high c.requires.range))
