use Rattle.std.proofs.Common.{◌-◌, arith, w64}
use Rattle.std.proofs.lemmas.Int.{to_z-of_z}
use Rattle.cu_grid.proofs.Meeting.{within_of}
use Rattle.cu_view_box.proofs.Boxes.{at_axis}
use Rattle.cu_view.proofs.Cells.{row_columns}
use Rattle.cu_view.proofs.triangles.copy_row.Goals as goal

pub at-requires-2 : goal.at-requires-2
at-requires-2 c =
    let v = within_of c.args.part.now.lo c.args.part.now.hi c.args.part.now.lo c.requires.moves.some in
    let e = v.hi_rank in
    let a = c.requires.axes in
    let b = c.rank-last.ensures.rank in
    omega arith

pub columns-lo-requires : goal.columns-lo-requires
columns-lo-requires c =
    let a = c.requires.axes in
    let b = c.rank-last.ensures.rank in
    let d = at_axis c.args.part.now.lo c.args.part.now.hi c.args.part.now.lo (c.rank-last.result - 1) c.requires.moves.some (omega arith) in
    let d0 = d.0 in
    let d1 = d.1 in
    let e = c.at.ensures in
    let f = c.at-2.ensures in
    record { range = omega arith }

pub returns-then-lo-hi-clause-moved : goal.returns-then-lo-hi-clause-moved
returns-then-lo-hi-clause-moved c = λ idx w t.
    let p = (row_columns c.args.lower c.args.k _ c.args.part.now.lo c.args.part.now.hi idx c.rank-last.result c.args.row c.at.result c.at-2.result c.columns-lo.result.0 c.columns-lo.result.1 (to_z-of_z w64 c.args.k c.ranges.k) c.rank-last.ensures.rank c.requires.axes c.at.ensures c.at-2.ensures c.columns-lo.ensures.exactly w (c.requires.row idx w)).1 t in
    c.copy_box.ensures.moved idx ((c.cut-shown.ensures.exactly idx).1 (w, p.0, p.1))

pub returns-then-lo-hi-clause-others : goal.returns-then-lo-hi-clause-others
returns-then-lo-hi-clause-others c = λ idx o none.
    c.copy_box.ensures.others idx o
    (λ r.
    let q = (c.cut-shown.ensures.exactly idx).0 r in
    let w = q.0 in
    none w ((row_columns c.args.lower c.args.k _ c.args.part.now.lo c.args.part.now.hi idx c.rank-last.result c.args.row c.at.result c.at-2.result c.columns-lo.result.0 c.columns-lo.result.1 (to_z-of_z w64 c.args.k c.ranges.k) c.rank-last.ensures.rank c.requires.axes c.at.ensures c.at-2.ensures c.columns-lo.ensures.exactly w (c.requires.row idx w)).0 (q.1, q.2)))

pub returns-else-lo-hi-clause-moved : goal.returns-else-lo-hi-clause-moved
returns-else-lo-hi-clause-moved c = λ idx w t.
    let p = (row_columns c.args.lower c.args.k _ c.args.part.now.lo c.args.part.now.hi idx c.rank-last.result c.args.row c.at.result c.at-2.result c.columns-lo.result.0 c.columns-lo.result.1 (to_z-of_z w64 c.args.k c.ranges.k) c.rank-last.ensures.rank c.requires.axes c.at.ensures c.at-2.ensures c.columns-lo.ensures.exactly w (c.requires.row idx w)).1 t in
    let p0 = p.0 in
    let p1 = p.1 in
    let n = c.if-lo-hi.false in
    absurd (omega arith)
