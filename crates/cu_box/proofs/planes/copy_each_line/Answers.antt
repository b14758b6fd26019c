use Rattle.std.proofs.Common.{[], ◌∷◌, length, arith}
use Rattle.cu_box.proofs.StridedLoops.{start_of, can_there, copied_there, none_copied, all_copied, one_axis}
use Rattle.cu_box.proofs.planes.copy_each_line.Goals as goal

pub loop-row-init : goal.loop-row-init
loop-row-init g c = none_copied g.row.N c.args.order c.args.plane.outer (c.args.plane.inner ∷ []) c.args.plane.start c.args.source.now c.args.target.now

pub later-place-requires : goal.later-place-requires
later-place-requires g c =
    start_of g.row.N c.args.plane.outer (c.args.plane.inner ∷ []) c.args.plane.start c.loop-row.row c.args.source.now (length c.args.target.now)
    c.requires.can (one_axis c.args.plane.inner c.requires.some) c.loop-row-test.true (omega arith) (omega arith)

pub copy_line-requires : goal.copy_line-requires
copy_line-requires g c =
    can_there g.row.N c.args.plane.outer (c.args.plane.inner ∷ []) c.args.plane.start c.loop-row.row c.args.source.now (length c.args.target.now)
    c.requires.can (one_axis c.args.plane.inner c.requires.some) c.loop-row-test.true c.later-place.result c.later-place.ensures (length c.loop-row.target) c.loop-row.invariant.same_length

pub loop-row-preserved : goal.loop-row-preserved
loop-row-preserved g c =
    copied_there g.row.N c.args.plane.outer (c.args.plane.inner ∷ []) c.args.plane.start c.loop-row.row c.args.source.now (length c.args.target.now)
    c.requires.can (one_axis c.args.plane.inner c.requires.some) c.loop-row-test.true c.later-place.result c.later-place.ensures
    c.args.order c.args.target.now c.loop-row.target c.copy_line.new.target c.loop-row.invariant c.copy_line.ensures

pub returns : goal.returns
returns g c =
    all_copied g.row.N c.args.order c.args.plane.outer (c.args.plane.inner ∷ []) c.args.plane.start c.loop-row.row c.args.source.now c.args.target.now c.loop-row.target (omega arith) c.loop-row.invariant
