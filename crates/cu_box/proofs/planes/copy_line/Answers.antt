use Rattle.std.proofs.Common.{[], length, arith}
use Rattle.cu_box.proofs.StridedLoops.{start_of, can_there, copied_there, none_copied, all_copied}
use Rattle.cu_box.proofs.planes.copy_line.Goals as goal

pub loop-number-init : goal.loop-number-init
loop-number-init g c = none_copied g.row.N c.args.order c.args.axis [] c.args.start c.args.source.now c.args.target.now

pub later-place-requires : goal.later-place-requires
later-place-requires g c =
    start_of g.row.N c.args.axis [] c.args.start c.loop-number.number c.args.source.now (length c.args.target.now) c.requires (omega arith) c.loop-number-test.true (omega arith) (omega arith)

pub copy_element-requires : goal.copy_element-requires
copy_element-requires g c =
    can_there g.row.N c.args.axis [] c.args.start c.loop-number.number c.args.source.now (length c.args.target.now) c.requires (omega arith) c.loop-number-test.true
    c.later-place.result c.later-place.ensures (length c.loop-number.target) c.loop-number.invariant.same_length

pub loop-number-preserved : goal.loop-number-preserved
loop-number-preserved g c =
    copied_there g.row.N c.args.axis [] c.args.start c.loop-number.number c.args.source.now (length c.args.target.now) c.requires (omega arith) c.loop-number-test.true
    c.later-place.result c.later-place.ensures c.args.order c.args.target.now c.loop-number.target c.copy_element.new.target c.loop-number.invariant c.copy_element.ensures

pub returns : goal.returns
returns g c = all_copied g.row.N c.args.order c.args.axis [] c.args.start c.loop-number.number c.args.source.now c.args.target.now c.loop-number.target (omega arith) c.loop-number.invariant
