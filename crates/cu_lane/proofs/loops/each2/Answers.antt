use Rattle.std.proofs.Common.{get_or, arith}
use Rattle.cu_lane.proofs.Words.{Place2, place2, called2, one_more}
use Rattle.cu_lane.proofs.loops.each2.Goals as goal

pub loop-at-preserved : goal.loop-at-preserved
loop-at-preserved c =
    one_more (λ k. Place2 c.args.f c.args.t (get_or c.args.x.now k 0) (get_or c.args.y.now k 0)) c.loop-at.out c.loop-at.at c.word.result (omega arith) c.loop-at.invariant
    (place2 c.args.f c.args.t _ _ c.word.result
    (called2 c.args.f c.args.t (get_or c.args.x.now c.loop-at.at 0) (get_or c.args.y.now c.loop-at.at 0) c.word.result c.number.result c.number-in-loop-at.result c.scalar2.result
    (record { sfits = c.number.type_inv }) (record { sfits = c.number-in-loop-at.type_inv }) (record { sfits = c.scalar2.type_inv })
    c.number.ensures.value c.number-in-loop-at.ensures.value c.scalar2.ensures.value c.word.ensures))
