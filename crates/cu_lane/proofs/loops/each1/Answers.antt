use Rattle.std.proofs.Common.{get_or, arith}
use Rattle.cu_lane.proofs.Words.{Place1, place1, called1, one_more}
use Rattle.cu_lane.proofs.loops.each1.Goals as goal

pub loop-at-preserved : goal.loop-at-preserved
loop-at-preserved c =
    one_more (λ k. Place1 c.args.f c.args.t (get_or c.args.x.now k 0)) c.loop-at.out c.loop-at.at c.word.result (omega arith) c.loop-at.invariant
    (place1 c.args.f c.args.t _ c.word.result
    (called1 c.args.f c.args.t (get_or c.args.x.now c.loop-at.at 0) c.word.result c.number.result c.scalar1.result (record { sfits = c.number.type_inv }) (record { sfits = c.scalar1.type_inv })
    c.number.ensures.value c.scalar1.ensures.value c.word.ensures))
