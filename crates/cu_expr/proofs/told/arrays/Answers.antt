use Rattle.std.proofs.Common.{Vec, Global, ap, ◌∙◌}
use Rattle.cu_node.specs.declared.info.NodeInfo.{NodeInfo}
use Rattle.cu_expr.proofs.ToldSteps.{array_more, array_none}
use Rattle.cu_expr.proofs.told.arrays.Goals as goal
use Rattle.cu_expr.proofs.told.arrays.Goals.{in-Array+in_ok-push, in_default}

pub loop-argument-preserved : goal.loop-argument-preserved
loop-argument-preserved c = elim c.match-argument.branch [
  | in-Array+in_ok-push w ↦
      array_more c.args.told.now c.loop-argument.argument-index c.argument-item.result w.in-Array.info c.loop-argument.arrays.items c.match-argument.arrays.items
      c.loop-argument-test.true c.argument-item.is w.in-Array.is (ap (λ (v : Vec NodeInfo Global). v.items) w.arrays-is ∙ w.in_ok-push.ensures.items) c.loop-argument.invariant
  | in_default w ↦
      array_none c.args.told.now c.loop-argument.argument-index c.argument-item.result c.loop-argument.arrays.items c.match-argument.arrays.items
      c.loop-argument-test.true c.argument-item.is w.in_default.not-Array (ap (λ (v : Vec NodeInfo Global). v.items) w.arrays-is) c.loop-argument.invariant
]
