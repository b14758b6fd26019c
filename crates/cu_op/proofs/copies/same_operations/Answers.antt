use Rattle.std.proofs.Common.{ap, ◌∙◌}
use Rattle.std.proofs.lemmas.List.{take_all}
use Rattle.cu_op.specs.declared.operation.Op.{Op}
use Rattle.cu_op.proofs.Steps.{one_taken}
use Rattle.cu_op.proofs.copies.same_operations.Goals as goal

pub loop-planned-preserved : goal.loop-planned-preserved
loop-planned-preserved c =
    c.in_ok-push.ensures.items
    ∙ one_taken c.args.ops.now c.loop-planned.planned-index c.planned-item.result _ c.loop-planned.same.items c.loop-planned-test.true c.planned-item.is
    (ap (λ (o : Op). record { op = o; node = c.planned-item.result.node; projected = c.planned-item.result.projected }) c.same_op.ensures) c.loop-planned.invariant

pub returns : goal.returns
returns c = c.loop-planned.invariant ∙ take_all c.loop-planned.planned-index c.args.ops.now c.loop-planned-test.false
