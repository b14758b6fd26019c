use Rattle.std.proofs.Common.{◌≡◌, ◌<◌, length, sym, subst}
use Rattle.std.proofs.lemmas.List.{get_or_read}
use Rattle.cu_op.specs.declared.operation.Planned.{Planned}
use Rattle.cu_op.specs.PlanView.{PlanView, operation_at, no_operation}
use Rattle.cu_op.specs.Sound.{IsOperation}
use Rattle.cu_op.proofs.plan.Plan.operation.Goals as goal

pub returns-clause-fits : goal.returns-clause-fits
returns-clause-fits c =
    let number = c.args.number in
    let below : number < length c.self.inside.ops.items = subst (λ (p : PlanView). number < length p.ops) (sym c.self.view_is) c.requires in
    let same : c.index.result.now ≡ operation_at c.self.inside.ops.items number = get_or_read c.self.inside.ops.items _ _ below c.index.ensures no_operation in
    subst (λ (p : PlanView). IsOperation p.arrays number c.index.result.now.op) c.self.view_is
    (subst (λ (o : Planned). IsOperation c.self.inside.arrays.items number o.op) (sym same) (c.self.invariant.operations number below))
