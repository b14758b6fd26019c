use Rattle.std.proofs.Common.{◌≤◌, length, refl, sym, ◌∙◌, subst, rules}
use Rattle.cu_op.specs.Schedule.{op_of}
use Rattle.cu_op.specs.declared.operation.Op.{Op}
use Rattle.cu_task.specs.Calls.{IsPullOf}
use Rattle.cu_task.specs.Task.{IsComputing, IsCopy}
use Rattle.cu_task.proofs.TaskKinds.{computing}
use Rattle.cu_task.proofs.routes.route_of.Goals as goal

pub returns-in-Pull-clause-route : goal.returns-in-Pull-clause-route
returns-in-Pull-clause-route c =
    let is : IsPullOf (op_of c.args.task.now.plan c.args.task.now.op) c.in-Pull.pull c.as_slice.result.now = subst (λ (o : Op). IsPullOf o c.in-Pull.pull c.as_slice.result.now) (sym (sym c.operation.ensures.operation ∙ c.in-Pull.is)) (refl, c.as_slice.ensures.value) in
    let few : length c.as_slice.result.now ≤ 8 = search rules in
    (is, few)

pub returns-in-Copy-clause-route : goal.returns-in-Copy-clause-route
returns-in-Copy-clause-route c = subst IsCopy (sym (sym c.operation.ensures.operation ∙ c.in-Copy.is)) tt

pub returns-in_default-clause-route : goal.returns-in_default-clause-route
returns-in_default-clause-route c = subst IsComputing c.operation.ensures.operation (computing c.operation.result.now c.in_default.not-Pull c.in_default.not-Copy)
