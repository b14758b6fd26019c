use Rattle.std.proofs.Common.{◌≤◌, [], ◌∷◌, ◌++◌, length, Bool, cond, ap, ◌∙◌, arith}
use Rattle.std.specs.Prelude.{not}
use Rattle.cu_op.specs.Cells.{tasks_of}
use Rattle.cu_op.specs.PlanView.{PlanView}
use Rattle.cu_op.specs.Schedule.{op_of}
use Rattle.cu_table.proofs.Lines.{counted_none, counted_all, counted_more, part_within}
use Rattle.cu_table.proofs.open.first_undone.Goals as goal

pub overflow_cast-op-end : goal.overflow_cast-op-end
overflow_cast-op-end c =
    let s = c.plan.ensures.sound.operation_count in let a = ap length c.ops.ensures.ops in let b = ap (λ (p : PlanView). length p.ops) c.plan.ensures.plan in omega (arith, s, a, b)

pub loop-op-init : goal.loop-op-init
loop-op-init c = counted_none c.args.tasks.now c.args.states.now c.new-by_op.result.items c.new-by_op.ensures.items

pub tasks-count-requires : goal.tasks-count-requires
tasks-count-requires c =
    let t = c.loop-op-test.true in
    let a = ap length c.ops.ensures.ops in
    let b = ap (λ (p : PlanView). length p.ops) c.plan.ensures.plan in
    let d = ap (λ (p : PlanView). length p.ops) c.plan-in-loop-op.ensures.plan in
    omega (arith, t, a, b, d)

pub count_part-requires : goal.count_part-requires
count_part-requires c =
    part_within c.args.tasks.now c.args.states.now c.loop-op.op c.loop-op.at c.loop-op.by_op.items c.loop-op.invariant (let t = c.loop-op-test.true in let a = ap length c.ops.ensures.ops in let b = ap (λ (p : PlanView). length p.ops) c.plan.ensures.plan in omega (arith, t, a, b)) c.tasks-count.result (c.tasks-count.ensures.tasks ∙ (ap (λ (p : PlanView). tasks_of p.arrays (op_of p c.loop-op.op)) c.plan-in-loop-op.ensures.plan)) c.requires

pub overflow_add-at : goal.overflow_add-at
overflow_add-at c =
    let a = part_within c.args.tasks.now c.args.states.now c.loop-op.op c.loop-op.at c.loop-op.by_op.items c.loop-op.invariant (let t = c.loop-op-test.true in let a = ap length c.ops.ensures.ops in let b = ap (λ (p : PlanView). length p.ops) c.plan.ensures.plan in omega (arith, t, a, b)) c.tasks-count.result (c.tasks-count.ensures.tasks ∙ (ap (λ (p : PlanView). tasks_of p.arrays (op_of p c.loop-op.op)) c.plan-in-loop-op.ensures.plan)) c.requires in
    let t : length c.args.states.now ≤ 65536 = (let s = c.plan.ensures.sound.tasks in let r = c.requires in omega (arith, s, r)) in
    omega (arith, a, t)

pub loop-op-preserved : goal.loop-op-preserved
loop-op-preserved c =
    counted_more c.args.tasks.now c.args.states.now c.loop-op.op c.loop-op.at c.loop-op.by_op.items c.loop-op.invariant (let t = c.loop-op-test.true in let a = ap length c.ops.ensures.ops in let b = ap (λ (p : PlanView). length p.ops) c.plan.ensures.plan in omega (arith, t, a, b)) c.tasks-count.result (c.tasks-count.ensures.tasks ∙ (ap (λ (p : PlanView). tasks_of p.arrays (op_of p c.loop-op.op)) c.plan-in-loop-op.ensures.plan))
    c.push.new.self.items c.count_part.result c.count_part.ensures
    (c.push.ensures.items ∙ ap (λ (b : Bool). cond b (c.loop-op.by_op.items ++ c.count_part.result ∷ []) c.loop-op.by_op.items) (c.is_err.ensures.negation ∙ ap not c.if-is_err.false))

pub returns : goal.returns
returns c = record {
  counts = counted_all c.args.tasks.now c.args.states.now c.loop-op.op c.loop-op.at c.loop-op.by_op.items c.loop-op.invariant
      (let t = c.loop-op-test.false in let e = c.loop-op.auto.op-end in let a = ap length c.ops.ensures.ops in let b = ap (λ (p : PlanView). length p.ops) c.plan.ensures.plan in omega (arith, t, e, a, b));
  left_is = c.count_undone.ensures;
}
