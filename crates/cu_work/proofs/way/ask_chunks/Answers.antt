use Rattle.std.proofs.Common.{◌≡◌, ℕ, suc, ◌+◌, length, ap, subst, arith}
use Rattle.std.specs.Prelude.{Ok, Err}
use Rattle.cu_op.specs.Cells.{tasks_of}
use Rattle.cu_op.specs.Schedule.{op_of}
use Rattle.cu_work.specs.Order.{operation_keys, plan_keys, IsAsked}
use Rattle.cu_work.proofs.Asking.{asked_then, operation_more, plan_ended}
use Rattle.cu_work.proofs.way.ask_chunks.Goals as goal

pub returns-in-Err : goal.returns-in-Err
returns-in-Err g c =
    let e = ap length c.ops.ensures.ops in
    let t = c.loop-op-test.true in
    plan_ended (c.args.retries + 1) c.args.plan.now (suc c.loop-op.op) (length c.args.plan.now.ops) (g.D.PutStore.shown c.args.depot.now) (g.D.PutStore.shown c.ask_operation.new.depot) c.in-Err.fault
    (omega (arith, e, t))
    (asked_then (c.args.retries + 1) (g.D.PutStore.shown c.args.depot.now) (g.D.PutStore.shown c.loop-op.depot) (g.D.PutStore.shown c.ask_operation.new.depot) (plan_keys c.args.plan.now c.loop-op.op)
    (operation_keys c.args.plan.now c.loop-op.op (tasks_of c.args.plan.now.arrays (op_of c.args.plan.now c.loop-op.op))) (Err c.in-Err.fault) c.loop-op.invariant c.in-Err.ensures)

pub loop-op-preserved : goal.loop-op-preserved
loop-op-preserved g c =
    operation_more (c.args.retries + 1) c.args.plan.now c.loop-op.op (g.D.PutStore.shown c.args.depot.now) (g.D.PutStore.shown c.ask_operation.new.depot) (Ok tt)
    (asked_then (c.args.retries + 1) (g.D.PutStore.shown c.args.depot.now) (g.D.PutStore.shown c.loop-op.depot) (g.D.PutStore.shown c.ask_operation.new.depot) (plan_keys c.args.plan.now c.loop-op.op)
    (operation_keys c.args.plan.now c.loop-op.op (tasks_of c.args.plan.now.arrays (op_of c.args.plan.now c.loop-op.op))) (Ok tt) c.loop-op.invariant c.in_default.ensures)

pub returns : goal.returns
returns g c =
    let e = ap length c.ops.ensures.ops in
    let t = c.loop-op-test.false in
    let a = c.loop-op.auto.op-end in
    let all : c.loop-op.op ≡ length c.args.plan.now.ops = omega (arith, e, t, a) in
    subst (λ (n : ℕ). IsAsked (c.args.retries + 1) (g.D.PutStore.shown c.args.depot.now) (g.D.PutStore.shown c.loop-op.depot) (plan_keys c.args.plan.now n) (Ok tt)) all c.loop-op.invariant
