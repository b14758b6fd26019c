use Rattle.std.proofs.Common.{◌≡◌, ℕ, suc, ◌+◌, length, ap, subst, arith}
use Rattle.std.specs.Prelude.{Ok, Err}
use Rattle.cu_op.specs.Cells.{tasks_of}
use Rattle.cu_op.specs.Schedule.{op_of}
use Rattle.cu_work.specs.Order.{operation_keys, plan_keys}
use Rattle.cu_work.specs.Removal.{AreRemoved}
use Rattle.cu_work.proofs.Removing.{removed_then, operation_removed, plan_stopped}
use Rattle.cu_work.proofs.removal.remove_chunks.Goals as goal

pub returns-in-Err : goal.returns-in-Err
returns-in-Err g c =
    let e = ap length c.ops.ensures.ops in
    let t = c.loop-op-test.true in
    plan_stopped (c.args.retries + 1) c.args.plan.now (g.D.Depot.shown c.args.depot.now) (g.D.Depot.shown c.remove_operation.new.depot) (suc c.loop-op.op) (length c.args.plan.now.ops) c.in-Err.fault
    (omega (arith, e, t))
    (removed_then (c.args.retries + 1) (plan_keys c.args.plan.now c.loop-op.op) (operation_keys c.args.plan.now c.loop-op.op (tasks_of c.args.plan.now.arrays (op_of c.args.plan.now c.loop-op.op)))
    (g.D.Depot.shown c.args.depot.now) (g.D.Depot.shown c.loop-op.depot) (g.D.Depot.shown c.remove_operation.new.depot) c.loop-op.invariant (Err c.in-Err.fault) c.in-Err.ensures)

pub loop-op-preserved : goal.loop-op-preserved
loop-op-preserved g c =
    operation_removed (c.args.retries + 1) c.args.plan.now (g.D.Depot.shown c.args.depot.now) (g.D.Depot.shown c.remove_operation.new.depot) c.loop-op.op (Ok tt)
    (removed_then (c.args.retries + 1) (plan_keys c.args.plan.now c.loop-op.op) (operation_keys c.args.plan.now c.loop-op.op (tasks_of c.args.plan.now.arrays (op_of c.args.plan.now c.loop-op.op)))
    (g.D.Depot.shown c.args.depot.now) (g.D.Depot.shown c.loop-op.depot) (g.D.Depot.shown c.remove_operation.new.depot) c.loop-op.invariant (Ok tt) c.in_default.ensures)

pub returns : goal.returns
returns g c =
    let e = ap length c.ops.ensures.ops in
    let t = c.loop-op-test.false in
    let a = c.loop-op.auto.op-end in
    let all : c.loop-op.op ≡ length c.args.plan.now.ops = omega (arith, e, t, a) in
    subst (λ (n : ℕ). AreRemoved (c.args.retries + 1) (plan_keys c.args.plan.now n) (g.D.Depot.shown c.args.depot.now) (g.D.Depot.shown c.loop-op.depot) (Ok tt)) all c.loop-op.invariant
