use Rattle.std.proofs.Common.{◌≡◌, ℕ, suc, ◌+◌, subst, arith}
use Rattle.std.specs.Prelude.{Ok, Err}
use Rattle.cu_op.specs.Cells.{tasks_of}
use Rattle.cu_op.specs.Schedule.{op_of}
use Rattle.cu_work.specs.Order.{task_keys, operation_keys}
use Rattle.cu_work.specs.Removal.{AreRemoved}
use Rattle.cu_work.proofs.Removing.{removed_then, task_removed, operation_stopped}
use Rattle.cu_work.proofs.removal.remove_operation.Goals as goal

pub returns-in-Err : goal.returns-in-Err
returns-in-Err g c =
    let e = c.tasks-task-end.ensures.tasks in
    let t = c.loop-task-test.true in
    operation_stopped (c.args.retries + 1) c.args.plan.now (g.D.Depot.shown c.args.depot.now) (g.D.Depot.shown c.remove_task.new.depot) c.args.op (suc c.loop-task.task)
    (tasks_of c.args.plan.now.arrays (op_of c.args.plan.now c.args.op)) c.in-Err.fault (omega (arith, e, t))
    (removed_then (c.args.retries + 1) (operation_keys c.args.plan.now c.args.op c.loop-task.task) (task_keys c.args.plan.now c.args.op c.loop-task.task) (g.D.Depot.shown c.args.depot.now)
    (g.D.Depot.shown c.loop-task.depot) (g.D.Depot.shown c.remove_task.new.depot) c.loop-task.invariant (Err c.in-Err.fault) c.in-Err.ensures)

pub loop-task-preserved : goal.loop-task-preserved
loop-task-preserved g c =
    task_removed (c.args.retries + 1) c.args.plan.now (g.D.Depot.shown c.args.depot.now) (g.D.Depot.shown c.remove_task.new.depot) c.args.op c.loop-task.task (Ok tt)
    (removed_then (c.args.retries + 1) (operation_keys c.args.plan.now c.args.op c.loop-task.task) (task_keys c.args.plan.now c.args.op c.loop-task.task) (g.D.Depot.shown c.args.depot.now)
    (g.D.Depot.shown c.loop-task.depot) (g.D.Depot.shown c.remove_task.new.depot) c.loop-task.invariant (Ok tt) c.in_default.ensures)

pub returns : goal.returns
returns g c =
    let e = c.tasks-task-end.ensures.tasks in
    let t = c.loop-task-test.false in
    let a = c.loop-task.auto.task-end in
    let all : c.loop-task.task ≡ tasks_of c.args.plan.now.arrays (op_of c.args.plan.now c.args.op) = omega (arith, e, t, a) in
    subst (λ (n : ℕ). AreRemoved (c.args.retries + 1) (operation_keys c.args.plan.now c.args.op n) (g.D.Depot.shown c.args.depot.now) (g.D.Depot.shown c.loop-task.depot) (Ok tt)) all c.loop-task.invariant
