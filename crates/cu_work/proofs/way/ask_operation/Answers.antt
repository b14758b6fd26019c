use Rattle.std.proofs.Common.{◌≡◌, ℕ, suc, ◌+◌, subst, arith}
use Rattle.std.specs.Prelude.{Ok, Err}
use Rattle.cu_op.specs.Cells.{tasks_of}
use Rattle.cu_op.specs.Schedule.{op_of}
use Rattle.cu_work.specs.Order.{task_keys, operation_keys, IsAsked}
use Rattle.cu_work.proofs.Asking.{asked_then, task_more, operation_ended}
use Rattle.cu_work.proofs.way.ask_operation.Goals as goal

pub returns-in-Err : goal.returns-in-Err
returns-in-Err g c =
    let e = c.tasks-task-end.ensures.tasks in
    let t = c.loop-task-test.true in
    operation_ended (c.args.retries + 1) c.args.plan.now c.args.op (suc c.loop-task.task) (tasks_of c.args.plan.now.arrays (op_of c.args.plan.now c.args.op)) (g.D.PutStore.shown c.args.depot.now)
    (g.D.PutStore.shown c.ask_task.new.depot) c.in-Err.fault (omega (arith, e, t))
    (asked_then (c.args.retries + 1) (g.D.PutStore.shown c.args.depot.now) (g.D.PutStore.shown c.loop-task.depot) (g.D.PutStore.shown c.ask_task.new.depot) (operation_keys c.args.plan.now c.args.op c.loop-task.task)
    (task_keys c.args.plan.now c.args.op c.loop-task.task) (Err c.in-Err.fault) c.loop-task.invariant c.in-Err.ensures)

pub loop-task-preserved : goal.loop-task-preserved
loop-task-preserved g c =
    task_more (c.args.retries + 1) c.args.plan.now c.args.op c.loop-task.task (g.D.PutStore.shown c.args.depot.now) (g.D.PutStore.shown c.ask_task.new.depot) (Ok tt)
    (asked_then (c.args.retries + 1) (g.D.PutStore.shown c.args.depot.now) (g.D.PutStore.shown c.loop-task.depot) (g.D.PutStore.shown c.ask_task.new.depot) (operation_keys c.args.plan.now c.args.op c.loop-task.task)
    (task_keys c.args.plan.now c.args.op c.loop-task.task) (Ok tt) c.loop-task.invariant c.in_default.ensures)

pub returns : goal.returns
returns g c =
    let e = c.tasks-task-end.ensures.tasks in
    let t = c.loop-task-test.false in
    let a = c.loop-task.auto.task-end in
    let all : c.loop-task.task ≡ tasks_of c.args.plan.now.arrays (op_of c.args.plan.now c.args.op) = omega (arith, e, t, a) in
    subst (λ (n : ℕ). IsAsked (c.args.retries + 1) (g.D.PutStore.shown c.args.depot.now) (g.D.PutStore.shown c.loop-task.depot) (operation_keys c.args.plan.now c.args.op n) (Ok tt)) all c.loop-task.invariant
