use Rattle.std.proofs.Common.{◌≡◌, ℕ, ◌+◌, ap, subst, arith}
use Rattle.cu_op.specs.Cells.{tasks_of}
use Rattle.cu_op.specs.Schedule.{op_of}
use Rattle.cu_table.proofs.Numbers.{number_below}
use Rattle.cu_work.specs.Search.{IsSearched}
use Rattle.cu_work.proofs.SearchedTasks.{operation_at_first, operation_more, operation_ended, searched_operation, a_task}
use Rattle.cu_work.proofs.find.find_operation.Goals as goal

pub loop-task-init : goal.loop-task-init
loop-task-init g c = operation_at_first (c.args.retries + 1) c.args.plan.now c.args.op (g.D.PutStore.shown c.args.depot.now) c.args.done.now c.requires.tasks

pub bounds-done-first : goal.bounds-done-first
bounds-done-first g c =
    let e = c.tasks-task-end.ensures.tasks in
    let t = c.loop-task-test.true in
    let n = number_below c.args.plan.now c.args.op c.loop-task.task (a_task c.args.plan.now c.args.op c.loop-task.task c.requires.operation (omega (arith, e, t))) in
    let f = c.requires.first in
    let l = c.loop-task.invariant.tasks in
    omega (arith, n, f, l)

pub loop-task-preserved : goal.loop-task-preserved
loop-task-preserved g c =
    let e = c.tasks-task-end.ensures.tasks in
    let t = c.loop-task-test.true in
    operation_more (c.args.retries + 1) c.args.plan.now c.args.op (g.D.PutStore.shown c.args.depot.now) c.args.done.now c.loop-task.task
    (a_task c.args.plan.now c.args.op c.loop-task.task c.requires.operation (omega (arith, e, t))) (g.D.PutStore.shown c.loop-task.depot) (g.D.PutStore.shown c.find_task.new.depot) c.loop-task.done
    c.loop-task.invariant c.in-Ok.held c.in-Ok.ensures.asked (c.args.first + c.loop-task.task) (ap (λ (n : ℕ). n + c.loop-task.task) c.requires.first)

pub returns-in-Err-clause-cause : goal.returns-in-Err-clause-cause
returns-in-Err-clause-cause g c =
    let e = c.tasks-task-end.ensures.tasks in
    let t = c.loop-task-test.true in
    operation_ended (c.args.retries + 1) c.args.plan.now (g.D.PutStore.shown c.args.depot.now) (g.D.PutStore.shown c.find_task.new.depot) c.in-Err.fault c.args.op c.loop-task.task
    (g.D.PutStore.shown c.loop-task.depot) (omega (arith, e, t)) c.loop-task.invariant.step c.loop-task.invariant.once c.in-Err.ensures.cause

pub returns-clause-searched : goal.returns-clause-searched
returns-clause-searched g c = λ start so_far.
    let e = c.tasks-task-end.ensures.tasks in
    let t = c.loop-task-test.false in
    let a = c.loop-task.auto.task-end in
    let all : c.loop-task.task ≡ tasks_of c.args.plan.now.arrays (op_of c.args.plan.now c.args.op) = omega (arith, e, t, a) in
    searched_operation (c.args.retries + 1) c.args.plan.now start c.args.op (g.D.PutStore.shown c.loop-task.depot) c.loop-task.done
    (subst (λ (n : ℕ). IsSearched (c.args.retries + 1) c.args.plan.now c.args.op n (start, g.D.PutStore.shown c.loop-task.depot) c.loop-task.done) all (c.loop-task.invariant.searched start so_far))
