use Rattle.std.proofs.Common.{ℕ, subst}
use Rattle.std.specs.Prelude.{IfErr}
use Rattle.cu_op.specs.PlanView.{PlanView}
use Rattle.cu_task.specs.Task.{IsTaskFault}
use Rattle.cu_task.proofs.run.run_task_of.Goals as goal

pub run_plan_task-requires-clause-may : goal.run_plan_task-requires-clause-may
run_plan_task-requires-clause-may g c = rw (c.make.ensures.plan, c.make.ensures.operation, c.make.ensures.number) c.requires.may

pub run_plan_task-requires-clause-puts : goal.run_plan_task-requires-clause-puts
run_plan_task-requires-clause-puts g c = rw (c.make.ensures.plan, c.make.ensures.operation, c.make.ensures.number) c.requires.puts

pub run_plan_task-requires-clause-own : goal.run_plan_task-requires-clause-own
run_plan_task-requires-clause-own g c = rw (c.make.ensures.plan, c.make.ensures.operation, c.make.ensures.number) c.requires.task

pub run_plan_task-requires-clause-words : goal.run_plan_task-requires-clause-words
run_plan_task-requires-clause-words g c = rw (c.make.ensures.plan, c.make.ensures.operation) c.requires.words

pub run_plan_task-requires-clause-room : goal.run_plan_task-requires-clause-room
run_plan_task-requires-clause-room g c = rw (c.make.ensures.plan, c.make.ensures.operation) c.requires.room

pub returns-clause-got : goal.returns-clause-got
returns-clause-got g c = rw (c.make.ensures.plan, c.make.ensures.operation, c.make.ensures.number) at c.run_plan_task.ensures.got

pub returns-clause-stored : goal.returns-clause-stored
returns-clause-stored g c = rw (c.make.ensures.plan, c.make.ensures.operation, c.make.ensures.number) at c.run_plan_task.ensures.stored

pub returns-clause-step : goal.returns-clause-step
returns-clause-step g c = rw (c.make.ensures.plan, c.make.ensures.operation, c.make.ensures.number) at c.run_plan_task.ensures.step

pub returns-clause-all : goal.returns-clause-all
returns-clause-all g c = rw (c.make.ensures.plan, c.make.ensures.operation, c.make.ensures.number) at c.run_plan_task.ensures.all

pub returns-clause-called : goal.returns-clause-called
returns-clause-called g c = rw (c.make.ensures.plan, c.make.ensures.operation, c.make.ensures.number) at c.run_plan_task.ensures.called

pub returns-clause-cause : goal.returns-clause-cause
returns-clause-cause g c =
    let old = g.C.Chunks.shown c.args.access.now in
    let new = g.C.Chunks.shown c.run_plan_task.new.access in
    let e = c.run_plan_task.result in
    subst (λ (n : ℕ). IfErr e (IsTaskFault old new c.args.plan.now c.args.op n)) c.make.ensures.number
    (subst (λ (k : ℕ). IfErr e (IsTaskFault old new c.args.plan.now k c.make.result.number)) c.make.ensures.operation
    (subst (λ (p : PlanView). IfErr e (IsTaskFault old new p c.make.result.op c.make.result.number)) c.make.ensures.plan c.run_plan_task.ensures.cause))
