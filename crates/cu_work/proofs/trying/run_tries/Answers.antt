use Rattle.std.proofs.Common.{◌∙◌, sym, arith}
use Rattle.cu_work.proofs.TriedTasks.{all_tries, ended_so, failed_so, holds_well, tried_badly, tried_once}
use Rattle.cu_work.proofs.trying.run_tries.Goals as goal

pub loop-failures-preserved : goal.loop-failures-preserved
loop-failures-preserved g c =
    tried_once c.range_law.ensures.values c.args.plan.now c.ops-ops.ensures.sound c.args.op c.args.task c.requires.operation c.requires.task (g.D.PutStore.shown c.args.depot.now) c.requires.inputs c.loop-failures.failures c.args.retries (g.D.PutStore.shown c.loop-failures.depot) c.loop-failures.memory c.loop-failures.invariant (g.D.PutStore.shown c.try_task.new.depot) c.try_task.ensures.step
    c.try_task.new.memory c.try_task.ensures.memory
    (failed_so c.args.plan.now c.args.op c.args.task (g.D.PutStore.shown c.loop-failures.depot) (g.D.PutStore.shown c.try_task.new.depot) c.in-Err.fault
    (sym c.ends_tries.ensures ∙ c.if-ends_tries.false) c.in-Err.ensures.cause)

pub returns-in-Ok-clause-step : goal.returns-in-Ok-clause-step
returns-in-Ok-clause-step g c =
    all_tries c.range_law.ensures.values c.args.plan.now c.ops-ops.ensures.sound c.args.op c.args.task c.requires.operation c.requires.task (g.D.PutStore.shown c.args.depot.now) c.requires.inputs c.loop-failures.failures c.args.retries (g.D.PutStore.shown c.loop-failures.depot) c.loop-failures.memory c.loop-failures.invariant (g.D.PutStore.shown c.try_task.new.depot) c.try_task.ensures.step
    (let t = c.loop-failures-test.true in omega (arith, t))

pub returns-in-Ok-clause-done : goal.returns-in-Ok-clause-done
returns-in-Ok-clause-done g c =
    holds_well c.range_law.ensures.values c.args.plan.now c.ops-ops.ensures.sound c.args.op c.args.task c.requires.operation c.requires.task (g.D.PutStore.shown c.args.depot.now) c.requires.inputs c.loop-failures.failures c.args.retries (g.D.PutStore.shown c.loop-failures.depot) c.loop-failures.memory c.loop-failures.invariant (g.D.PutStore.shown c.try_task.new.depot) c.try_task.ensures.step
    c.in-Ok.ensures.stored

pub returns-then-ends_tries-clause-step : goal.returns-then-ends_tries-clause-step
returns-then-ends_tries-clause-step g c =
    all_tries c.range_law.ensures.values c.args.plan.now c.ops-ops.ensures.sound c.args.op c.args.task c.requires.operation c.requires.task (g.D.PutStore.shown c.args.depot.now) c.requires.inputs c.loop-failures.failures c.args.retries (g.D.PutStore.shown c.loop-failures.depot) c.loop-failures.memory c.loop-failures.invariant (g.D.PutStore.shown c.try_task.new.depot) c.try_task.ensures.step
    (let t = c.loop-failures-test.true in omega (arith, t))

pub returns-then-ends_tries-clause-tried : goal.returns-then-ends_tries-clause-tried
returns-then-ends_tries-clause-tried g c =
    tried_badly c.range_law.ensures.values c.args.plan.now c.ops-ops.ensures.sound c.args.op c.args.task c.requires.operation c.requires.task (g.D.PutStore.shown c.args.depot.now) c.requires.inputs c.loop-failures.failures c.args.retries (g.D.PutStore.shown c.loop-failures.depot) c.loop-failures.memory c.loop-failures.invariant (g.D.PutStore.shown c.try_task.new.depot) c.try_task.ensures.step
    c.in-Err.fault (λ same. absurd (ended_so c.in-Err.fault (sym c.ends_tries.ensures ∙ c.if-ends_tries.true) same)) c.in-Err.ensures.cause

pub returns-in-Ok-try_task-clause-step : goal.returns-in-Ok-try_task-clause-step
returns-in-Ok-try_task-clause-step g c =
    all_tries c.range_law.ensures.values c.args.plan.now c.ops-ops.ensures.sound c.args.op c.args.task c.requires.operation c.requires.task (g.D.PutStore.shown c.args.depot.now) c.requires.inputs c.loop-failures.failures c.args.retries (g.D.PutStore.shown c.loop-failures.depot) c.loop-failures.memory c.loop-failures.invariant (g.D.PutStore.shown c.try_task-2.new.depot) c.try_task-2.ensures.step
    (let t = c.loop-failures-test.false in let e = c.loop-failures.auto.failures-end in omega (arith, t, e))

pub returns-in-Ok-try_task-clause-done : goal.returns-in-Ok-try_task-clause-done
returns-in-Ok-try_task-clause-done g c =
    holds_well c.range_law.ensures.values c.args.plan.now c.ops-ops.ensures.sound c.args.op c.args.task c.requires.operation c.requires.task (g.D.PutStore.shown c.args.depot.now) c.requires.inputs c.loop-failures.failures c.args.retries (g.D.PutStore.shown c.loop-failures.depot) c.loop-failures.memory c.loop-failures.invariant (g.D.PutStore.shown c.try_task-2.new.depot) c.try_task-2.ensures.step
    c.in-Ok-try_task.ensures.stored

pub returns-in-Err-try_task-clause-step : goal.returns-in-Err-try_task-clause-step
returns-in-Err-try_task-clause-step g c =
    all_tries c.range_law.ensures.values c.args.plan.now c.ops-ops.ensures.sound c.args.op c.args.task c.requires.operation c.requires.task (g.D.PutStore.shown c.args.depot.now) c.requires.inputs c.loop-failures.failures c.args.retries (g.D.PutStore.shown c.loop-failures.depot) c.loop-failures.memory c.loop-failures.invariant (g.D.PutStore.shown c.try_task-2.new.depot) c.try_task-2.ensures.step
    (let t = c.loop-failures-test.false in let e = c.loop-failures.auto.failures-end in omega (arith, t, e))

pub returns-in-Err-try_task-clause-tried : goal.returns-in-Err-try_task-clause-tried
returns-in-Err-try_task-clause-tried g c =
    tried_badly c.range_law.ensures.values c.args.plan.now c.ops-ops.ensures.sound c.args.op c.args.task c.requires.operation c.requires.task (g.D.PutStore.shown c.args.depot.now) c.requires.inputs c.loop-failures.failures c.args.retries (g.D.PutStore.shown c.loop-failures.depot) c.loop-failures.memory c.loop-failures.invariant (g.D.PutStore.shown c.try_task-2.new.depot) c.try_task-2.ensures.step
    c.in-Err-try_task.fault (λ same. let t = c.loop-failures-test.false in let e = c.loop-failures.auto.failures-end in omega (arith, t, e)) c.in-Err-try_task.ensures.cause
