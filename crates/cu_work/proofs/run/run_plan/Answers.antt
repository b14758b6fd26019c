use Rattle.std.proofs.Common.{◌+◌, ◌*◌, ◌≤◌, ℕ, inr, sym, ap, subst, arith}
use Rattle.cu_store.proofs.Once.{once_then, once_few}
use Rattle.cu_store.proofs.Steps.{steps_wider}
use Rattle.cu_work.specs.Calls.{missing_texts}
use Rattle.cu_work.specs.Starts.{most_calls}
use Rattle.cu_table.specs.Table.{TableView}
use Rattle.cu_work.specs.Run.{run_of, IsUnstored}
use Rattle.cu_work.proofs.Running.{unstored_first, apart_alone, open_mid, found_mid, run_step, texts_after, alone_mid, complete_after, share_unstored, share_refused}
use Rattle.cu_work.proofs.SharedCalls.{once_before}
use Rattle.cu_work.proofs.run.run_plan.Goals as goal

-- the calls of so many tries, and of more
more_tries : (n a m r k : ℕ) → n ≤ a + m * r → n ≤ a + (m + 1) * r + k
more_tries n a m r k few = omega (arith, few)

both_tries : (a mid n m r k : ℕ) → mid ≤ a + m * r → n ≤ mid + r + k → n ≤ a + (m + 1) * r + k
both_tries a mid n m r k first then = omega (arith, first, then)

pub returns-in-Err-clause-record : goal.returns-in-Err-clause-record
returns-in-Err-clause-record g c = λ env left.
    unstored_first c.args.plan.now c.args.texts.now env (c.args.options.now.retries + 1) (g.D.PutStore.shown c.args.depot.now) (g.D.PutStore.shown c.put_texts.new.depot) c.in-Err.fault (c.in-Err.ensures.unstored env left)

pub run_tasks-requires-clause-apart : goal.run_tasks-requires-clause-apart
run_tasks-requires-clause-apart g c κs within = apart_alone (run_of c.args.plan.now c.args.texts.now) c.requires.apart

pub run_tasks-requires-clause-open : goal.run_tasks-requires-clause-open
run_tasks-requires-clause-open g c κs within =
    open_mid c.args.plan.now c.args.texts.now c.args.held (c.args.options.now.retries + 1) (g.D.PutStore.shown c.args.depot.now) (g.D.PutStore.shown c.put_texts.new.depot) c.put_texts.ensures.step c.put_texts.ensures.own c.requires.open

pub run_tasks-requires-clause-found : goal.run_tasks-requires-clause-found
run_tasks-requires-clause-found g c κs within =
    found_mid c.args.plan.now c.args.texts.now c.args.held (c.args.options.now.retries + 1) (g.D.PutStore.shown c.args.depot.now) (g.D.PutStore.shown c.put_texts.new.depot) c.put_texts.ensures.step c.put_texts.ensures.own
    c.args.memory.table.done c.requires.found

pub returns-in-Ok-clause-step : goal.returns-in-Ok-clause-step
returns-in-Ok-clause-step g c =
    run_step c.args.plan.now c.args.texts.now c.args.held (c.args.options.now.retries + 1) (g.D.PutStore.shown c.args.depot.now) (g.D.PutStore.shown c.put_texts.new.depot) c.put_texts.ensures.step c.put_texts.ensures.own
    (g.D.PutStore.shown c.run_tasks.new.depot) c.run_tasks.ensures.step

pub returns-in-Err-run_tasks-clause-step : goal.returns-in-Err-run_tasks-clause-step
returns-in-Err-run_tasks-clause-step g c =
    run_step c.args.plan.now c.args.texts.now c.args.held (c.args.options.now.retries + 1) (g.D.PutStore.shown c.args.depot.now) (g.D.PutStore.shown c.put_texts.new.depot) c.put_texts.ensures.step c.put_texts.ensures.own
    (g.D.PutStore.shown c.run_tasks.new.depot) c.run_tasks.ensures.step

pub returns-in-Ok-clause-texts : goal.returns-in-Ok-clause-texts
returns-in-Ok-clause-texts g c =
    texts_after c.args.plan.now c.args.texts.now c.args.held (c.args.options.now.retries + 1) (g.D.PutStore.shown c.args.depot.now) (g.D.PutStore.shown c.put_texts.new.depot) c.put_texts.ensures.step c.put_texts.ensures.own
    (g.D.PutStore.shown c.run_tasks.new.depot) c.run_tasks.ensures.step
    c.in_default.ensures.stored

pub returns-in-Ok-clause-record : goal.returns-in-Ok-clause-record
returns-in-Ok-clause-record g c = λ env left.
    inr (texts_after c.args.plan.now c.args.texts.now c.args.held (c.args.options.now.retries + 1) (g.D.PutStore.shown c.args.depot.now) (g.D.PutStore.shown c.put_texts.new.depot) c.put_texts.ensures.step c.put_texts.ensures.own
    (g.D.PutStore.shown c.run_tasks.new.depot) c.run_tasks.ensures.step
    c.in_default.ensures.stored env left 0 (omega arith))

pub returns-in-Err-run_tasks-clause-record : goal.returns-in-Err-run_tasks-clause-record
returns-in-Err-run_tasks-clause-record g c = λ env left.
    inr (texts_after c.args.plan.now c.args.texts.now c.args.held (c.args.options.now.retries + 1) (g.D.PutStore.shown c.args.depot.now) (g.D.PutStore.shown c.put_texts.new.depot) c.put_texts.ensures.step c.put_texts.ensures.own
    (g.D.PutStore.shown c.run_tasks.new.depot) c.run_tasks.ensures.step
    c.in_default.ensures.stored env left 0 (omega arith))

pub returns-in-Ok-clause-done : goal.returns-in-Ok-clause-done
returns-in-Ok-clause-done g c = λ env left.
    c.in-Ok.ensures.done env (alone_mid c.args.plan.now c.args.texts.now c.args.held (c.args.options.now.retries + 1) (g.D.PutStore.shown c.args.depot.now) (g.D.PutStore.shown c.put_texts.new.depot) c.put_texts.ensures.step c.put_texts.ensures.own env left)

pub returns-in-Ok-clause-complete : goal.returns-in-Ok-clause-complete
returns-in-Ok-clause-complete g c = λ env left.
    complete_after c.args.plan.now c.args.texts.now c.args.held (c.args.options.now.retries + 1) (g.D.PutStore.shown c.args.depot.now) (g.D.PutStore.shown c.put_texts.new.depot) c.put_texts.ensures.step c.put_texts.ensures.own
    (g.D.PutStore.shown c.run_tasks.new.depot) c.run_tasks.ensures.step
    c.in_default.ensures.stored c.args.memory.table c.in-Ok.end.table (g.D.PutStore.shown c.put_texts.new.depot) c.in-Ok.end.outcome (ap (λ (t : TableView). t.settings.plan) c.requires.memory.table)
    c.in-Ok.ensures.driven env left (c.in-Ok.ensures.done env (alone_mid c.args.plan.now c.args.texts.now c.args.held (c.args.options.now.retries + 1) (g.D.PutStore.shown c.args.depot.now) (g.D.PutStore.shown c.put_texts.new.depot) c.put_texts.ensures.step c.put_texts.ensures.own env left))

pub returns-in-Ok-clause-input : goal.returns-in-Ok-clause-input
returns-in-Ok-clause-input g c = λ env left.
    c.in-Ok.ensures.input env (alone_mid c.args.plan.now c.args.texts.now c.args.held (c.args.options.now.retries + 1) (g.D.PutStore.shown c.args.depot.now) (g.D.PutStore.shown c.put_texts.new.depot) c.put_texts.ensures.step c.put_texts.ensures.own env left)

pub returns-in-Err-run_tasks-clause-unstored : goal.returns-in-Err-run_tasks-clause-unstored
returns-in-Err-run_tasks-clause-unstored g c = λ env left.
    subst (IsUnstored (run_of c.args.plan.now c.args.texts.now) env (c.args.options.now.retries + 1) (g.D.PutStore.shown c.args.depot.now) (g.D.PutStore.shown c.run_tasks.new.depot)) (sym c.fault_of.ensures)
    (share_unstored c.args.plan.now c.args.texts.now c.args.held (c.args.options.now.retries + 1) (g.D.PutStore.shown c.args.depot.now) (g.D.PutStore.shown c.put_texts.new.depot) c.put_texts.ensures.step c.put_texts.ensures.own (g.D.PutStore.shown c.run_tasks.new.depot)
    (texts_after c.args.plan.now c.args.texts.now c.args.held (c.args.options.now.retries + 1) (g.D.PutStore.shown c.args.depot.now) (g.D.PutStore.shown c.put_texts.new.depot) c.put_texts.ensures.step c.put_texts.ensures.own
    (g.D.PutStore.shown c.run_tasks.new.depot) c.run_tasks.ensures.step c.in_default.ensures.stored) c.in-Err-run_tasks.fault env left)

pub returns-in-Err-run_tasks-clause-refused : goal.returns-in-Err-run_tasks-clause-refused
returns-in-Err-run_tasks-clause-refused g c =
    share_refused c.args.plan.now c.args.texts.now c.args.held (c.args.options.now.retries + 1) (g.D.PutStore.shown c.args.depot.now) (g.D.PutStore.shown c.put_texts.new.depot) c.put_texts.ensures.step c.put_texts.ensures.own (g.D.PutStore.shown c.run_tasks.new.depot) c.in-Err-run_tasks.ensures.refused

pub returns-in-Ok-clause-tries : goal.returns-in-Ok-clause-tries
returns-in-Ok-clause-tries g c = λ m most.
    both_tries _ _ _ (missing_texts c.args.held) (c.args.options.now.retries + 1) _ c.put_texts.ensures.calls (c.in-Ok.ensures.tries m most)

pub returns-in-Ok-clause-once : goal.returns-in-Ok-clause-once
returns-in-Ok-clause-once g c =
    once_before (missing_texts c.args.held) 1 c.args.plan.now c.in-Ok.end.table.history (g.D.PutStore.shown c.args.depot.now) (g.D.PutStore.shown c.put_texts.new.depot) (g.D.PutStore.shown c.run_tasks.new.depot) c.put_texts.ensures.once c.in-Ok.ensures.once

pub returns-in-Ok-clause-begun_once : goal.returns-in-Ok-clause-begun_once
returns-in-Ok-clause-begun_once g c = tt

pub returns-in-Err-clause-once : goal.returns-in-Err-clause-once
returns-in-Err-clause-once g c = tt

pub returns-in-Err-clause-begun_once : goal.returns-in-Err-clause-begun_once
returns-in-Err-clause-begun_once g c =
    once_few (missing_texts c.args.held) (missing_texts c.args.held + 1) (g.D.PutStore.shown c.args.depot.now) (g.D.PutStore.shown c.put_texts.new.depot) (omega arith) c.put_texts.ensures.once

pub returns-in-Err-run_tasks-clause-once : goal.returns-in-Err-run_tasks-clause-once
returns-in-Err-run_tasks-clause-once g c = tt

pub returns-in-Err-run_tasks-clause-begun_once : goal.returns-in-Err-run_tasks-clause-begun_once
returns-in-Err-run_tasks-clause-begun_once g c =
    once_then (missing_texts c.args.held) 1 (g.D.PutStore.shown c.args.depot.now) (g.D.PutStore.shown c.put_texts.new.depot) (g.D.PutStore.shown c.run_tasks.new.depot) c.put_texts.ensures.once c.in-Err-run_tasks.ensures.begun_once

pub returns-in-Ok-clause-workers : goal.returns-in-Ok-clause-workers
returns-in-Ok-clause-workers g c = c.in-Ok.ensures.workers

pub returns-in-Err-clause-workers : goal.returns-in-Err-clause-workers
returns-in-Err-clause-workers g c = tt

pub returns-in-Err-run_tasks-clause-workers : goal.returns-in-Err-run_tasks-clause-workers
returns-in-Err-run_tasks-clause-workers g c = tt

pub run_tasks-requires-clause-inputs : goal.run_tasks-requires-clause-inputs
run_tasks-requires-clause-inputs g c κs within = c.requires.inputs

pub run_tasks-requires-clause-workers : goal.run_tasks-requires-clause-workers
run_tasks-requires-clause-workers g c κs within = c.requires.workers

pub run_tasks-requires-clause-memory : goal.run_tasks-requires-clause-memory
run_tasks-requires-clause-memory g c κs within = c.requires.memory

pub returns-in-Err-clause-texts : goal.returns-in-Err-clause-texts
returns-in-Err-clause-texts g c = λ env left. tt

pub returns-in-Err-clause-unstored : goal.returns-in-Err-clause-unstored
returns-in-Err-clause-unstored g c = c.in-Err.ensures.unstored

pub returns-in-Err-clause-cause : goal.returns-in-Err-clause-cause
returns-in-Err-clause-cause g c = c.in-Err.ensures.cause

pub returns-in-Err-clause-driven : goal.returns-in-Err-clause-driven
returns-in-Err-clause-driven g c = tt

pub returns-in-Err-clause-counts : goal.returns-in-Err-clause-counts
returns-in-Err-clause-counts g c = tt

pub returns-in-Err-clause-done : goal.returns-in-Err-clause-done
returns-in-Err-clause-done g c = λ env left. tt

pub returns-in-Err-clause-complete : goal.returns-in-Err-clause-complete
returns-in-Err-clause-complete g c = λ env left. tt

pub returns-in-Err-clause-bad : goal.returns-in-Err-clause-bad
returns-in-Err-clause-bad g c = tt

pub returns-in-Err-clause-input : goal.returns-in-Err-clause-input
returns-in-Err-clause-input g c = λ env left. tt

pub returns-in-Err-clause-lacked : goal.returns-in-Err-clause-lacked
returns-in-Err-clause-lacked g c = tt

pub returns-in-Err-clause-tries : goal.returns-in-Err-clause-tries
returns-in-Err-clause-tries g c = λ m most. tt

pub returns-in-Err-clause-step : goal.returns-in-Err-clause-step
returns-in-Err-clause-step g c = steps_wider (λ key value change. change) (omega arith) (omega arith) c.put_texts.ensures.step

pub returns-in-Err-clause-refused : goal.returns-in-Err-clause-refused
returns-in-Err-clause-refused g c = steps_wider (λ key value change. change) (omega arith) (omega arith) c.put_texts.ensures.own

pub returns-in-Err-clause-begun : goal.returns-in-Err-clause-begun
returns-in-Err-clause-begun g c = let few = more_tries _ _ (missing_texts c.args.held) (c.args.options.now.retries + 1) 0 c.put_texts.ensures.calls in omega (arith, few)

pub returns-in-Err-clause-calls : goal.returns-in-Err-clause-calls
returns-in-Err-clause-calls g c = more_tries _ _ (missing_texts c.args.held) (c.args.options.now.retries + 1) (most_calls c.args.options.now c.args.plan.now) c.put_texts.ensures.calls

pub returns-in-Ok-clause-unstored : goal.returns-in-Ok-clause-unstored
returns-in-Ok-clause-unstored g c = λ env left. tt

pub returns-in-Ok-clause-refused : goal.returns-in-Ok-clause-refused
returns-in-Ok-clause-refused g c = tt

pub returns-in-Ok-clause-cause : goal.returns-in-Ok-clause-cause
returns-in-Ok-clause-cause g c = tt

pub returns-in-Ok-clause-begun : goal.returns-in-Ok-clause-begun
returns-in-Ok-clause-begun g c = tt

pub returns-in-Ok-clause-counts : goal.returns-in-Ok-clause-counts
returns-in-Ok-clause-counts g c = c.in-Ok.ensures.counts

pub returns-in-Ok-clause-bad : goal.returns-in-Ok-clause-bad
returns-in-Ok-clause-bad g c = c.in-Ok.ensures.bad

pub returns-in-Ok-clause-lacked : goal.returns-in-Ok-clause-lacked
returns-in-Ok-clause-lacked g c = c.in-Ok.ensures.lacked

pub returns-in-Ok-clause-calls : goal.returns-in-Ok-clause-calls
returns-in-Ok-clause-calls g c =
    both_tries _ _ _ (missing_texts c.args.held) (c.args.options.now.retries + 1) (most_calls c.args.options.now c.args.plan.now) c.put_texts.ensures.calls c.run_tasks.ensures.calls

pub returns-in-Err-run_tasks-clause-texts : goal.returns-in-Err-run_tasks-clause-texts
returns-in-Err-run_tasks-clause-texts g c = λ env left. tt

pub returns-in-Err-run_tasks-clause-driven : goal.returns-in-Err-run_tasks-clause-driven
returns-in-Err-run_tasks-clause-driven g c = tt

pub returns-in-Err-run_tasks-clause-counts : goal.returns-in-Err-run_tasks-clause-counts
returns-in-Err-run_tasks-clause-counts g c = tt

pub returns-in-Err-run_tasks-clause-done : goal.returns-in-Err-run_tasks-clause-done
returns-in-Err-run_tasks-clause-done g c = λ env left. tt

pub returns-in-Err-run_tasks-clause-complete : goal.returns-in-Err-run_tasks-clause-complete
returns-in-Err-run_tasks-clause-complete g c = λ env left. tt

pub returns-in-Err-run_tasks-clause-bad : goal.returns-in-Err-run_tasks-clause-bad
returns-in-Err-run_tasks-clause-bad g c = tt

pub returns-in-Err-run_tasks-clause-input : goal.returns-in-Err-run_tasks-clause-input
returns-in-Err-run_tasks-clause-input g c = λ env left. tt

pub returns-in-Err-run_tasks-clause-lacked : goal.returns-in-Err-run_tasks-clause-lacked
returns-in-Err-run_tasks-clause-lacked g c = tt

pub returns-in-Err-run_tasks-clause-tries : goal.returns-in-Err-run_tasks-clause-tries
returns-in-Err-run_tasks-clause-tries g c = λ m most. tt

pub returns-in-Err-run_tasks-clause-calls : goal.returns-in-Err-run_tasks-clause-calls
returns-in-Err-run_tasks-clause-calls g c =
    both_tries _ _ _ (missing_texts c.args.held) (c.args.options.now.retries + 1) (most_calls c.args.options.now c.args.plan.now) c.put_texts.ensures.calls c.run_tasks.ensures.calls
