use Rattle.std.proofs.Common.{◌≡◌, ◌+◌, ◌∙◌, subst, sym, ap, false, ℕ, List, length, arith}
use Rattle.cu_store.proofs.Once.{once_then, once_few}
use Rattle.cu_command.proofs.SeenLemmas.{stepped, stepped_then}
use Rattle.cu_demo.specs.Input.{demo_name}
use Rattle.cu_demo.specs.declared.input.DemoInput.TheVariants.{Columns}
use Rattle.cu_load.specs.Keys.{AreFree}
use Rattle.cu_top.proofs.DemoInputs.{columns_end, free_before, plan_end, rows_end}
use Rattle.cu_top.proofs.RunLemmas.{all_free}
use Rattle.cu_top.specs.Demo.{IsDemoAskEnd}
use Rattle.cu_top.specs.Prepare.{asked_keys, is_own_input}
use Rattle.cu_top.proofs.demo.ask_demo.Goals as goal

pub returns-in-Err-clause-refused : goal.returns-in-Err-clause-refused
returns-in-Err-clause-refused g c = λ options same.
    rows_end (c.args.retries + 1) (asked_keys options c.args.prepared.now.job) (g.D.PutStore.shown c.args.depot.now) (g.D.PutStore.shown c.ask_keys.new.depot)
    c.key_of_name-rows.result c.in-Err.status (c.key_of_name-rows.ensures.key ∙ c.demo_name.ensures.name) c.in-Err.ensures.refused

pub returns-in-Err-clause-step : goal.returns-in-Err-clause-step
returns-in-Err-clause-step g c = stepped c.ask_keys.ensures.step

pub returns-in-Err-ask_keys-clause-step : goal.returns-in-Err-ask_keys-clause-step
returns-in-Err-ask_keys-clause-step g c = stepped_then (stepped c.ask_keys.ensures.step) (stepped c.ask_keys-2.ensures.step)

pub returns-in-Err-ask_keys-clause-refused : goal.returns-in-Err-ask_keys-clause-refused
returns-in-Err-ask_keys-clause-refused g c = λ options same.
    let old = g.D.PutStore.shown c.args.depot.now in
    let mid = g.D.PutStore.shown c.ask_keys.new.depot in
    columns_end (c.args.retries + 1) (asked_keys options c.args.prepared.now.job) old mid (g.D.PutStore.shown c.ask_keys-2.new.depot)
    c.key_of_name-columns.result c.in-Err-ask_keys.status (c.key_of_name-columns.ensures.key ∙ c.demo_name-2.ensures.name)
    (subst (λ (n : List ℕ). AreFree n old.held) (c.key_of_name-rows.ensures.key ∙ c.demo_name.ensures.name) c.in_default.ensures.free)
    (stepped c.ask_keys.ensures.step) c.in-Err-ask_keys.ensures.refused

pub returns-in-Ok-clause-inputs : goal.returns-in-Ok-clause-inputs
returns-in-Ok-clause-inputs g c =
    let old = g.D.PutStore.shown c.args.depot.now in
    let mid = g.D.PutStore.shown c.ask_keys.new.depot in (
      subst (λ (n : List ℕ). AreFree n old.held) (c.key_of_name-rows.ensures.key ∙ c.demo_name.ensures.name) c.in_default.ensures.free,
      free_before old mid (demo_name Columns) (stepped c.ask_keys.ensures.step)
          (subst (λ (n : List ℕ). AreFree n mid.held) (c.key_of_name-columns.ensures.key ∙ c.demo_name-2.ensures.name) c.in_default-ask_keys.ensures.free),
    )

pub returns-in-Ok-clause-keys : goal.returns-in-Ok-clause-keys
returns-in-Ok-clause-keys g c = λ options entry plan told.
    all_free (g.D.PutStore.shown c.args.depot.now) (g.D.PutStore.shown c.ask_keys-2.new.depot) (stepped_then (stepped c.ask_keys.ensures.step) (stepped c.ask_keys-2.ensures.step)) entry told
    (asked_keys options c.args.prepared.now.job) (λ now is. c.in-Ok.ensures.free options now plan is)

pub returns-in-Ok-clause-step : goal.returns-in-Ok-clause-step
returns-in-Ok-clause-step g c = stepped_then (stepped_then (stepped c.ask_keys.ensures.step) (stepped c.ask_keys-2.ensures.step)) c.ask_plan.ensures.step

pub returns-in-Err-ask_plan-clause-step : goal.returns-in-Err-ask_plan-clause-step
returns-in-Err-ask_plan-clause-step g c = stepped_then (stepped_then (stepped c.ask_keys.ensures.step) (stepped c.ask_keys-2.ensures.step)) c.ask_plan.ensures.step

pub returns-in-Err-ask_plan-clause-refused : goal.returns-in-Err-ask_plan-clause-refused
returns-in-Err-ask_plan-clause-refused g c = λ options same.
    let old = g.D.PutStore.shown c.args.depot.now in
    let mid = g.D.PutStore.shown c.ask_keys.new.depot in
    let asked = g.D.PutStore.shown c.ask_keys-2.new.depot in
    let new = g.D.PutStore.shown c.ask_plan.new.depot in
    let own : is_own_input c.args.prepared.now.job.expr ≡ false = ap is_own_input c.requires in
    subst (IsDemoAskEnd (c.args.retries + 1) (asked_keys options c.args.prepared.now.job) old new) (sym c.answer_of.ensures)
    (plan_end (c.args.retries + 1) (asked_keys options c.args.prepared.now.job) old asked new c.args.prepared.now.job.expr c.in-Err-ask_plan.fault own (
      subst (λ (n : List ℕ). AreFree n old.held) (c.key_of_name-rows.ensures.key ∙ c.demo_name.ensures.name) c.in_default.ensures.free,
      free_before old mid (demo_name Columns) (stepped c.ask_keys.ensures.step)
          (subst (λ (n : List ℕ). AreFree n mid.held) (c.key_of_name-columns.ensures.key ∙ c.demo_name-2.ensures.name) c.in_default-ask_keys.ensures.free),
    )
    (stepped_then (stepped c.ask_keys.ensures.step) (stepped c.ask_keys-2.ensures.step)) (c.in-Err-ask_plan.ensures.refused options same))

pub returns-in-Err-clause-calls : goal.returns-in-Err-clause-calls
returns-in-Err-clause-calls g c = λ options same. let rows = c.ask_keys.ensures.step.calls.1 in omega (arith, rows)

pub returns-in-Err-ask_keys-clause-calls : goal.returns-in-Err-ask_keys-clause-calls
returns-in-Err-ask_keys-clause-calls g c = λ options same.
    let rows = c.ask_keys.ensures.step.calls.1 in
    let columns = c.ask_keys-2.ensures.step.calls.1 in
    omega (arith, rows, columns)

pub returns-in-Ok-clause-calls : goal.returns-in-Ok-clause-calls
returns-in-Ok-clause-calls g c = λ options same.
    let rows = c.ask_keys.ensures.step.calls.1 in
    let columns = c.ask_keys-2.ensures.step.calls.1 in
    let keys = c.ask_plan.ensures.calls options same in
    omega (arith, rows, columns, keys)

pub returns-in-Err-ask_plan-clause-calls : goal.returns-in-Err-ask_plan-clause-calls
returns-in-Err-ask_plan-clause-calls g c = λ options same.
    let rows = c.ask_keys.ensures.step.calls.1 in
    let columns = c.ask_keys-2.ensures.step.calls.1 in
    let keys = c.ask_plan.ensures.calls options same in
    omega (arith, rows, columns, keys)

pub returns-in-Err-clause-once : goal.returns-in-Err-clause-once
returns-in-Err-clause-once g c = λ options same.
    once_few 3 (6 + length (asked_keys options c.args.prepared.now.job)) (g.D.PutStore.shown c.args.depot.now) (g.D.PutStore.shown c.ask_keys.new.depot) (omega arith) c.ask_keys.ensures.once

pub returns-in-Err-ask_keys-clause-once : goal.returns-in-Err-ask_keys-clause-once
returns-in-Err-ask_keys-clause-once g c = λ options same.
    once_few 6 (6 + length (asked_keys options c.args.prepared.now.job)) (g.D.PutStore.shown c.args.depot.now) (g.D.PutStore.shown c.ask_keys-2.new.depot) (omega arith)
    (once_then 3 3 (g.D.PutStore.shown c.args.depot.now) (g.D.PutStore.shown c.ask_keys.new.depot) (g.D.PutStore.shown c.ask_keys-2.new.depot) c.ask_keys.ensures.once c.ask_keys-2.ensures.once)

pub returns-in-Ok-clause-once : goal.returns-in-Ok-clause-once
returns-in-Ok-clause-once g c = λ options same.
    once_then 6 (length (asked_keys options c.args.prepared.now.job)) (g.D.PutStore.shown c.args.depot.now) (g.D.PutStore.shown c.ask_keys-2.new.depot) (g.D.PutStore.shown c.ask_plan.new.depot)
    (once_then 3 3 (g.D.PutStore.shown c.args.depot.now) (g.D.PutStore.shown c.ask_keys.new.depot) (g.D.PutStore.shown c.ask_keys-2.new.depot) c.ask_keys.ensures.once c.ask_keys-2.ensures.once)
    (c.ask_plan.ensures.once options same)

pub returns-in-Err-ask_plan-clause-once : goal.returns-in-Err-ask_plan-clause-once
returns-in-Err-ask_plan-clause-once g c = λ options same.
    once_then 6 (length (asked_keys options c.args.prepared.now.job)) (g.D.PutStore.shown c.args.depot.now) (g.D.PutStore.shown c.ask_keys-2.new.depot) (g.D.PutStore.shown c.ask_plan.new.depot)
    (once_then 3 3 (g.D.PutStore.shown c.args.depot.now) (g.D.PutStore.shown c.ask_keys.new.depot) (g.D.PutStore.shown c.ask_keys-2.new.depot) c.ask_keys.ensures.once c.ask_keys-2.ensures.once)
    (c.ask_plan.ensures.once options same)
