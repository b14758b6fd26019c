use Rattle.std.proofs.Common.{◌+◌, ◌∷◌, ◌∙◌, length, ap, sym, arith}
use Rattle.cu_name.specs.Keys.{record_key_of}
use Rattle.cu_zarr.specs.Key.{metadata_key_of, zarray_key_of}
use Rattle.cu_store.proofs.Once.{once_few}
use Rattle.cu_command.proofs.SeenLemmas.{stepped}
use Rattle.cu_op.specs.PlanView.{PlanView}
use Rattle.cu_work.specs.Order.{plan_keys}
use Rattle.cu_top.proofs.AskLemmas.{plan_asked, plan_free}
use Rattle.cu_top.specs.Prepare.{asked_keys}
use Rattle.cu_top.proofs.CallLimits.{asked_all, asked_once}
use Rattle.cu_top.proofs.ask.ask_plan.Goals as goal

pub returns-clause-free : goal.returns-clause-free
returns-clause-free g c = λ options entry same told.
    plan_free (c.args.retries + 1) _ (asked_keys options c.args.job.now) (g.D.PutStore.shown c.args.depot.now) (g.D.PutStore.shown c.ask_keys.new.depot) c.ask_keys.result
    (rw (c.text_keys-keys.ensures.record, c.text_keys-keys.ensures.metadata, c.zarray_of-zarray.ensures)
    (ap (λ (p : PlanView). record_key_of c.args.job.now.expr.store_as ∷ metadata_key_of c.args.job.now.expr.store_as ∷ zarray_key_of c.args.job.now.expr.store_as ∷ plan_keys p (length p.ops)) same)) c.ask_keys.ensures
    entry told

pub returns-clause-refused : goal.returns-clause-refused
returns-clause-refused g c = λ options same.
    plan_asked (c.args.retries + 1) c.args.job.now.expr _ (asked_keys options c.args.job.now) (g.D.PutStore.shown c.args.depot.now) (g.D.PutStore.shown c.ask_keys.new.depot) c.ask_keys.result
    (rw (c.text_keys-keys.ensures.record, c.text_keys-keys.ensures.metadata, c.zarray_of-zarray.ensures)
    (ap (λ (p : PlanView). record_key_of c.args.job.now.expr.store_as ∷ metadata_key_of c.args.job.now.expr.store_as ∷ zarray_key_of c.args.job.now.expr.store_as ∷ plan_keys p (length p.ops)) same)) c.ask_keys.ensures
    (sym c.is_own_input.ensures ∙ c.if-is_own_input.false)

pub returns-then-is_own_input-clause-step : goal.returns-then-is_own_input-clause-step
returns-then-is_own_input-clause-step g c = stepped c.ask_own.ensures.step

pub returns-then-is_own_input-clause-refused : goal.returns-then-is_own_input-clause-refused
returns-then-is_own_input-clause-refused g c = λ options same. c.ask_own.ensures.refused options

pub returns-clause-calls : goal.returns-clause-calls
returns-clause-calls g c = λ options same.
    asked_all options c.args.job.now c.args.plan.now (c.args.retries + 1) (g.D.PutStore.shown c.args.depot.now) (g.D.PutStore.shown c.ask_keys.new.depot) same
    (let few = c.ask_keys.ensures.step.calls.1 in omega (arith, few))

pub returns-then-is_own_input-clause-calls : goal.returns-then-is_own_input-clause-calls
returns-then-is_own_input-clause-calls g c = λ options same. let few = c.ask_own.ensures.step.calls.1 in omega (arith, few)

pub returns-clause-once : goal.returns-clause-once
returns-clause-once g c = λ options same.
    asked_once options c.args.job.now c.args.plan.now (g.D.PutStore.shown c.args.depot.now) (g.D.PutStore.shown c.ask_keys.new.depot) same
    (let once = c.ask_keys.ensures.once in omega (arith, once))

pub returns-then-is_own_input-clause-once : goal.returns-then-is_own_input-clause-once
returns-then-is_own_input-clause-once g c = λ options same.
    once_few 2 (length (asked_keys options c.args.job.now)) (g.D.PutStore.shown c.args.depot.now) (g.D.PutStore.shown c.ask_own.new.depot) (omega arith) c.ask_own.ensures.once
