use Rattle.std.proofs.Common.{subst, List, ℕ, arith}
use Rattle.cu_store.specs.Held.{IsGone}
use Rattle.cu_store.proofs.Once.{once_then, once_few}
use Rattle.cu_store.proofs.Steps.{steps_then, steps_wider}
use Rattle.cu_command.proofs.SeenLemmas.{stepped}
use Rattle.cu_load.proofs.AskLemmas.{all_free, asked_behind}
use Rattle.cu_load.proofs.ask.ask_keys.Goals as goal

pub returns-clause-free : goal.returns-clause-free
returns-clause-free g c =
    all_free (g.D.PutStore.shown c.args.depot.now) (g.D.PutStore.shown c.refuse_held.new.depot) c.args.name.now c.ask_metadata.result (stepped c.refuse_held.ensures.step)
    (subst (λ (k : List ℕ). IsGone (g.D.PutStore.shown c.refuse_held.new.depot).held k) c.record_key-record.ensures c.in_default.ensures.gone) c.ask_metadata.ensures.free

pub returns-clause-refused : goal.returns-clause-refused
returns-clause-refused g c =
    asked_behind _ (g.D.PutStore.shown c.args.depot.now) (g.D.PutStore.shown c.refuse_held.new.depot) (g.D.PutStore.shown c.ask_metadata.new.depot) c.args.name.now c.ask_metadata.result
    c.refuse_held.ensures.step.count (stepped c.refuse_held.ensures.step)
    (subst (λ (k : List ℕ). IsGone (g.D.PutStore.shown c.refuse_held.new.depot).held k) c.record_key-record.ensures c.in_default.ensures.gone) c.ask_metadata.ensures.refused

pub returns-clause-step : goal.returns-clause-step
returns-clause-step g c = steps_wider (λ key value own. own) (omega arith) (omega arith) (steps_then c.refuse_held.ensures.step c.ask_metadata.ensures.step)

pub returns-in-Err-clause-step : goal.returns-in-Err-clause-step
returns-in-Err-clause-step g c = steps_wider (λ key value own. own) (omega arith) (omega arith) c.refuse_held.ensures.step

pub returns-clause-once : goal.returns-clause-once
returns-clause-once g c =
    once_then 1 2 (g.D.PutStore.shown c.args.depot.now) (g.D.PutStore.shown c.refuse_held.new.depot) (g.D.PutStore.shown c.ask_metadata.new.depot) c.refuse_held.ensures.once c.ask_metadata.ensures.once

pub returns-in-Err-clause-once : goal.returns-in-Err-clause-once
returns-in-Err-clause-once g c = once_few 1 3 (g.D.PutStore.shown c.args.depot.now) (g.D.PutStore.shown c.refuse_held.new.depot) (omega arith) c.refuse_held.ensures.once
