use Rattle.std.proofs.Common.{◌∙◌, inr, subst, List, ℕ, arith}
use Rattle.cu_store.specs.Held.{IsGone}
use Rattle.cu_zarr.specs.Key.{metadata_key_of, zarray_key_of}
use Rattle.cu_store.proofs.Once.{once_then, once_few}
use Rattle.cu_store.proofs.Steps.{steps_then, steps_wider}
use Rattle.cu_command.proofs.SeenLemmas.{stepped, stepped_then, gone_before}
use Rattle.cu_load.proofs.AskLemmas.{on_ok, if_err, ask_fault_more}
use Rattle.cu_load.proofs.ask.ask_metadata.Goals as goal

pub returns-clause-free : goal.returns-clause-free
returns-clause-free g c =
    let both = stepped_then (stepped c.refuse_held.ensures.step) (stepped c.refuse_held-2.ensures.step) in
    on_ok c.refuse_held-2.result (λ gone. (
      gone_before (g.D.PutStore.shown c.args.depot.now) (g.D.PutStore.shown c.refuse_held.new.depot) (metadata_key_of c.args.name.now) (stepped c.refuse_held.ensures.step) (subst (λ (k : List ℕ). IsGone (g.D.PutStore.shown c.refuse_held.new.depot).held k) c.metadata_key-metadata.ensures c.in_default.ensures.gone),
      gone_before (g.D.PutStore.shown c.args.depot.now) (g.D.PutStore.shown c.refuse_held-2.new.depot) (zarray_key_of c.args.name.now) both (subst (λ (k : List ℕ). IsGone (g.D.PutStore.shown c.refuse_held-2.new.depot).held k) c.zarray_key-zarray.ensures gone),
    )) c.refuse_held-2.ensures.gone

pub returns-clause-refused : goal.returns-clause-refused
returns-clause-refused g c =
    let written_gone : IsGone (g.D.PutStore.shown c.args.depot.now).held (metadata_key_of c.args.name.now) =
    gone_before (g.D.PutStore.shown c.args.depot.now) (g.D.PutStore.shown c.refuse_held.new.depot) (metadata_key_of c.args.name.now) (stepped c.refuse_held.ensures.step) (subst (λ (k : List ℕ). IsGone (g.D.PutStore.shown c.refuse_held.new.depot).held k) c.metadata_key-metadata.ensures c.in_default.ensures.gone) in
    if_err c.refuse_held-2.result (λ status fault.
    ask_fault_more _ _ _ _ _ _ _ status (λ key same. inr (same ∙ c.zarray_key-zarray.ensures, written_gone)) c.refuse_held.ensures.step.count fault) c.refuse_held-2.ensures.refused

pub returns-clause-step : goal.returns-clause-step
returns-clause-step g c = steps_wider (λ key value own. own) (omega arith) (omega arith) (steps_then c.refuse_held.ensures.step c.refuse_held-2.ensures.step)

pub returns-in-Err-clause-step : goal.returns-in-Err-clause-step
returns-in-Err-clause-step g c = steps_wider (λ key value own. own) (omega arith) (omega arith) c.refuse_held.ensures.step

pub returns-clause-once : goal.returns-clause-once
returns-clause-once g c =
    once_then 1 1 (g.D.PutStore.shown c.args.depot.now) (g.D.PutStore.shown c.refuse_held.new.depot) (g.D.PutStore.shown c.refuse_held-2.new.depot) c.refuse_held.ensures.once c.refuse_held-2.ensures.once

pub returns-in-Err-clause-once : goal.returns-in-Err-clause-once
returns-in-Err-clause-once g c = once_few 1 2 (g.D.PutStore.shown c.args.depot.now) (g.D.PutStore.shown c.refuse_held.new.depot) (omega arith) c.refuse_held.ensures.once
