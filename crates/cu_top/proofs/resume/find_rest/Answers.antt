use Rattle.std.proofs.Common.{rules, arith, ◌∙◌, ◌+◌, ap, sym, subst, List, Bool, length}
use Rattle.cu_store.proofs.Once.{once_then, once_few}
use Rattle.cu_command.proofs.SeenLemmas.{stepped, stepped_then}
use Rattle.cu_command.specs.declared.status.Status.{Status}
use Rattle.cu_op.specs.PlanView.{PlanView}
use Rattle.cu_table.specs.Table.{TableView}
use Rattle.cu_work.specs.Order.{plan_keys}
use Rattle.cu_work.specs.Search.{NamesStored}
use Rattle.cu_work.specs.World.{IsFound}
use Rattle.cu_top.proofs.ReopenLemmas.{ask_refused, find_refused, names_later, metadata_listed, chunk_listed, texts_both, texts_record}
use Rattle.cu_top.specs.Prepare.{job_plan, keys_of}
use Rattle.cu_top.specs.Resume.{IsRestFault}
use Rattle.cu_top.proofs.resume.find_rest.Goals.{in-Ok-true, in-Ok-false}
use Rattle.cu_top.proofs.resume.find_rest.Goals as goal

pub returns-in-Err-clause-step : goal.returns-in-Err-clause-step
returns-in-Err-clause-step g c = stepped c.ask_key.ensures.step

pub returns-in-Err-clause-fault : goal.returns-in-Err-clause-fault
returns-in-Err-clause-fault g c =
    ask_refused (c.args.options.now.retries + 1) (keys_of c.args.options.now c.args.ready.now.job) (g.D.PutStore.shown c.args.depot.now) (g.D.PutStore.shown c.ask_key.new.depot) c.text_keys-key.result.metadata c.in-Err.status
    c.in-Err.ensures.cause (metadata_listed c.args.options.now c.args.ready.now.job c.text_keys-key.result.metadata c.text_keys-key.ensures.metadata)

pub returns-in-Err-find_done-clause-step : goal.returns-in-Err-find_done-clause-step
returns-in-Err-find_done-clause-step g c = stepped_then (stepped c.ask_key.ensures.step) (stepped c.find_done.ensures.step)

pub returns-in-Err-find_done-clause-fault : goal.returns-in-Err-find_done-clause-fault
returns-in-Err-find_done-clause-fault g c =
    let options = c.args.options.now in
    let job = c.args.ready.now.job in
    let old = g.D.PutStore.shown c.args.depot.now in
    let between = g.D.PutStore.shown c.ask_key.new.depot in
    let new = g.D.PutStore.shown c.find_done.new.depot in
    subst (λ (s : Status). IsRestFault (options.retries + 1) (keys_of options job) (old, new) s) (sym c.find_answer.ensures)
    (find_refused (options.retries + 1) (plan_keys c.args.ready.now.plan (length c.args.ready.now.plan.ops)) (keys_of options job) old between new c.in-Err-find_done.fault (stepped c.ask_key.ensures.step)
    c.in-Err-find_done.ensures.cause (chunk_listed options job c.args.ready.now.plan c.requires.ready.plan_is))

pub returns-in-Ok-make-clause-texts : goal.returns-in-Ok-make-clause-texts
returns-in-Ok-make-clause-texts g c =
    let options = c.args.options.now in
    let job = c.args.ready.now.job in
    let old = g.D.PutStore.shown c.args.depot.now in
    let between = g.D.PutStore.shown c.ask_key.new.depot in
    let new = g.D.PutStore.shown c.find_done.new.depot in
    elim c.if-ask_key.branch [
      | in-Ok-true w ↦ texts_both options job old between new (stepped c.ask_key.ensures.step) (stepped c.find_done.ensures.step) c.requires.known c.if-ask_key.held c.text_keys-key.result.metadata w.held-is c.text_keys-key.ensures.metadata (search rules)
      | in-Ok-false w ↦ texts_record options job old between new (stepped c.ask_key.ensures.step) (stepped c.find_done.ensures.step) c.requires.known c.if-ask_key.held w.held-is
    ]

pub returns-in-Ok-make-clause-found : goal.returns-in-Ok-make-clause-found
returns-in-Ok-make-clause-found g c = λ held told.
    let done = ap (λ (t : TableView). t.done) c.in-Ok-make.ensures.memory.table ∙ c.deref.ensures.value in
    subst (λ (d : List Bool). IsFound (job_plan c.args.options.now c.args.ready.now.job) held d) (sym done)
    (subst (λ (p : PlanView). IsFound p held c.in-Ok.done.items) c.requires.ready.plan_is (c.in-Ok.ensures.found held told))

pub returns-in-Ok-make-clause-named : goal.returns-in-Ok-make-clause-named
returns-in-Ok-make-clause-named g c = λ held told.
    let done = ap (λ (t : TableView). t.done) c.in-Ok-make.ensures.memory.table ∙ c.deref.ensures.value in
    subst (λ (d : List Bool). NamesStored (job_plan c.args.options.now c.args.ready.now.job) held d) (sym done)
    (subst (λ (p : PlanView). NamesStored p held c.in-Ok.done.items) c.requires.ready.plan_is
    (names_later c.args.ready.now.plan (g.D.PutStore.shown c.args.depot.now) (g.D.PutStore.shown c.ask_key.new.depot) c.in-Ok.done.items (stepped c.ask_key.ensures.step) (λ now is. c.in-Ok.ensures.all now is) held told))

pub returns-in-Ok-make-clause-step : goal.returns-in-Ok-make-clause-step
returns-in-Ok-make-clause-step g c = stepped_then (stepped c.ask_key.ensures.step) (stepped c.find_done.ensures.step)

pub returns-clause-step : goal.returns-clause-step
returns-clause-step g c = stepped_then (stepped c.ask_key.ensures.step) (stepped c.find_done.ensures.step)

pub returns-in-Err-clause-once : goal.returns-in-Err-clause-once
returns-in-Err-clause-once g c =
    once_few 1 (1 + length (plan_keys c.args.ready.now.plan (length c.args.ready.now.plan.ops))) (g.D.PutStore.shown c.args.depot.now) (g.D.PutStore.shown c.ask_key.new.depot) (omega arith) c.ask_key.ensures.once

pub returns-in-Err-find_done-clause-once : goal.returns-in-Err-find_done-clause-once
returns-in-Err-find_done-clause-once g c =
    once_then 1 (length (plan_keys c.args.ready.now.plan (length c.args.ready.now.plan.ops))) (g.D.PutStore.shown c.args.depot.now) (g.D.PutStore.shown c.ask_key.new.depot) (g.D.PutStore.shown c.find_done.new.depot)
    c.ask_key.ensures.once c.find_done.ensures.once

pub returns-in-Ok-make-clause-once : goal.returns-in-Ok-make-clause-once
returns-in-Ok-make-clause-once g c =
    once_then 1 (length (plan_keys c.args.ready.now.plan (length c.args.ready.now.plan.ops))) (g.D.PutStore.shown c.args.depot.now) (g.D.PutStore.shown c.ask_key.new.depot) (g.D.PutStore.shown c.find_done.new.depot)
    c.ask_key.ensures.once c.find_done.ensures.once

pub returns-clause-once : goal.returns-clause-once
returns-clause-once g c =
    once_then 1 (length (plan_keys c.args.ready.now.plan (length c.args.ready.now.plan.ops))) (g.D.PutStore.shown c.args.depot.now) (g.D.PutStore.shown c.ask_key.new.depot) (g.D.PutStore.shown c.find_done.new.depot)
    c.ask_key.ensures.once c.find_done.ensures.once
