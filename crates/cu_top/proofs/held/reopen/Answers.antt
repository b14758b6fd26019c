use Rattle.std.proofs.Common.{rules, ◌+◌, ◌∙◌, inl, sym, subst, arith}
use Rattle.cu_store.proofs.Once.{once_then, once_few}
use Rattle.cu_command.proofs.SeenLemmas.{stepped}
use Rattle.cu_command.specs.Job.{IsJob}
use Rattle.cu_command.specs.declared.job.Job.{Job}
use Rattle.cu_top.proofs.HeldLemmas.{refused_reopened, record_refused, own_refused, found_again}
use Rattle.cu_top.specs.Prepare.{HasPlan}
use Rattle.cu_top.specs.Run.{scene, case}
use Rattle.cu_top.proofs.CallLimits.{unfound_within}
use Rattle.cu_top.specs.Calls.{ReopenWithin}
use Rattle.cu_top.specs.Limits.{plan_calls}
use Rattle.cu_top.specs.declared.held.RecordFault.TheVariants as record_fault
use Rattle.cu_top.proofs.held.reopen.Goals as goal

pub returns-in-Err-clause-refused : goal.returns-in-Err-clause-refused
returns-in-Err-clause-refused g c = λ source next sink after.
    refused_reopened (case c.args.options.now c.args.text.now (scene source sink (g.D.PutStore.shown c.args.depot.now)) (scene next after (g.D.PutStore.shown c.plan_job.new.depot))) c.in-Err.status
    (c.in-Err.ensures.refused source next sink after)

pub returns-in-Err-ask_record-clause-refused : goal.returns-in-Err-ask_record-clause-refused
returns-in-Err-ask_record-clause-refused g c = λ source next sink after.
    let old = g.D.PutStore.shown c.args.depot.now in
    let job = c.in-Ok-make_ready.ready.job in
    let same = sym c.in-Ok-make_ready.ensures.job in
    let accepted = subst (λ (j : Job). IsJob old c.args.text.now j) same c.in-Ok.ensures.job in
    let planned = subst (λ (j : Job). HasPlan c.args.options.now j) same c.in-Ok.ensures.planned in
    record_refused (case c.args.options.now c.args.text.now (scene source sink old) (scene next after (g.D.PutStore.shown c.ask_record.new.depot))) job (g.D.PutStore.shown c.plan_job.new.depot) accepted planned
    c.plan_job.ensures.step (stepped c.ask_record.ensures.step) c.text_keys-key.result.record c.deref.result.now c.in-Err-ask_record.fault c.record_answer.result c.text_keys-key.ensures.record
    (c.deref.ensures.value ∙ c.in-Ok-make_ready.ensures.ready.record_is) c.record_answer.ensures c.in-Err-ask_record.ensures.fault

pub returns-then-is_own_input-clause-refused : goal.returns-then-is_own_input-clause-refused
returns-then-is_own_input-clause-refused g c = λ source next sink after.
    let old = g.D.PutStore.shown c.args.depot.now in
    let job = c.in-Ok-make_ready.ready.job in
    let same = sym c.in-Ok-make_ready.ensures.job in
    let accepted = subst (λ (j : Job). IsJob old c.args.text.now j) same c.in-Ok.ensures.job in
    let planned = subst (λ (j : Job). HasPlan c.args.options.now j) same c.in-Ok.ensures.planned in
    own_refused (case c.args.options.now c.args.text.now (scene source sink old) (scene next after (g.D.PutStore.shown c.ask_record.new.depot))) job (g.D.PutStore.shown c.plan_job.new.depot) accepted planned
    c.plan_job.ensures.step (stepped c.ask_record.ensures.step) c.text_keys-key.result.record c.deref.result.now c.text_keys-key.ensures.record
    (c.deref.ensures.value ∙ c.in-Ok-make_ready.ensures.ready.record_is) (search rules) (sym c.is_own_input.ensures ∙ c.if-is_own_input.true)

pub returns-clause-found : goal.returns-clause-found
returns-clause-found g c =
    let old = g.D.PutStore.shown c.args.depot.now in
    let job = c.in-Ok-make_ready.ready.job in
    let same = sym c.in-Ok-make_ready.ensures.job in
    let accepted = subst (λ (j : Job). IsJob old c.args.text.now j) same c.in-Ok.ensures.job in
    let planned = subst (λ (j : Job). HasPlan c.args.options.now j) same c.in-Ok.ensures.planned in
    found_again c.args.options.now c.args.text.now old (g.D.PutStore.shown c.plan_job.new.depot) (g.D.PutStore.shown c.ask_record.new.depot) job c.text_keys-key.result.record c.deref.result.now accepted planned
    c.plan_job.ensures.step (stepped c.ask_record.ensures.step) c.text_keys-key.ensures.record (c.deref.ensures.value ∙ c.in-Ok-make_ready.ensures.ready.record_is) (search rules)
    (sym c.is_own_input.ensures ∙ c.if-is_own_input.false)

pub returns-in-Err-clause-refused_calls : goal.returns-in-Err-clause-refused_calls
returns-in-Err-clause-refused_calls g c = λ source next sink after. inl c.plan_job.ensures.calls

pub returns-in-Err-ask_record-clause-refused_calls : goal.returns-in-Err-ask_record-clause-refused_calls
returns-in-Err-ask_record-clause-refused_calls g c = λ source next sink after.
    let old = g.D.PutStore.shown c.args.depot.now in
    let job = c.in-Ok-make_ready.ready.job in
    let same = sym c.in-Ok-make_ready.ensures.job in
    let accepted = subst (λ (j : Job). IsJob old c.args.text.now j) same c.in-Ok.ensures.job in
    let planned = subst (λ (j : Job). HasPlan c.args.options.now j) same c.in-Ok.ensures.planned in
    let run = case c.args.options.now c.args.text.now (scene source sink old) (scene next after (g.D.PutStore.shown c.ask_record.new.depot)) in
    let first = c.plan_job.ensures.calls in
    let last = c.ask_record.ensures.step.calls.1 in
    subst (ReopenWithin run) (sym c.record_answer.ensures)
    (unfound_within run job accepted planned c.text_keys-key.result.«record» c.in-Err-ask_record.fault (omega (arith, first, last)))

pub returns-then-is_own_input-clause-refused_calls : goal.returns-then-is_own_input-clause-refused_calls
returns-then-is_own_input-clause-refused_calls g c = λ source next sink after.
    let old = g.D.PutStore.shown c.args.depot.now in
    let job = c.in-Ok-make_ready.ready.job in
    let same = sym c.in-Ok-make_ready.ensures.job in
    let accepted = subst (λ (j : Job). IsJob old c.args.text.now j) same c.in-Ok.ensures.job in
    let planned = subst (λ (j : Job). HasPlan c.args.options.now j) same c.in-Ok.ensures.planned in
    let run = case c.args.options.now c.args.text.now (scene source sink old) (scene next after (g.D.PutStore.shown c.ask_record.new.depot)) in
    let first = c.plan_job.ensures.calls in
    let last = c.ask_record.ensures.step.calls.1 in
    unfound_within run job accepted planned c.text_keys-key.result.«record» record_fault.Absent (omega (arith, first, last))

pub returns-in-Err-clause-once : goal.returns-in-Err-clause-once
returns-in-Err-clause-once g c =
    once_few (plan_calls 1 c.args.text.now) (plan_calls 1 c.args.text.now + 1) (g.D.PutStore.shown c.args.depot.now) (g.D.PutStore.shown c.plan_job.new.depot) (omega arith) c.plan_job.ensures.once

pub returns-in_default-clause-once : goal.returns-in_default-clause-once
returns-in_default-clause-once g c =
    once_few (plan_calls 1 c.args.text.now) (plan_calls 1 c.args.text.now + 1) (g.D.PutStore.shown c.args.depot.now) (g.D.PutStore.shown c.plan_job.new.depot) (omega arith) c.plan_job.ensures.once

pub returns-in-Err-ask_record-clause-once : goal.returns-in-Err-ask_record-clause-once
returns-in-Err-ask_record-clause-once g c =
    once_then (plan_calls 1 c.args.text.now) 1 (g.D.PutStore.shown c.args.depot.now) (g.D.PutStore.shown c.plan_job.new.depot) (g.D.PutStore.shown c.ask_record.new.depot) c.plan_job.ensures.once c.ask_record.ensures.once

pub returns-then-is_own_input-clause-once : goal.returns-then-is_own_input-clause-once
returns-then-is_own_input-clause-once g c =
    once_then (plan_calls 1 c.args.text.now) 1 (g.D.PutStore.shown c.args.depot.now) (g.D.PutStore.shown c.plan_job.new.depot) (g.D.PutStore.shown c.ask_record.new.depot) c.plan_job.ensures.once c.ask_record.ensures.once

pub returns-clause-once : goal.returns-clause-once
returns-clause-once g c =
    once_then (plan_calls 1 c.args.text.now) 1 (g.D.PutStore.shown c.args.depot.now) (g.D.PutStore.shown c.plan_job.new.depot) (g.D.PutStore.shown c.ask_record.new.depot) c.plan_job.ensures.once c.ask_record.ensures.once
