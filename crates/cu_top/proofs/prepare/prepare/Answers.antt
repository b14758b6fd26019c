use Rattle.std.proofs.Common.{◌+◌, inl, length, subst, sym, arith}
use Rattle.cu_command.specs.declared.status.Status.{Status}
use Rattle.cu_store.proofs.Once.{once_then}
use Rattle.cu_command.proofs.SeenLemmas.{stepped_then}
use Rattle.cu_top.proofs.BeginLemmas.{ask_unbegun, begin_asked_within, refused_begins}
use Rattle.cu_top.proofs.PlannedLemmas.{refused_ran}
use Rattle.cu_top.proofs.RunLemmas.{ask_refused, all_free}
use Rattle.cu_top.specs.Prepare.{asked_keys}
use Rattle.cu_top.specs.Run.{scene, case, Ran}
use Rattle.cu_top.proofs.CallLimits.{asked_within}
use Rattle.cu_top.specs.Begin.{BeginWithin, WasBegun}
use Rattle.cu_top.specs.Calls.{RunWithin}
use Rattle.cu_top.specs.Limits.{plan_calls}
use Rattle.cu_top.proofs.prepare.prepare.Goals as goal

pub returns-in-Err-clause-refused : goal.returns-in-Err-clause-refused
returns-in-Err-clause-refused g c = λ source next sink after lack.
    refused_ran lack (case c.args.options.now c.args.text.now (scene source sink (g.D.PutStore.shown c.args.depot.now)) (scene next after (g.D.PutStore.shown c.plan_job.new.depot))) c.in-Err.status
    (c.in-Err.ensures.refused source next sink after)

pub returns-in-Ok-ask_plan-clause-cleared : goal.returns-in-Ok-ask_plan-clause-cleared
returns-in-Ok-ask_plan-clause-cleared g c = record {
  accepted = c.in-Ok.ensures.job;
  planned = c.in-Ok.ensures.planned;
  own = c.in-Ok-ask_plan.ensures.apart;
  free = λ entry told.
      all_free (g.D.PutStore.shown c.args.depot.now) (g.D.PutStore.shown c.plan_job.new.depot) c.plan_job.ensures.step entry told (asked_keys c.args.options.now c.in-Ok.prepared.job)
      (λ now is. c.in-Ok-ask_plan.ensures.free c.args.options.now now c.in-Ok.ensures.plan is);
  spared = stepped_then c.plan_job.ensures.step c.ask_plan.ensures.step;
}

pub returns-in-Err-ask_plan-clause-refused : goal.returns-in-Err-ask_plan-clause-refused
returns-in-Err-ask_plan-clause-refused g c = λ source next sink after lack.
    let run = case c.args.options.now c.args.text.now (scene source sink (g.D.PutStore.shown c.args.depot.now)) (scene next after (g.D.PutStore.shown c.ask_plan.new.depot)) in
    subst (λ (status : Status). Ran lack run status) (sym c.answer_of.ensures)
    (ask_refused lack run c.in-Ok.prepared.job (g.D.PutStore.shown c.plan_job.new.depot) c.in-Err-ask_plan.fault c.in-Ok.ensures.job c.in-Ok.ensures.planned
    c.plan_job.ensures.step c.ask_plan.ensures.step (c.in-Err-ask_plan.ensures.refused c.args.options.now c.in-Ok.ensures.plan))

pub returns-in-Err-clause-refused_calls : goal.returns-in-Err-clause-refused_calls
returns-in-Err-clause-refused_calls g c = λ source next sink after. inl c.plan_job.ensures.calls

pub returns-in-Ok-ask_plan-clause-calls : goal.returns-in-Ok-ask_plan-clause-calls
returns-in-Ok-ask_plan-clause-calls g c =
    let planned = c.plan_job.ensures.calls in
    let asked = c.ask_plan.ensures.calls c.args.options.now c.in-Ok.ensures.plan in
    omega (arith, planned, asked)

pub returns-in-Err-ask_plan-clause-refused_calls : goal.returns-in-Err-ask_plan-clause-refused_calls
returns-in-Err-ask_plan-clause-refused_calls g c = λ source next sink after.
    let run = case c.args.options.now c.args.text.now (scene source sink (g.D.PutStore.shown c.args.depot.now)) (scene next after (g.D.PutStore.shown c.ask_plan.new.depot)) in
    let planned = c.plan_job.ensures.calls in
    let asked = c.ask_plan.ensures.calls c.args.options.now c.in-Ok.ensures.plan in
    subst (RunWithin run) (sym c.answer_of.ensures)
    (asked_within run c.in-Ok.prepared.job c.in-Ok.ensures.job c.in-Ok.ensures.planned c.in-Err-ask_plan.fault (omega (arith, planned, asked)))

pub returns-in-Err-clause-unbegun : goal.returns-in-Err-clause-unbegun
returns-in-Err-clause-unbegun g c = λ source next sink after.
    refused_begins (case c.args.options.now c.args.text.now (scene source sink (g.D.PutStore.shown c.args.depot.now)) (scene next after (g.D.PutStore.shown c.plan_job.new.depot))) c.in-Err.status
    (c.in-Err.ensures.refused source next sink after)

pub returns-in-Err-clause-unbegun_calls : goal.returns-in-Err-clause-unbegun_calls
returns-in-Err-clause-unbegun_calls g c = λ source next sink after. inl c.plan_job.ensures.calls

pub returns-in-Err-ask_plan-clause-unbegun : goal.returns-in-Err-ask_plan-clause-unbegun
returns-in-Err-ask_plan-clause-unbegun g c = λ source next sink after.
    let run = case c.args.options.now c.args.text.now (scene source sink (g.D.PutStore.shown c.args.depot.now)) (scene next after (g.D.PutStore.shown c.ask_plan.new.depot)) in
    subst (λ (status : Status). WasBegun run status) (sym c.answer_of.ensures)
    (ask_unbegun run c.in-Ok.prepared.job (g.D.PutStore.shown c.plan_job.new.depot) c.in-Err-ask_plan.fault c.in-Ok.ensures.job c.in-Ok.ensures.planned
    c.plan_job.ensures.step c.ask_plan.ensures.step (c.in-Err-ask_plan.ensures.refused c.args.options.now c.in-Ok.ensures.plan))

pub returns-in-Err-ask_plan-clause-unbegun_calls : goal.returns-in-Err-ask_plan-clause-unbegun_calls
returns-in-Err-ask_plan-clause-unbegun_calls g c = λ source next sink after.
    let run = case c.args.options.now c.args.text.now (scene source sink (g.D.PutStore.shown c.args.depot.now)) (scene next after (g.D.PutStore.shown c.ask_plan.new.depot)) in
    let planned = c.plan_job.ensures.calls in
    let asked = c.ask_plan.ensures.calls c.args.options.now c.in-Ok.ensures.plan in
    subst (BeginWithin run) (sym c.answer_of.ensures)
    (begin_asked_within run c.in-Ok.prepared.job c.in-Ok.ensures.job c.in-Ok.ensures.planned c.in-Err-ask_plan.fault (omega (arith, planned, asked)))

pub returns-in-Ok-ask_plan-clause-once : goal.returns-in-Ok-ask_plan-clause-once
returns-in-Ok-ask_plan-clause-once g c =
    once_then (plan_calls 1 c.args.text.now) (length (asked_keys c.args.options.now c.in-Ok.prepared.job)) (g.D.PutStore.shown c.args.depot.now) (g.D.PutStore.shown c.plan_job.new.depot)
    (g.D.PutStore.shown c.ask_plan.new.depot) c.plan_job.ensures.once (c.ask_plan.ensures.once c.args.options.now c.in-Ok.ensures.plan)
