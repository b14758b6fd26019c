use Rattle.std.proofs.Common.{subst, sym, All}
use Rattle.cu_expr.specs.declared.inputs.InputInfo.{InputInfo}
use Rattle.cu_op.specs.Layout.{IsLayout}
use Rattle.cu_command.proofs.SeenLemmas.{stepped}
use Rattle.cu_top.proofs.PlannedLemmas.{job_refused, plan_refused}
use Rattle.cu_top.proofs.PrepareLemmas.{read_layouts}
use Rattle.cu_top.specs.Planned.{IsPlanRefused}
use Rattle.cu_top.specs.Run.{scene, case}
use Rattle.cu_top.proofs.prepare.plan_job.Goals as goal

pub plan-requires-clause-layouts : goal.plan-requires-clause-layouts
plan-requires-clause-layouts g c =
    subst (All (λ (i : InputInfo). IsLayout i.layout)) (sym c.deref.ensures.value) (read_layouts (g.D.PutStore.shown c.args.depot.now) c.in-Ok.job.inputs.items c.in-Ok.ensures.job.inputs)

pub returns-in-Err-clause-refused : goal.returns-in-Err-clause-refused
returns-in-Err-clause-refused g c = λ source next sink after.
    let run = case c.args.options.now c.args.text.now (scene source sink (g.D.PutStore.shown c.args.depot.now)) (scene next after (g.D.PutStore.shown c.read_job.new.depot)) in
    subst (IsPlanRefused run) (sym c.from.ensures) (job_refused run c.in-Err.fault (stepped c.read_job.ensures.step) c.in-Err.ensures.cause)

pub returns-in-Err-plan-clause-refused : goal.returns-in-Err-plan-clause-refused
returns-in-Err-plan-clause-refused g c = λ source next sink after.
    let run = case c.args.options.now c.args.text.now (scene source sink (g.D.PutStore.shown c.args.depot.now)) (scene next after (g.D.PutStore.shown c.read_job.new.depot)) in
    subst (IsPlanRefused run) (sym c.unplanned_status.ensures) (plan_refused run c.in-Ok.job c.in-Err-plan.fault (stepped c.read_job.ensures.step) c.in-Ok.ensures.job c.in-Err-plan.ensures.refused)

pub returns-in-Err-clause-step : goal.returns-in-Err-clause-step
returns-in-Err-clause-step g c = stepped c.read_job.ensures.step

pub returns-in-Err-plan-clause-step : goal.returns-in-Err-plan-clause-step
returns-in-Err-plan-clause-step g c = stepped c.read_job.ensures.step

pub returns-in-Ok-plan-clause-step : goal.returns-in-Ok-plan-clause-step
returns-in-Ok-plan-clause-step g c = stepped c.read_job.ensures.step

pub returns-in-Err-clause-calls : goal.returns-in-Err-clause-calls
returns-in-Err-clause-calls g c = c.read_job.ensures.step.calls.1

pub returns-in-Err-plan-clause-calls : goal.returns-in-Err-plan-clause-calls
returns-in-Err-plan-clause-calls g c = c.read_job.ensures.step.calls.1

pub returns-in-Ok-plan-clause-calls : goal.returns-in-Ok-plan-clause-calls
returns-in-Ok-plan-clause-calls g c = c.read_job.ensures.step.calls.1

pub returns-in-Err-clause-once : goal.returns-in-Err-clause-once
returns-in-Err-clause-once g c = c.read_job.ensures.once

pub returns-in-Err-plan-clause-once : goal.returns-in-Err-plan-clause-once
returns-in-Err-plan-clause-once g c = c.read_job.ensures.once

pub returns-in-Ok-plan-clause-once : goal.returns-in-Ok-plan-clause-once
returns-in-Ok-plan-clause-once g c = c.read_job.ensures.once
