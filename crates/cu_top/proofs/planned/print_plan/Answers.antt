use Rattle.std.proofs.Common.{◌∙◌, ap}
use Rattle.cu_command.specs.Seen.{stream}
use Rattle.cu_plan.specs.Text.{plan_text}
use Rattle.cu_top.proofs.PlannedLemmas.{refused_plans, plan_done, plan_unwritten}
use Rattle.cu_top.specs.Run.{scene, case}
use Rattle.cu_top.proofs.planned.print_plan.Goals as goal

pub returns-in-Err-clause-answer : goal.returns-in-Err-clause-answer
returns-in-Err-clause-answer g c = λ source next.
    let out = stream (g.W.Sink.written c.args.out.now) (g.W.Sink.faults c.args.out.now) in
    refused_plans (case c.args.options.now c.args.text.now (scene source out (g.D.PutStore.shown c.args.depot.now)) (scene next out (g.D.PutStore.shown c.plan_job.new.depot))) c.in-Err.status
    (c.in-Err.ensures.refused source next out out)

pub returns-in-Ok-write_all-clause-answer : goal.returns-in-Ok-write_all-clause-answer
returns-in-Ok-write_all-clause-answer g c = λ source next.
    let out = stream (g.W.Sink.written c.args.out.now) (g.W.Sink.faults c.args.out.now) in
    let after = stream (g.W.Sink.written c.write_all.new.out) (g.W.Sink.faults c.write_all.new.out) in
    plan_done (case c.args.options.now c.args.text.now (scene source out (g.D.PutStore.shown c.args.depot.now)) (scene next after (g.D.PutStore.shown c.plan_job.new.depot))) c.in-Ok.prepared.job
    c.deref.result.now c.in-Ok.ensures.step c.in-Ok.ensures.job c.in-Ok.ensures.planned (c.deref.ensures.value ∙ c.in-Ok-plan_text.ensures ∙ ap plan_text c.in-Ok.ensures.plan)
    c.in-Ok-write_all.ensures.all

pub returns-clause-answer : goal.returns-clause-answer
returns-clause-answer g c = λ source next.
    let out = stream (g.W.Sink.written c.args.out.now) (g.W.Sink.faults c.args.out.now) in
    let after = stream (g.W.Sink.written c.write_all.new.out) (g.W.Sink.faults c.write_all.new.out) in
    plan_unwritten (case c.args.options.now c.args.text.now (scene source out (g.D.PutStore.shown c.args.depot.now)) (scene next after (g.D.PutStore.shown c.plan_job.new.depot))) c.in-Ok.prepared.job
    c.deref.result.now c.in-Ok.ensures.step c.in-Ok.ensures.job c.in-Ok.ensures.planned (c.deref.ensures.value ∙ c.in-Ok-plan_text.ensures ∙ ap plan_text c.in-Ok.ensures.plan)
    c.in-Err-write_all.ensures.cause c.in-Err-write_all.ensures.front
