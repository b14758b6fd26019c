use Rattle.std.proofs.Common.{ℕ, ◌+◌, ◌*◌, ◌≤◌, Ok, length, subst, arith}
use Rattle.cu_command.specs.Seen.{stream}
use Rattle.cu_command.specs.Streams.{WroteFront}
use Rattle.cu_op.specs.PlanView.{PlanView}
use Rattle.cu_top.proofs.ReopenLemmas.{not_reopened, resume_done, resume_unreported}
use Rattle.cu_top.specs.Limits.{plan_calls, resume_limits}
use Rattle.cu_top.specs.Prepare.{job_plan, keys_of}
use Rattle.cu_top.specs.Report.{report_line}
use Rattle.cu_top.specs.Resume.{ResumeEnded}
use Rattle.cu_top.specs.Run.{scene, case}
use Rattle.cu_command.specs.declared.status.Status.TheVariants.{Done, WriteFault}
use Rattle.cu_top.proofs.CallLimits.{resume_refused, resume_within, starts_then}
use Rattle.cu_top.proofs.resume.resume.Goals as goal

pub go_on-requires-clause-left : goal.go_on-requires-clause-left
go_on-requires-clause-left g c κs within = (c.args.text.now, g.D.PutStore.shown c.args.depot.now, c.in-Ok.ensures.found, c.requires.left)

pub returns-in-Err-clause-answer : goal.returns-in-Err-clause-answer
returns-in-Err-clause-answer g c = λ source next.
    let out = stream (g.W.Sink.written c.args.out.now) (g.W.Sink.faults c.args.out.now) in
    not_reopened (g.D.SharedStore.yards_lack c.reopen.new.depot) (case c.args.options.now c.args.text.now (scene source out (g.D.PutStore.shown c.args.depot.now)) (scene next out (g.D.PutStore.shown c.reopen.new.depot)))
    c.requires.left c.in-Err.status
    (c.in-Err.ensures.refused source next out out)

pub returns-in-Ok-report-clause-answer : goal.returns-in-Ok-report-clause-answer
returns-in-Ok-report-clause-answer g c = λ source next.
    let start = g.D.PutStore.shown c.args.depot.now in
    let now = g.D.PutStore.shown c.go_on.new.depot in
    let out = stream (g.W.Sink.written c.args.out.now) (g.W.Sink.faults c.args.out.now) in
    let after = stream (g.W.Sink.written c.report.new.out) (g.W.Sink.faults c.report.new.out) in
    let counts = c.in-Ok-go_on.counts in
    resume_done (g.D.SharedStore.yards_lack c.go_on.new.depot) (case c.args.options.now c.args.text.now (scene source out start) (scene next after now)) c.in-Ok.ready.job counts
    (subst (λ (keys : ℕ). ResumeEnded (g.D.SharedStore.yards_lack c.go_on.new.depot) (case c.args.options.now c.args.text.now (scene source out start) (scene next after now)) c.in-Ok.ready.job keys (Ok counts))
    (omega arith) (c.in-Ok-go_on.ensures.ended c.args.text.now start source next out after (plan_calls 1 c.args.text.now + 1) c.in-Ok.ensures.found c.requires.left c.reopen.ensures.once))
    (starts_then (plan_calls (c.args.options.now.retries + 1) c.args.text.now + (c.args.options.now.retries + 1))
    ((length (keys_of c.args.options.now c.in-Ok.ready.job) + 1) * (c.args.options.now.retries + 1)) (resume_limits c.args.options.now c.args.text.now c.in-Ok.ready.job).begun
    (job_plan c.args.options.now c.in-Ok.ready.job) counts start (g.D.PutStore.shown c.reopen.new.depot) now c.reopen.ensures.calls (omega arith)
    c.in-Ok-go_on.ensures.starts)
    (subst (λ (p : PlanView). WroteFront out.told after.told (report_line p counts) (length (report_line p counts))) c.in-Ok.ensures.ready.plan_is c.in-Ok-report.ensures.all)

pub returns-in-Ok-go_on-clause-answer : goal.returns-in-Ok-go_on-clause-answer
returns-in-Ok-go_on-clause-answer g c = λ source next.
    let start = g.D.PutStore.shown c.args.depot.now in
    let now = g.D.PutStore.shown c.go_on.new.depot in
    let out = stream (g.W.Sink.written c.args.out.now) (g.W.Sink.faults c.args.out.now) in
    let after = stream (g.W.Sink.written c.report.new.out) (g.W.Sink.faults c.report.new.out) in
    let counts = c.in-Ok-go_on.counts in
    resume_unreported (g.D.SharedStore.yards_lack c.go_on.new.depot) (case c.args.options.now c.args.text.now (scene source out start) (scene next after now)) c.in-Ok.ready.job counts
    (subst (λ (keys : ℕ). ResumeEnded (g.D.SharedStore.yards_lack c.go_on.new.depot) (case c.args.options.now c.args.text.now (scene source out start) (scene next after now)) c.in-Ok.ready.job keys (Ok counts))
    (omega arith) (c.in-Ok-go_on.ensures.ended c.args.text.now start source next out after (plan_calls 1 c.args.text.now + 1) c.in-Ok.ensures.found c.requires.left c.reopen.ensures.once))
    (starts_then (plan_calls (c.args.options.now.retries + 1) c.args.text.now + (c.args.options.now.retries + 1))
    ((length (keys_of c.args.options.now c.in-Ok.ready.job) + 1) * (c.args.options.now.retries + 1)) (resume_limits c.args.options.now c.args.text.now c.in-Ok.ready.job).begun
    (job_plan c.args.options.now c.in-Ok.ready.job) counts start (g.D.PutStore.shown c.reopen.new.depot) now c.reopen.ensures.calls (omega arith)
    c.in-Ok-go_on.ensures.starts) c.in-Err-report.ensures.cause
    (subst (λ (p : PlanView). (n : ℕ) × (n ≤ length (report_line p counts)) × WroteFront out.told after.told (report_line p counts) n) c.in-Ok.ensures.ready.plan_is
    c.in-Err-report.ensures.front)

pub returns-in-Err-clause-calls : goal.returns-in-Err-clause-calls
returns-in-Err-clause-calls g c = λ source next sink after.
    resume_refused (case c.args.options.now c.args.text.now (scene source sink (g.D.PutStore.shown c.args.depot.now)) (scene next after (g.D.PutStore.shown c.reopen.new.depot))) c.in-Err.status
    (c.in-Err.ensures.refused_calls source next sink after)

pub returns-in-Ok-report-clause-calls : goal.returns-in-Ok-report-clause-calls
returns-in-Ok-report-clause-calls g c = λ source next sink after.
    let run = case c.args.options.now c.args.text.now (scene source sink (g.D.PutStore.shown c.args.depot.now)) (scene next after (g.D.PutStore.shown c.go_on.new.depot)) in
    let found = c.in-Ok.ensures.found in
    resume_within run c.in-Ok.ready.job found.accepted found.planned (g.D.PutStore.shown c.reopen.new.depot) c.reopen.ensures.calls Done c.in-Ok-go_on.ensures.calls

pub returns-in-Ok-go_on-clause-calls : goal.returns-in-Ok-go_on-clause-calls
returns-in-Ok-go_on-clause-calls g c = λ source next sink after.
    let run = case c.args.options.now c.args.text.now (scene source sink (g.D.PutStore.shown c.args.depot.now)) (scene next after (g.D.PutStore.shown c.go_on.new.depot)) in
    let found = c.in-Ok.ensures.found in
    resume_within run c.in-Ok.ready.job found.accepted found.planned (g.D.PutStore.shown c.reopen.new.depot) c.reopen.ensures.calls WriteFault c.in-Ok-go_on.ensures.calls

pub returns-clause-calls : goal.returns-clause-calls
returns-clause-calls g c = λ source next sink after.
    let run = case c.args.options.now c.args.text.now (scene source sink (g.D.PutStore.shown c.args.depot.now)) (scene next after (g.D.PutStore.shown c.go_on.new.depot)) in
    let found = c.in-Ok.ensures.found in
    resume_within run c.in-Ok.ready.job found.accepted found.planned (g.D.PutStore.shown c.reopen.new.depot) c.reopen.ensures.calls c.in-Err-go_on.status c.in-Err-go_on.ensures.stopped_calls

pub returns-clause-answer : goal.returns-clause-answer
returns-clause-answer g c = λ source next.
    let out = stream (g.W.Sink.written c.args.out.now) (g.W.Sink.faults c.args.out.now) in
    c.in-Err-go_on.ensures.ended c.args.text.now (g.D.PutStore.shown c.args.depot.now) source next out out (plan_calls 1 c.args.text.now + 1) c.in-Ok.ensures.found c.requires.left c.reopen.ensures.once
