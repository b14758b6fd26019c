use Rattle.std.proofs.Common.{ℕ, ◌+◌, ◌*◌, ◌≤◌, length, subst, sym, arith}
use Rattle.cu_command.specs.Seen.{stream}
use Rattle.cu_command.specs.Streams.{WroteFront}
use Rattle.cu_command.specs.declared.job.Job.{Job}
use Rattle.cu_op.specs.PlanView.{PlanView}
use Rattle.cu_top.proofs.RunLemmas.{run_done, run_unreported}
use Rattle.cu_top.specs.Report.{report_line}
use Rattle.cu_top.specs.Run.{scene, case, IsCleared}
use Rattle.cu_command.specs.Seen.{WithinCalls}
use Rattle.cu_command.specs.declared.status.Status.TheVariants.{Done, WriteFault}
use Rattle.cu_top.proofs.CallLimits.{asked_within, run_within, starts_then}
use Rattle.cu_top.specs.Calls.{run_limits}
use Rattle.cu_top.specs.Limits.{plan_calls}
use Rattle.cu_top.specs.Prepare.{asked_keys, job_plan}
use Rattle.cu_store.specs.Steps.{OnceEach}
use Rattle.cu_work.specs.declared.way.WayFault.TheVariants as way
use Rattle.cu_top.proofs.run.run.Goals as goal

pub store_plan-requires-clause-quiet : goal.store_plan-requires-clause-quiet
store_plan-requires-clause-quiet g c κs within =
    let start = g.D.PutStore.shown c.args.depot.now in
    let cleared = subst (λ (job : Job). IsCleared c.args.options.now c.args.text.now start (g.D.PutStore.shown c.prepare.new.depot) job) (sym c.in-Ok-make_ready.ensures.job) c.in-Ok.ensures.cleared in
    (c.args.text.now, start, cleared, c.requires.quiet)

pub returns-in-Err-clause-answer : goal.returns-in-Err-clause-answer
returns-in-Err-clause-answer g c = λ source next.
    let out = stream (g.W.Sink.written c.args.out.now) (g.W.Sink.faults c.args.out.now) in
    c.in-Err.ensures.refused source next out out (g.D.SharedStore.yards_lack c.prepare.new.depot)

pub returns-in-Ok-report-clause-answer : goal.returns-in-Ok-report-clause-answer
returns-in-Ok-report-clause-answer g c = λ source next.
    let start = g.D.PutStore.shown c.args.depot.now in
    let now = g.D.PutStore.shown c.store_plan.new.depot in
    let out = stream (g.W.Sink.written c.args.out.now) (g.W.Sink.faults c.args.out.now) in
    let after = stream (g.W.Sink.written c.report.new.out) (g.W.Sink.faults c.report.new.out) in
    let job = c.in-Ok-make_ready.ready.job in
    let counts = c.in-Ok-store_plan.counts in
    let cleared = subst (λ (j : Job). IsCleared c.args.options.now c.args.text.now start (g.D.PutStore.shown c.prepare.new.depot) j) (sym c.in-Ok-make_ready.ensures.job) c.in-Ok.ensures.cleared in
    let once = subst (λ (j : Job). OnceEach (plan_calls 1 c.args.text.now + length (asked_keys c.args.options.now j)) start (g.D.PutStore.shown c.prepare.new.depot)) (sym c.in-Ok-make_ready.ensures.job) c.in-Ok.ensures.once in
    run_done (g.D.SharedStore.yards_lack c.store_plan.new.depot) (case c.args.options.now c.args.text.now (scene source out start) (scene next after now)) job counts
    (c.in-Ok-store_plan.ensures.ended c.args.text.now start source next out after (plan_calls 1 c.args.text.now + length (asked_keys c.args.options.now job)) cleared once)
    (starts_then (run_limits c.args.options.now c.args.text.now job).asked (3 * (c.args.options.now.retries + 1)) (run_limits c.args.options.now c.args.text.now job).begun
    (job_plan c.args.options.now job) counts start (g.D.PutStore.shown c.prepare.new.depot) now
    (subst (λ (j : Job). WithinCalls (run_limits c.args.options.now c.args.text.now j).asked start (g.D.PutStore.shown c.prepare.new.depot)) (sym c.in-Ok-make_ready.ensures.job) c.in-Ok.ensures.calls)
    (omega arith) c.in-Ok-store_plan.ensures.starts)
    (subst (λ (p : PlanView). WroteFront out.told after.told (report_line p counts) (length (report_line p counts))) c.in-Ok-make_ready.ensures.ready.plan_is c.in-Ok-report.ensures.all)

pub returns-in-Ok-store_plan-clause-answer : goal.returns-in-Ok-store_plan-clause-answer
returns-in-Ok-store_plan-clause-answer g c = λ source next.
    let start = g.D.PutStore.shown c.args.depot.now in
    let now = g.D.PutStore.shown c.store_plan.new.depot in
    let out = stream (g.W.Sink.written c.args.out.now) (g.W.Sink.faults c.args.out.now) in
    let after = stream (g.W.Sink.written c.report.new.out) (g.W.Sink.faults c.report.new.out) in
    let job = c.in-Ok-make_ready.ready.job in
    let counts = c.in-Ok-store_plan.counts in
    let cleared = subst (λ (j : Job). IsCleared c.args.options.now c.args.text.now start (g.D.PutStore.shown c.prepare.new.depot) j) (sym c.in-Ok-make_ready.ensures.job) c.in-Ok.ensures.cleared in
    let once = subst (λ (j : Job). OnceEach (plan_calls 1 c.args.text.now + length (asked_keys c.args.options.now j)) start (g.D.PutStore.shown c.prepare.new.depot)) (sym c.in-Ok-make_ready.ensures.job) c.in-Ok.ensures.once in
    run_unreported (g.D.SharedStore.yards_lack c.store_plan.new.depot) (case c.args.options.now c.args.text.now (scene source out start) (scene next after now)) job counts
    (c.in-Ok-store_plan.ensures.ended c.args.text.now start source next out after (plan_calls 1 c.args.text.now + length (asked_keys c.args.options.now job)) cleared once)
    (starts_then (run_limits c.args.options.now c.args.text.now job).asked (3 * (c.args.options.now.retries + 1)) (run_limits c.args.options.now c.args.text.now job).begun
    (job_plan c.args.options.now job) counts start (g.D.PutStore.shown c.prepare.new.depot) now
    (subst (λ (j : Job). WithinCalls (run_limits c.args.options.now c.args.text.now j).asked start (g.D.PutStore.shown c.prepare.new.depot)) (sym c.in-Ok-make_ready.ensures.job) c.in-Ok.ensures.calls)
    (omega arith) c.in-Ok-store_plan.ensures.starts) c.in-Err-report.ensures.cause
    (subst (λ (p : PlanView). (n : ℕ) × (n ≤ length (report_line p counts)) × WroteFront out.told after.told (report_line p counts) n) c.in-Ok-make_ready.ensures.ready.plan_is
    c.in-Err-report.ensures.front)

pub returns-clause-answer : goal.returns-clause-answer
returns-clause-answer g c = λ source next.
    let start = g.D.PutStore.shown c.args.depot.now in
    let out = stream (g.W.Sink.written c.args.out.now) (g.W.Sink.faults c.args.out.now) in
    let cleared = subst (λ (j : Job). IsCleared c.args.options.now c.args.text.now start (g.D.PutStore.shown c.prepare.new.depot) j) (sym c.in-Ok-make_ready.ensures.job) c.in-Ok.ensures.cleared in
    let once = subst (λ (j : Job). OnceEach (plan_calls 1 c.args.text.now + length (asked_keys c.args.options.now j)) start (g.D.PutStore.shown c.prepare.new.depot)) (sym c.in-Ok-make_ready.ensures.job) c.in-Ok.ensures.once in
    c.in-Err-store_plan.ensures.ended c.args.text.now start source next out out (plan_calls 1 c.args.text.now + length (asked_keys c.args.options.now c.in-Ok-make_ready.ready.job)) cleared once

pub returns-in-Err-clause-calls : goal.returns-in-Err-clause-calls
returns-in-Err-clause-calls g c = λ source next sink after. c.in-Err.ensures.refused_calls source next sink after

pub returns-in-Ok-report-clause-calls : goal.returns-in-Ok-report-clause-calls
returns-in-Ok-report-clause-calls g c = λ source next sink after.
    let start = g.D.PutStore.shown c.args.depot.now in
    let mid = g.D.PutStore.shown c.prepare.new.depot in
    let options = c.args.options.now in
    let job = c.in-Ok-make_ready.ready.job in
    let run = case options c.args.text.now (scene source sink start) (scene next after (g.D.PutStore.shown c.store_plan.new.depot)) in
    let cleared = subst (λ (j : Job). IsCleared options c.args.text.now start mid j) (sym c.in-Ok-make_ready.ensures.job) c.in-Ok.ensures.cleared in
    let first = subst (λ (j : Job). WithinCalls (run_limits options c.args.text.now j).asked start mid) (sym c.in-Ok-make_ready.ensures.job) c.in-Ok.ensures.calls in
    run_within run job cleared.accepted cleared.planned mid first Done c.in-Ok-store_plan.ensures.calls

pub returns-in-Ok-store_plan-clause-calls : goal.returns-in-Ok-store_plan-clause-calls
returns-in-Ok-store_plan-clause-calls g c = λ source next sink after.
    let start = g.D.PutStore.shown c.args.depot.now in
    let mid = g.D.PutStore.shown c.prepare.new.depot in
    let options = c.args.options.now in
    let job = c.in-Ok-make_ready.ready.job in
    let run = case options c.args.text.now (scene source sink start) (scene next after (g.D.PutStore.shown c.store_plan.new.depot)) in
    let cleared = subst (λ (j : Job). IsCleared options c.args.text.now start mid j) (sym c.in-Ok-make_ready.ensures.job) c.in-Ok.ensures.cleared in
    let first = subst (λ (j : Job). WithinCalls (run_limits options c.args.text.now j).asked start mid) (sym c.in-Ok-make_ready.ensures.job) c.in-Ok.ensures.calls in
    run_within run job cleared.accepted cleared.planned mid first WriteFault c.in-Ok-store_plan.ensures.calls

pub returns-clause-calls : goal.returns-clause-calls
returns-clause-calls g c = λ source next sink after.
    let start = g.D.PutStore.shown c.args.depot.now in
    let mid = g.D.PutStore.shown c.prepare.new.depot in
    let options = c.args.options.now in
    let job = c.in-Ok-make_ready.ready.job in
    let run = case options c.args.text.now (scene source sink start) (scene next after (g.D.PutStore.shown c.store_plan.new.depot)) in
    let cleared = subst (λ (j : Job). IsCleared options c.args.text.now start mid j) (sym c.in-Ok-make_ready.ensures.job) c.in-Ok.ensures.cleared in
    let first = subst (λ (j : Job). WithinCalls (run_limits options c.args.text.now j).asked start mid) (sym c.in-Ok-make_ready.ensures.job) c.in-Ok.ensures.calls in
    run_within run job cleared.accepted cleared.planned mid first c.in-Err-store_plan.status c.in-Err-store_plan.ensures.stopped_calls

pub returns-in_default-clause-calls : goal.returns-in_default-clause-calls
returns-in_default-clause-calls g c = λ source next sink after.
    let run = case c.args.options.now c.args.text.now (scene source sink (g.D.PutStore.shown c.args.depot.now)) (scene next after (g.D.PutStore.shown c.prepare.new.depot)) in
    asked_within run c.in-Ok.prepared.job c.in-Ok.ensures.cleared.accepted c.in-Ok.ensures.cleared.planned way.NoMemory c.in-Ok.ensures.calls
