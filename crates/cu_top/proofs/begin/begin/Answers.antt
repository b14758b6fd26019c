use Rattle.std.proofs.Common.{◌∙◌, ap, subst, sym}
use Rattle.cu_command.specs.Seen.{stream, WithinCalls}
use Rattle.cu_command.specs.declared.job.Job.{Job}
use Rattle.cu_plan.specs.Text.{begun_text}
use Rattle.cu_work.specs.declared.way.WayFault.TheVariants as way
use Rattle.cu_top.proofs.BeginLemmas.{begin_asked_within, begun_done, begun_done_within, begun_ended_within, begun_unprinted_within, begun_unwritten}
use Rattle.cu_top.specs.Begin.{begin_limits}
use Rattle.cu_top.specs.Run.{scene, case, IsCleared}
use Rattle.cu_top.proofs.begin.begin.Goals as goal

pub returns-in-Err-clause-answer : goal.returns-in-Err-clause-answer
returns-in-Err-clause-answer g c = λ source next.
    let out = stream (g.W.Sink.written c.args.out.now) (g.W.Sink.faults c.args.out.now) in
    c.in-Err.ensures.unbegun source next out out

pub returns-in-Err-clause-calls : goal.returns-in-Err-clause-calls
returns-in-Err-clause-calls g c = λ source next sink after. c.in-Err.ensures.unbegun_calls source next sink after

pub returns-in_default-clause-calls : goal.returns-in_default-clause-calls
returns-in_default-clause-calls g c = λ source next sink after.
    let run = case c.args.options.now c.args.text.now (scene source sink (g.D.PutStore.shown c.args.depot.now)) (scene next after (g.D.PutStore.shown c.prepare.new.depot)) in
    begin_asked_within run c.in-Ok.prepared.job c.in-Ok.ensures.cleared.accepted c.in-Ok.ensures.cleared.planned way.NoMemory c.in-Ok.ensures.calls

pub returns-in_default-begun_text-clause-calls : goal.returns-in_default-begun_text-clause-calls
returns-in_default-begun_text-clause-calls g c = λ source next sink after.
    let run = case c.args.options.now c.args.text.now (scene source sink (g.D.PutStore.shown c.args.depot.now)) (scene next after (g.D.PutStore.shown c.prepare.new.depot)) in
    begin_asked_within run c.in-Ok.prepared.job c.in-Ok.ensures.cleared.accepted c.in-Ok.ensures.cleared.planned way.NoMemory c.in-Ok.ensures.calls

pub returns-in-Err-store_ready-clause-answer : goal.returns-in-Err-store_ready-clause-answer
returns-in-Err-store_ready-clause-answer g c = λ source next.
    let start = g.D.PutStore.shown c.args.depot.now in
    let mid = g.D.PutStore.shown c.prepare.new.depot in
    let now = g.D.PutStore.shown c.store_ready.new.depot in
    let options = c.args.options.now in
    let out = stream (g.W.Sink.written c.args.out.now) (g.W.Sink.faults c.args.out.now) in
    let cleared = subst (λ (j : Job). IsCleared options c.args.text.now start mid j) (sym c.in-Ok-make_ready.ensures.job) c.in-Ok.ensures.cleared in
    c.in-Err-store_ready.ensures.ended c.args.text.now start source next out out cleared

pub returns-in-Err-store_ready-clause-calls : goal.returns-in-Err-store_ready-clause-calls
returns-in-Err-store_ready-clause-calls g c = λ source next sink after.
    let start = g.D.PutStore.shown c.args.depot.now in
    let mid = g.D.PutStore.shown c.prepare.new.depot in
    let now = g.D.PutStore.shown c.store_ready.new.depot in
    let options = c.args.options.now in
    let job = c.in-Ok-make_ready.ready.job in
    let run = case options c.args.text.now (scene source sink start) (scene next after now) in
    let cleared = subst (λ (j : Job). IsCleared options c.args.text.now start mid j) (sym c.in-Ok-make_ready.ensures.job) c.in-Ok.ensures.cleared in
    let first = subst (λ (j : Job). WithinCalls (begin_limits options c.args.text.now j).asked start mid) (sym c.in-Ok-make_ready.ensures.job) c.in-Ok.ensures.calls in
    begun_ended_within run job cleared.accepted cleared.planned mid first c.store_ready.ensures.calls c.in-Err-store_ready.status c.in-Err-store_ready.ensures.stopped

pub returns-in-Ok-write_all-clause-answer : goal.returns-in-Ok-write_all-clause-answer
returns-in-Ok-write_all-clause-answer g c = λ source next.
    let start = g.D.PutStore.shown c.args.depot.now in
    let mid = g.D.PutStore.shown c.prepare.new.depot in
    let now = g.D.PutStore.shown c.store_ready.new.depot in
    let options = c.args.options.now in
    let out = stream (g.W.Sink.written c.args.out.now) (g.W.Sink.faults c.args.out.now) in
    let after = stream (g.W.Sink.written c.write_all.new.out) (g.W.Sink.faults c.write_all.new.out) in
    let job = c.in-Ok-make_ready.ready.job in
    let run = case options c.args.text.now (scene source out start) (scene next after now) in
    let cleared = subst (λ (j : Job). IsCleared options c.args.text.now start mid j) (sym c.in-Ok-make_ready.ensures.job) c.in-Ok.ensures.cleared in
    begun_done run job c.deref.result.now (c.in-Ok-store_ready.ensures.ended c.args.text.now start source next out after cleared) (c.deref.ensures.value ∙ c.in-Ok-begun_text.ensures ∙ ap begun_text c.in-Ok-make_ready.ensures.ready.plan_is) c.in-Ok-write_all.ensures.all

pub returns-clause-answer : goal.returns-clause-answer
returns-clause-answer g c = λ source next.
    let start = g.D.PutStore.shown c.args.depot.now in
    let mid = g.D.PutStore.shown c.prepare.new.depot in
    let now = g.D.PutStore.shown c.store_ready.new.depot in
    let options = c.args.options.now in
    let out = stream (g.W.Sink.written c.args.out.now) (g.W.Sink.faults c.args.out.now) in
    let after = stream (g.W.Sink.written c.write_all.new.out) (g.W.Sink.faults c.write_all.new.out) in
    let job = c.in-Ok-make_ready.ready.job in
    let run = case options c.args.text.now (scene source out start) (scene next after now) in
    let cleared = subst (λ (j : Job). IsCleared options c.args.text.now start mid j) (sym c.in-Ok-make_ready.ensures.job) c.in-Ok.ensures.cleared in
    begun_unwritten run job c.deref.result.now (c.in-Ok-store_ready.ensures.ended c.args.text.now start source next out after cleared) (c.deref.ensures.value ∙ c.in-Ok-begun_text.ensures ∙ ap begun_text c.in-Ok-make_ready.ensures.ready.plan_is)
    c.in-Err-write_all.ensures.cause c.in-Err-write_all.ensures.front

pub returns-in-Ok-write_all-clause-calls : goal.returns-in-Ok-write_all-clause-calls
returns-in-Ok-write_all-clause-calls g c = λ source next sink after.
    let start = g.D.PutStore.shown c.args.depot.now in
    let mid = g.D.PutStore.shown c.prepare.new.depot in
    let now = g.D.PutStore.shown c.store_ready.new.depot in
    let options = c.args.options.now in
    let job = c.in-Ok-make_ready.ready.job in
    let run = case options c.args.text.now (scene source sink start) (scene next after now) in
    let cleared = subst (λ (j : Job). IsCleared options c.args.text.now start mid j) (sym c.in-Ok-make_ready.ensures.job) c.in-Ok.ensures.cleared in
    let first = subst (λ (j : Job). WithinCalls (begin_limits options c.args.text.now j).asked start mid) (sym c.in-Ok-make_ready.ensures.job) c.in-Ok.ensures.calls in
    begun_done_within run job cleared.accepted cleared.planned mid first c.store_ready.ensures.calls

pub returns-clause-calls : goal.returns-clause-calls
returns-clause-calls g c = λ source next sink after.
    let start = g.D.PutStore.shown c.args.depot.now in
    let mid = g.D.PutStore.shown c.prepare.new.depot in
    let now = g.D.PutStore.shown c.store_ready.new.depot in
    let options = c.args.options.now in
    let job = c.in-Ok-make_ready.ready.job in
    let run = case options c.args.text.now (scene source sink start) (scene next after now) in
    let cleared = subst (λ (j : Job). IsCleared options c.args.text.now start mid j) (sym c.in-Ok-make_ready.ensures.job) c.in-Ok.ensures.cleared in
    let first = subst (λ (j : Job). WithinCalls (begin_limits options c.args.text.now j).asked start mid) (sym c.in-Ok-make_ready.ensures.job) c.in-Ok.ensures.calls in
    begun_unprinted_within run job cleared.accepted cleared.planned mid first c.store_ready.ensures.calls
