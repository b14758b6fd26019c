use Rattle.std.proofs.Common.{ℕ, sym, subst, arith}
use Rattle.std.specs.Prelude.{OnOk}
use Rattle.cu_store.proofs.Steps.{steps_wider}
use Rattle.cu_store.specs.Chunks.{Adds}
use Rattle.cu_store.specs.Steps.{NoChange, Steps}
use Rattle.cu_region.specs.Calls.{Made}
use Rattle.cu_task.proofs.InputReads.{on_err_more, on_ok_then}
use Rattle.cu_task.proofs.SlabReads.{fetched_calls, fetched_fault, fetched_key, fetched_tally, front_shows, on_ok_always}
use Rattle.cu_task.proofs.slab_jobs.fetch_shown.Goals as goal

pub fetch_front-requires-clause-may : goal.fetch_front-requires-clause-may
fetch_front-requires-clause-may g c key here = c.requires.may key (fetched_key c.args.task.now c.args.job.now c.requires.job key here)

pub fetch_front-requires-clause-chunk : goal.fetch_front-requires-clause-chunk
fetch_front-requires-clause-chunk g c = c.requires.job.only.of_source

pub fetch_front-requires-clause-front : goal.fetch_front-requires-clause-front
fetch_front-requires-clause-front g c = c.requires.job.front

pub returns-clause-read : goal.returns-clause-read
returns-clause-read g c held still =
    let long = c.fetch_front.auto.bytes in
    on_ok_then c.fetch_front.result
    (λ has. front_shows c.args.task.now c.args.job.now c.requires.job held (g.C.Chunks.shown c.args.access.now) (g.C.Chunks.shown c.fetch_front.new.access) c.fetch_front.new.bytes (omega (arith, long, c.requires.front)) still c.fetch_front.ensures.step has)
    c.fetch_front.ensures.read

pub returns-clause-step : goal.returns-clause-step
returns-clause-step g c =
    subst (λ (n : ℕ). Steps NoChange 0 n (g.C.Chunks.shown c.args.access.now) (g.C.Chunks.shown c.fetch_front.new.access)) (sym (fetched_calls c.args.task.now c.args.job.now c.requires.job))
    (steps_wider (λ key value none. none) (omega arith) (omega arith) c.fetch_front.ensures.step)

pub returns-clause-all : goal.returns-clause-all
returns-clause-all g c sure =
    let calls = c.fetch_front.ensures.step.calls in
    subst (λ (n : ℕ). OnOk c.fetch_front.result (Made n (g.C.Chunks.shown c.args.access.now).calls (g.C.Chunks.shown c.fetch_front.new.access).calls)) (sym (fetched_calls c.args.task.now c.args.job.now c.requires.job))
    (on_ok_always c.fetch_front.result (omega (arith, calls)))

pub returns-clause-called : goal.returns-clause-called
returns-clause-called g c sure =
    subst (λ (n : ℕ). OnOk c.fetch_front.result (Adds n (g.C.Chunks.tally c.args.access.now) (g.C.Chunks.tally c.fetch_front.new.access))) (sym (fetched_tally c.args.task.now c.args.job.now c.requires.job (g.C.Chunks.weight c.args.store.now)))
    (on_ok_always c.fetch_front.result c.fetch_front.ensures.called)

pub returns-clause-cause : goal.returns-clause-cause
returns-clause-cause g c =
    on_err_more c.fetch_front.result
    (λ e fault. fetched_fault c.args.task.now c.args.job.now c.requires.job (g.C.Chunks.shown c.args.access.now) (g.C.Chunks.shown c.fetch_front.new.access) e fault)
    c.fetch_front.ensures.cause
