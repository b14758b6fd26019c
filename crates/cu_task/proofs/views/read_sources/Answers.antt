use Rattle.std.proofs.Common.{ℕ, ◌+◌, ◌<◌, length, sym, subst, arith, ◌≡◌}
use Rattle.cu_store.specs.Faults.{Rose}
use Rattle.cu_store.specs.Steps.{NoChange, Steps}
use Rattle.cu_store.proofs.Steps.{steps_same, steps_then, steps_wider}
use Rattle.cu_store.specs.Chunks.{Adds}
use Rattle.cu_task.specs.ViewJobs.{buffer_in, job_weight, tally_for_sources, view_task_of}
use Rattle.cu_task.specs.Views.{view_calls, source_calls, sure_calls, IsAny, HasPulled}
use Rattle.cu_task.proofs.JobViews.{fitting}
use Rattle.cu_task.proofs.ViewChunks.{sure_none, sure_rose, view_calls_more, view_calls_within, view_tally_more}
use Rattle.cu_task.proofs.ViewElements.{known_later, takes_before, pulled_more}
use Rattle.cu_store.proofs.StaysOpen.{open_same, open_then}
use Rattle.std.proofs.lemmas.Result.{err_from_is_err_and}
use Rattle.cu_task.proofs.views.read_sources.Goals as goal

pub loop-source-init : goal.loop-source-init
loop-source-init g c = record {
  step = steps_same NoChange (g.C.Chunks.shown c.args.access.now);
  all = (let e = sure_none c.args.job.now.pull.now in omega (arith, e));
  open_ = open_same (g.C.Chunks.may_get c.args.store.now c.args.access.now) c.requires.belongs;
  pulled = λ told known pulled. pulled;
  called = λ exact. omega arith;
}

pub loop-source-preserved : goal.loop-source-preserved
loop-source-preserved g c =
    let n = c.loop-source.source in
    let below : c.loop-source.source < length c.args.job.now.ins.now = omega arith in
    let more = view_calls_more (view_task_of c.args.job.now) c.loop-source.source in
    let before = c.loop-source.invariant in
    record {
      step = steps_wider (λ key value none. none) (omega arith) (omega (arith, more)) (steps_then before.step c.read_source.ensures.step);
      all = subst (λ (m : ℕ). Rose (sure_calls c.args.job.now.pull.now m) (g.C.Chunks.shown c.args.access.now).calls (g.C.Chunks.shown c.read_source.new.access).calls) (sym more)
          (sure_rose c.args.job.now.pull.now (view_calls (view_task_of c.args.job.now) c.loop-source.source) (source_calls (view_task_of c.args.job.now) c.loop-source.source) (g.C.Chunks.shown c.args.access.now).calls (g.C.Chunks.shown c.loop-source.access).calls (g.C.Chunks.shown c.read_source.new.access).calls
          before.all c.in_ok-read_source.ensures.all);
      open_ = open_then before.open_ c.read_source.ensures.open;
      pulled = λ told known pulled.
          let later = known_later (view_task_of c.args.job.now) c.loop-source.source told 0 (view_calls (view_task_of c.args.job.now) c.loop-source.source) (g.C.Chunks.shown c.args.access.now) (g.C.Chunks.shown c.loop-source.access) (known c.loop-source.source below) before.step in
          pulled_more (view_task_of c.args.job.now) c.loop-source.source told (buffer_in (view_task_of c.args.job.now) c.loop-source.room) (buffer_in (view_task_of c.args.job.now) c.read_source.new.room) (before.pulled told known pulled)
          (takes_before (view_task_of c.args.job.now) (fitting c.args.job.now c.requires.job) c.loop-source.source IsAny told (g.C.Chunks.shown c.loop-source.access) later (buffer_in (view_task_of c.args.job.now) c.loop-source.room) (buffer_in (view_task_of c.args.job.now) c.read_source.new.room) (c.in_ok-read_source.ensures.takes later.now later.known));
      called = λ exact.
          let sums = view_tally_more (job_weight (g.C.Chunks.weight c.args.store.now) c.args.job.now) (view_task_of c.args.job.now) c.loop-source.source in
          let first = before.called exact in
          let second = c.in_ok-read_source.ensures.called exact in
          omega (arith, sums, first, second);
    }

pub returns-in_err-read_source-clause-step : goal.returns-in_err-read_source-clause-step
returns-in_err-read_source-clause-step g c =
    let below : c.loop-source.source < length c.args.job.now.ins.now = omega arith in
    let more = view_calls_more (view_task_of c.args.job.now) c.loop-source.source in
    let most = view_calls_within (view_task_of c.args.job.now) (c.loop-source.source + 1) (length c.args.job.now.ins.now) (omega arith) in
    steps_wider (λ key value none. none) (omega arith) (omega (arith, more, most)) (steps_then c.loop-source.invariant.step c.read_source.ensures.step)

pub read_source-requires-clause-belongs : goal.read_source-requires-clause-belongs
read_source-requires-clause-belongs g c = c.loop-source.invariant.open_.belongs

pub read_source-requires-clause-may : goal.read_source-requires-clause-may
read_source-requires-clause-may g c key here = c.loop-source.invariant.open_.gets key (c.requires.may c.loop-source.source (omega arith) key here)

pub returns-in_err-read_source-clause-open : goal.returns-in_err-read_source-clause-open
returns-in_err-read_source-clause-open g c = open_then c.loop-source.invariant.open_ c.read_source.ensures.open

pub returns-clause-open : goal.returns-clause-open
returns-clause-open g c = c.loop-source.invariant.open_

pub read_source-requires-clause-job : goal.read_source-requires-clause-job
read_source-requires-clause-job g c = c.requires.job

pub read_source-requires-clause-source : goal.read_source-requires-clause-source
read_source-requires-clause-source g c = omega arith

pub read_source-requires-clause-room : goal.read_source-requires-clause-room
read_source-requires-clause-room g c =
    let room = c.requires.room c.loop-source.source (omega arith) in
    let long = c.loop-source.auto.room in
    omega (arith, room, long)

pub returns-in_err-read_source-clause-pulled : goal.returns-in_err-read_source-clause-pulled
returns-in_err-read_source-clause-pulled g c told known pulled = let p = err_from_is_err_and c.from_residual.result c.from_residual.ensures.1 in rw p.1 tt

pub returns-in_err-read_source-clause-all : goal.returns-in_err-read_source-clause-all
returns-in_err-read_source-clause-all g c = let p = err_from_is_err_and c.from_residual.result c.from_residual.ensures.1 in rw p.1 tt

pub returns-clause-cause : goal.returns-clause-cause
returns-clause-cause g c = tt

pub returns-clause-step : goal.returns-clause-step
returns-clause-step g c = let all : c.loop-source.source ≡ length c.args.job.now.ins.now = omega arith in subst (λ (n : ℕ). Steps NoChange 0 (view_calls (view_task_of c.args.job.now) n) (g.C.Chunks.shown c.args.access.now) (g.C.Chunks.shown c.loop-source.access)) all c.loop-source.invariant.step

pub returns-clause-all : goal.returns-clause-all
returns-clause-all g c = let all : c.loop-source.source ≡ length c.args.job.now.ins.now = omega arith in subst (λ (n : ℕ). Rose (sure_calls c.args.job.now.pull.now (view_calls (view_task_of c.args.job.now) n)) (g.C.Chunks.shown c.args.access.now).calls (g.C.Chunks.shown c.loop-source.access).calls) all c.loop-source.invariant.all

pub returns-clause-called : goal.returns-clause-called
returns-clause-called g c exact = let all : c.loop-source.source ≡ length c.args.job.now.ins.now = omega arith in subst (λ (n : ℕ). Adds (tally_for_sources (g.C.Chunks.weight c.args.store.now) c.args.job.now n) (g.C.Chunks.tally c.args.access.now) (g.C.Chunks.tally c.loop-source.access)) all (c.loop-source.invariant.called exact)

pub returns-in_err-read_source-clause-called : goal.returns-in_err-read_source-clause-called
returns-in_err-read_source-clause-called g c exact = let p = err_from_is_err_and c.from_residual.result c.from_residual.ensures.1 in rw p.1 tt

pub returns-clause-pulled : goal.returns-clause-pulled
returns-clause-pulled g c told known pulled = let all : c.loop-source.source ≡ length c.args.job.now.ins.now = omega arith in subst (λ (n : ℕ). HasPulled (view_task_of c.args.job.now) n told (buffer_in (view_task_of c.args.job.now) c.loop-source.room)) all (c.loop-source.invariant.pulled told known pulled)
