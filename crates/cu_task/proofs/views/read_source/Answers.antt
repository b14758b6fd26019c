use Rattle.cu_task.specs.ViewJobs.{job_weight, view_task_of}
use Rattle.cu_task.proofs.JobViews.{fitting}
use Rattle.cu_task.proofs.ViewChunks.{no_sure_calls, no_tally}
use Rattle.std.proofs.Common.{arith}
use Rattle.cu_store.specs.Steps.{NoChange}
use Rattle.cu_store.proofs.Steps.{steps_same, steps_wider}
use Rattle.cu_store.proofs.StaysOpen.{open_same}
use Rattle.cu_task.proofs.views.read_source.Goals as goal

pub returns-in-None-clause-all : goal.returns-in-None-clause-all
returns-in-None-clause-all g c = no_sure_calls (view_task_of c.args.job.now) (fitting c.args.job.now c.requires.job) c.args.source (g.C.Chunks.shown c.args.access.now).calls c.in-None.ensures

pub returns-in-None-clause-called : goal.returns-in-None-clause-called
returns-in-None-clause-called g c exact =
    no_tally (job_weight (g.C.Chunks.weight c.args.store.now) c.args.job.now) (view_task_of c.args.job.now) (fitting c.args.job.now c.requires.job) c.args.source (g.C.Chunks.tally c.args.access.now) c.in-None.ensures exact

pub returns-in-Some : goal.returns-in-Some
returns-in-Some g c = record {
  «open» = c.read_within.ensures.«open»;
  takes = c.read_within.ensures.takes;
  step = c.read_within.ensures.step;
  all = c.read_within.ensures.all;
  called = c.read_within.ensures.called;
  cause = c.read_within.ensures.cause;
}

pub returns-in-None-clause-open : goal.returns-in-None-clause-open
returns-in-None-clause-open g c = open_same (g.C.Chunks.may_get c.args.store.now c.args.access.now) c.requires.belongs

pub returns-in-None-clause-step : goal.returns-in-None-clause-step
returns-in-None-clause-step g c = steps_wider (λ key value none. none) (omega arith) (omega arith) (steps_same NoChange (g.C.Chunks.shown c.args.access.now))

pub returns-in-None-clause-cause : goal.returns-in-None-clause-cause
returns-in-None-clause-cause g c = tt

pub read_within-requires-clause-belongs : goal.read_within-requires-clause-belongs
read_within-requires-clause-belongs g c = c.requires.belongs

pub read_within-requires-clause-may : goal.read_within-requires-clause-may
read_within-requires-clause-may g c = c.requires.may

pub read_within-requires-clause-room : goal.read_within-requires-clause-room
read_within-requires-clause-room g c = c.requires.room
