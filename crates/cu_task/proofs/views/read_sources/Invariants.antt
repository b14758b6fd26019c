use Rattle.std.proofs.Common.{ℕ, ◌<◌, Option, length}
use Rattle.cu_store.specs.Faults.{Rose}
use Rattle.cu_store.specs.Held.{Contents}
use Rattle.cu_store.specs.Steps.{NoChange, Steps}
use Rattle.cu_task.specs.ViewJobs.{buffer_in, tally_for_sources, view_task_of, IsExactJob}
use Rattle.cu_task.specs.Views.{view_calls, sure_calls, IsSourceKey, IsKnown, HasPulled}
use Rattle.cu_store.specs.Chunks.{Adds, StaysOpen}
use Rattle.cu_task.proofs.views.read_sources.Given as goal

abbrev pub invariant-loop-source : goal.invariant-loop-source
invariant-loop-source g l = record {
  step : Steps NoChange 0 (view_calls (view_task_of l.job) l.source) (g.C.Chunks.shown l.initial.access) (g.C.Chunks.shown l.access);
  all : Rose (sure_calls l.job.pull.now (view_calls (view_task_of l.job) l.source)) (g.C.Chunks.shown l.initial.access).calls (g.C.Chunks.shown l.access).calls;
  open_ : StaysOpen (g.C.Chunks.belongs l.store l.access) (g.C.Chunks.may_get l.store l.initial.access) (g.C.Chunks.may_get l.store l.access);
  pulled : (told : Option Contents) → ((source : ℕ) → source < length l.job.ins.now → IsKnown (IsSourceKey (view_task_of l.job) source) told (g.C.Chunks.shown l.initial.access)) → HasPulled (view_task_of l.job) 0 told (buffer_in (view_task_of l.job) l.initial.room)
      → HasPulled (view_task_of l.job) l.source told (buffer_in (view_task_of l.job) l.room);
  called : IsExactJob l.job → Adds (tally_for_sources (g.C.Chunks.weight l.store) l.job l.source) (g.C.Chunks.tally l.initial.access) (g.C.Chunks.tally l.access);
}
