use Rattle.std.proofs.Common.{ℕ, List, Option, Contains}
use Rattle.std.specs.List.{count_by}
use Rattle.cu_grid.specs.Cover.{covering}
use Rattle.cu_grid.specs.Grid.{IsCoordinate}
use Rattle.cu_store.specs.Held.{Contents}
use Rattle.std.specs.Prelude.{sum_by}
use Rattle.cu_region.proofs.Calls.{TallySoFar}
use Rattle.cu_task.specs.ViewJobs.{buffer_in, job_weight, view_task_of, IsExactJob}
use Rattle.cu_task.specs.Views.{source_in, may_read, tally_for, IsSourceKey, IsKnown}
use Rattle.cu_task.proofs.ViewChunks.{CallsSoFar}
use Rattle.cu_task.proofs.ViewElements.{SoFar}
use Rattle.cu_store.specs.Chunks.{StaysOpen}
use Rattle.cu_task.proofs.views.read_within.Given as goal

abbrev pub invariant-loop-coord : goal.invariant-loop-coord
invariant-loop-coord g l = record {
  left : (coord : List ℕ) → Contains l.coord-iterator coord → IsCoordinate (source_in (view_task_of l.part.job.now) l.part.source).layout.grid coord;
  calls : CallsSoFar (view_task_of l.part.job.now) l.part.source (count_by (may_read (view_task_of l.part.job.now) l.part.source) (covering (source_in (view_task_of l.part.job.now) l.part.source).layout.grid.chunk l.part.region.lo l.part.region.hi)) l.coord-iterator
      (g.C.Chunks.shown l.initial.access) (g.C.Chunks.shown l.access);
  open_ : StaysOpen (g.C.Chunks.belongs l.store l.access) (g.C.Chunks.may_get l.store l.initial.access) (g.C.Chunks.may_get l.store l.access);
  takes : (told : Option Contents) → IsKnown (IsSourceKey (view_task_of l.part.job.now) l.part.source) told (g.C.Chunks.shown l.initial.access) → SoFar (view_task_of l.part.job.now) l.part.source told l.coord-iterator (buffer_in (view_task_of l.part.job.now) l.initial.room) (buffer_in (view_task_of l.part.job.now) l.room);
  called : IsExactJob l.part.job.now
      → TallySoFar (λ coord. tally_for (job_weight (g.C.Chunks.weight l.store) l.part.job.now) (view_task_of l.part.job.now) l.part.source coord) (sum_by (λ coord. tally_for (job_weight (g.C.Chunks.weight l.store) l.part.job.now) (view_task_of l.part.job.now) l.part.source coord) (covering (source_in (view_task_of l.part.job.now) l.part.source).layout.grid.chunk l.part.region.lo l.part.region.hi)) l.coord-iterator
      (g.C.Chunks.tally l.initial.access) (g.C.Chunks.tally l.access);
}
