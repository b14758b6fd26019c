use Rattle.std.proofs.Common.{ℕ, List, length, Contains}
use Rattle.cu_grid.specs.Cover.{Meets}
use Rattle.cu_op.specs.Arrays.{array_at, grid_at}
use Rattle.cu_store.specs.Chunks.{StaysOpen}
use Rattle.cu_store.specs.Held.{Contents}
use Rattle.cu_store.specs.Steps.{NoChange}
use Rattle.cu_region.specs.Calls.{chunks_met, region_tally}
use Rattle.cu_region.specs.Reading.{key_at}
use Rattle.cu_region.proofs.Calls.{StepsSoFar, TallySoFar}
use Rattle.cu_task.specs.ChunkCopies.{region_chunks, HasEachPart}
use Rattle.cu_task.specs.Inputs.{IsWalkKey}
use Rattle.cu_task.specs.Task.{StillHolds}
use Rattle.cu_task.proofs.ChunkParts.{ComesSoFar, IsAnElement, IsHeldElement}
use Rattle.cu_task.proofs.chunk_copies.read_parts.Given as goal

abbrev pub invariant-loop-coord : goal.invariant-loop-coord
invariant-loop-coord g l = record {
  left : (coord : List ℕ) → Contains l.coord-iterator coord → Meets (grid_at l.task.plan.arrays l.walk.array) l.walk.region.lo l.walk.region.hi coord;
  step : StepsSoFar NoChange (chunks_met (grid_at l.task.plan.arrays l.walk.array) l.walk.region.lo l.walk.region.hi) (length l.coord-iterator) (g.C.Chunks.shown l.initial.access) (g.C.Chunks.shown l.access);
  open_ : StaysOpen (g.C.Chunks.belongs l.store l.access) (g.C.Chunks.may_get l.store l.initial.access) (g.C.Chunks.may_get l.store l.access);
  read : (held : Contents) → StillHolds (IsWalkKey l.task.plan.arrays l.walk) held (g.C.Chunks.shown l.initial.access)
      → HasEachPart l.task (ComesSoFar l.task (grid_at l.task.plan.arrays l.walk.array) (IsHeldElement l.task (array_at l.task.plan.arrays l.walk.array) held) l.coord-iterator) (region_chunks l.task) l.output;
  elements : HasEachPart l.task (ComesSoFar l.task (grid_at l.task.plan.arrays l.walk.array) (IsAnElement l.task) l.coord-iterator) (region_chunks l.task) l.output;
  called : TallySoFar (λ coord. g.C.Chunks.weight l.store (key_at (array_at l.task.plan.arrays l.walk.array) coord)) (region_tally (g.C.Chunks.weight l.store) (array_at l.task.plan.arrays l.walk.array) l.walk.region.lo l.walk.region.hi) l.coord-iterator (g.C.Chunks.tally l.initial.access) (g.C.Chunks.tally l.access);
}
