use Rattle.std.proofs.Common.{◌≡◌, ◌⊎◌, ◌+◌, ℕ, List, drop, length, Contains}
use Rattle.cu_grid.specs.Cover.{Meets}
use Rattle.cu_op.specs.Elements.{Elements}
use Rattle.cu_store.specs.Chunks.{StaysOpen}
use Rattle.cu_store.specs.Steps.{Shown, Steps}
use Rattle.cu_region.specs.Calls.{region_tally}
use Rattle.cu_region.specs.Reading.{key_at}
use Rattle.cu_region.proofs.Calls.{TallySoFar}
use Rattle.cu_task.specs.ChunkCopies.{region_chunks, made_info, own_lo, own_hi, room_of_parts, ArePartsOfType, CarriesPart, HasEachPart}
use Rattle.cu_task.specs.OfTask.{ChangeBy, IsReadyFor}
use Rattle.cu_task.proofs.ChunkParts.{HeldSoFar, WritesSoFar}
use Rattle.cu_task.proofs.chunk_copies.write_parts.Given as goal

abbrev pub invariant-loop-coord : goal.invariant-loop-coord
invariant-loop-coord g l = record {
  meets : (coord : List ℕ) → Contains l.coord-iterator coord → Meets (made_info l.task).layout.grid (own_lo l.task) (own_hi l.task) coord;
  room : l.from + room_of_parts l.task l.coord-iterator ≡ room_of_parts l.task (region_chunks l.task);
  elements : ArePartsOfType l.task l.coord-iterator (drop l.from l.output);
  carries : (start : Shown) → HasEachPart l.task (CarriesPart l.task start) (region_chunks l.task) l.output → HasEachPart l.task (CarriesPart l.task start) l.coord-iterator (drop l.from l.output);
  open_ : StaysOpen (g.C.Chunks.belongs l.store l.access) (g.C.Chunks.may_get l.store l.initial.access) (g.C.Chunks.may_get l.store l.access);
  got : (coord : List ℕ) → Contains (region_chunks l.task) coord → Contains l.coord-iterator coord ⊎ g.C.Chunks.may_get l.store l.access (key_at (made_info l.task) coord);
  step : WritesSoFar l.task l.output (length l.coord-iterator) (g.C.Chunks.shown l.initial.access) (g.C.Chunks.shown l.access);
  stored : (env : Elements) (start : Shown) (calls : ℕ) → HasEachPart l.task (CarriesPart l.task start) (region_chunks l.task) l.output → IsReadyFor l.task env start
      → Steps (ChangeBy l.task start) 0 calls start (g.C.Chunks.shown l.initial.access) → HeldSoFar l.task env (g.C.Chunks.shown l.access) l.coord-iterator;
  called : TallySoFar (λ coord. g.C.Chunks.weight l.store (key_at (made_info l.task) coord)) (region_tally (g.C.Chunks.weight l.store) (made_info l.task) (own_lo l.task) (own_hi l.task)) l.coord-iterator (g.C.Chunks.tally l.initial.access) (g.C.Chunks.tally l.access);
}
