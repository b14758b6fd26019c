use Rattle.std.proofs.Common.{◌⊎◌, List, ℕ, length, Contains}
use Rattle.cu_grid.specs.Cover.{Meets}
use Rattle.cu_region.specs.Calls.{chunks_met, region_tally}
use Rattle.cu_region.proofs.Calls.{StepsSoFar, TallySoFar}
use Rattle.cu_region.specs.Writing.{LateIsOwn, RegionPut, StoresChunk}
use Rattle.cu_store.specs.Chunks.{StaysOpen}
use Rattle.cu_region.specs.Reading.{key_at}
use Rattle.cu_region.proofs.write.write_region_of.Given as goal

abbrev pub invariant-loop-coord : goal.invariant-loop-coord
invariant-loop-coord g l = record {
  left : (coord : List ℕ) → Contains l.coord-iterator coord → Meets l.info.layout.grid l.region.lo l.region.hi coord;
  step : StepsSoFar (RegionPut l.info l.region.lo l.region.hi l.input) (chunks_met l.info.layout.grid l.region.lo l.region.hi) (length l.coord-iterator) (g.C.Chunks.shown l.initial.access) (g.C.Chunks.shown l.access);
  open_ : StaysOpen (g.C.Chunks.belongs l.store l.access) (g.C.Chunks.may_get l.store l.initial.access) (g.C.Chunks.may_get l.store l.access);
  got : (coord : List ℕ) → Meets l.info.layout.grid l.region.lo l.region.hi coord → Contains l.coord-iterator coord ⊎ g.C.Chunks.may_get l.store l.access (key_at l.info coord);
  stored : LateIsOwn l.info l.region.lo l.region.hi l.input (g.C.Chunks.shown l.initial.access).late
      → (coord : List ℕ) → Meets l.info.layout.grid l.region.lo l.region.hi coord
      → Contains l.coord-iterator coord ⊎ StoresChunk l.info l.region.lo l.region.hi l.input (g.C.Chunks.shown l.access).held coord;
  called : TallySoFar (λ coord. g.C.Chunks.weight l.store (key_at l.info coord)) (region_tally (g.C.Chunks.weight l.store) l.info l.region.lo l.region.hi) l.coord-iterator (g.C.Chunks.tally l.initial.access) (g.C.Chunks.tally l.access);
}
