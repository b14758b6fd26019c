use Rattle.std.proofs.Common.{List, ℕ, length, Contains}
use Rattle.cu_grid.specs.Cover.{Meets}
use Rattle.cu_store.specs.Steps.{NoChange}
use Rattle.cu_region.specs.Calls.{chunks_met, region_tally}
use Rattle.cu_region.proofs.Calls.{StepsSoFar, TallySoFar}
use Rattle.cu_region.specs.Reading.{key_at, IsChunkKey}
use Rattle.cu_region.specs.Steady.{IsSteady}
use Rattle.cu_region.proofs.StoredReads.{ReadsSoFar}
use Rattle.cu_store.specs.Chunks.{StaysOpen}
use Rattle.cu_region.proofs.read.read_region_of.Given as goal

abbrev pub invariant-loop-coord : goal.invariant-loop-coord
invariant-loop-coord g l = record {
  left : (coord : List ℕ) → Contains l.coord-iterator coord → Meets l.info.layout.grid l.region.lo l.region.hi coord;
  step : StepsSoFar NoChange (chunks_met l.info.layout.grid l.region.lo l.region.hi) (length l.coord-iterator) (g.C.Chunks.shown l.initial.access) (g.C.Chunks.shown l.access);
  open_ : StaysOpen (g.C.Chunks.belongs l.store l.access) (g.C.Chunks.may_get l.store l.initial.access) (g.C.Chunks.may_get l.store l.access);
  read : IsSteady (IsChunkKey l.info l.region.lo l.region.hi) (g.C.Chunks.shown l.initial.access).held (g.C.Chunks.shown l.initial.access).late
      → ReadsSoFar l.info l.region.lo l.region.hi (g.C.Chunks.shown l.access).held l.coord-iterator l.out;
  called : TallySoFar (λ coord. g.C.Chunks.weight l.store (key_at l.info coord)) (region_tally (g.C.Chunks.weight l.store) l.info l.region.lo l.region.hi) l.coord-iterator (g.C.Chunks.tally l.initial.access) (g.C.Chunks.tally l.access);
}
