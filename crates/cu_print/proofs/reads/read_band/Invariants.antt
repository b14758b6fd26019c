-- The chunks that are left, in their order; each element of another one was read.
use Rattle.std.proofs.Common.{List, ℕ, ◌+◌, ◌-◌, ◌*◌, ◌≤◌, length, map, Contains}
use Rattle.std.specs.List.Sorted.{IsStrictlyIncreasing}
use Rattle.cu_shape.specs.Index.{place_of}
use Rattle.cu_grid.specs.Counts.{counts_of}
use Rattle.cu_grid.specs.Cover.{Meets}
use Rattle.cu_region.specs.Calls.{chunks_met}
use Rattle.cu_store.specs.Faults.{Rose}
use Rattle.cu_store.specs.Steps.{NoChange}
use Rattle.cu_command.specs.Seen.{Stepped}
use Rattle.cu_print.proofs.BandReads.{ReadsLeft}
use Rattle.cu_print.proofs.reads.read_band.Given as goal

abbrev pub invariant-loop-coord : goal.invariant-loop-coord
invariant-loop-coord g l = record {
  left : (coord : List ℕ) → Contains l.coord-iterator coord → Meets l.info.layout.grid l.region.lo l.region.hi coord;
  order : IsStrictlyIncreasing (map (place_of (counts_of l.info.layout.grid.shape l.info.layout.grid.chunk)) l.coord-iterator);
  step : Stepped NoChange (g.D.PutStore.shown l.initial.depot) (g.D.PutStore.shown l.depot);
  read : ReadsLeft l.info l.region (g.D.PutStore.shown l.initial.depot) l.coord-iterator l.out;
  calls : (g.D.PutStore.shown l.depot).calls + length l.coord-iterator * (l.retries + 1) ≤ (g.D.PutStore.shown l.initial.depot).calls + chunks_met l.info.layout.grid l.region.lo l.region.hi * (l.retries + 1);
  once : Rose ((g.D.PutStore.shown l.depot).calls + length l.coord-iterator - ((g.D.PutStore.shown l.initial.depot).calls + chunks_met l.info.layout.grid l.region.lo l.region.hi))
      (g.D.PutStore.shown l.initial.depot).faults (g.D.PutStore.shown l.depot).faults;
}
