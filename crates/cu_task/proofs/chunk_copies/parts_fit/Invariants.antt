use Rattle.std.proofs.Common.{◌≡◌, ◌+◌, ℕ, List, Contains}
use Rattle.cu_grid.specs.Cover.{Meets}
use Rattle.cu_task.specs.ChunkCopies.{region_chunks, made_info, own_lo, own_hi, room_of_parts}
use Rattle.cu_task.proofs.chunk_copies.parts_fit.Given as goal

abbrev pub invariant-loop-coord : goal.invariant-loop-coord
invariant-loop-coord l = record {
  meets : (coord : List ℕ) → Contains l.coord-iterator coord → Meets (made_info l.task).layout.grid (own_lo l.task) (own_hi l.task) coord;
  room : l.room + room_of_parts l.task l.coord-iterator ≡ l.left + room_of_parts l.task (region_chunks l.task);
}
