use Rattle.std.proofs.Common.{◌≡◌, ◌+◌, ℕ, List, drop, Contains}
use Rattle.cu_grid.specs.Cover.{Meets}
use Rattle.cu_op.specs.Arrays.{grid_at}
use Rattle.cu_task.specs.ChunkCopies.{region_chunks, made_info, own_lo, own_hi, room_of_parts}
use Rattle.cu_task.proofs.ChunkParts.{TakenSoFar}
use Rattle.cu_task.proofs.chunk_copies.take_into_parts.Given as goal

abbrev pub invariant-loop-part : goal.invariant-loop-part
invariant-loop-part l = record {
  meets : (coord : List ℕ) → Contains l.part-iterator coord → Meets (made_info l.task).layout.grid (own_lo l.task) (own_hi l.task) coord;
  room : l.at + room_of_parts l.task l.part-iterator ≡ room_of_parts l.task (region_chunks l.task);
  behind : drop l.at l.output ≡ drop l.at l.initial.output;
  taken : TakenSoFar l.task (record { grid = grid_at l.task.plan.arrays l.walk.array; coord = l.coord; bytes = l.chunk }) l.part-iterator l.at l.initial.output l.output;
}
