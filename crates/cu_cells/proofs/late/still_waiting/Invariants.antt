-- Those so far wait on.
use Rattle.std.proofs.Common.{◌≡◌, ◌≤◌, length, take}
use Rattle.cu_cells.specs.Late.{cells_waiting}
use Rattle.cu_cells.proofs.late.still_waiting.Given as goal

abbrev pub invariant-loop-at : goal.invariant-loop-at
invariant-loop-at l = record {
  rest : l.rest.items ≡ cells_waiting (take l.at l.late);
  few : length l.rest.items ≤ l.at;
}
