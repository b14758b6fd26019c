-- The bytes of the words so far are read.
use Rattle.std.proofs.Common.{◌≡◌, ◌+◌, ◌*◌, ◌<◌, ◌/◌, ◌%◌, ℕ, length, slice_index}
use Rattle.std.specs.Int.{w64, to_le_bytes}
use Rattle.cu_cells.specs.Layout.{value_at}
use Rattle.cu_cells.proofs.cells.get_cell.Given as goal

abbrev pub invariant-loop-k : goal.invariant-loop-k
invariant-loop-k l = record {
  table : l.seat.table_id ≡ l.words.table_id;
  same : l.seat.me ≡ l.initial.seat.me;
  long : length l.buf ≡ length l.initial.buf;
  read : (j : ℕ) → j < 8 * l.k → j < length l.initial.buf → slice_index l.buf j ≡ slice_index (to_le_bytes w64 (value_at l.words.key (l.first + j / 8))) (j % 8);
}
