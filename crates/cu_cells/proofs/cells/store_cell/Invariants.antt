-- The words so far are stored.
use Rattle.std.proofs.Common.{◌≡◌, ◌+◌, ◌<◌, ℕ, [], true}
use Rattle.cu_cells.specs.Rule.{IsIn}
use Rattle.cu_cells.proofs.cells.store_cell.Given as goal

abbrev pub invariant-loop-k : goal.invariant-loop-k
invariant-loop-k l = record {
  table : l.seat.table_id ≡ l.words.table_id;
  free : l.seat.me.1 ≡ [];
  live : l.seat.me.0.live ≡ true;
  laid : l.seat.me.0.laid ≡ l.words.key;
  seen : l.seat.me.0.seen ≡ l.initial.seat.me.0.seen;
  landed : l.seat.me.0.landed ≡ l.initial.seat.me.0.landed;
  more : (n : ℕ) → IsIn l.initial.seat.me.0.stored n → IsIn l.seat.me.0.stored n;
  stored : (j : ℕ) → j < l.k → IsIn l.seat.me.0.stored (l.first + j);
}
