-- The cells so far that were due have landed.
use Rattle.std.proofs.Common.{◌≡◌, take}
use Rattle.cu_cells.specs.Late.{landed_by}
use Rattle.cu_cells.proofs.late.land_due.Given as goal

abbrev pub invariant-loop-at : goal.invariant-loop-at
invariant-loop-at l = record {
  table : l.seat.table_id ≡ l.initial.seat.table_id;
  id : l.seat.id ≡ l.initial.seat.id;
  slots : l.seat.me.1 ≡ l.initial.seat.me.1;
  live : l.seat.me.0.live ≡ l.initial.seat.me.0.live;
  laid : l.seat.me.0.laid ≡ l.initial.seat.me.0.laid;
  seen : l.seat.me.0.seen ≡ l.initial.seat.me.0.seen;
  stored : l.seat.me.0.stored ≡ l.initial.seat.me.0.stored;
  landed : l.seat.me.0.landed ≡ landed_by (take l.at l.late.items) l.initial.seat.me.0.landed;
}
