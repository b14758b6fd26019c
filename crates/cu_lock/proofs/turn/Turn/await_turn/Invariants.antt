use Rattle.std.proofs.Common.{◌≡◌, ◌%◌, ◌<◌, ◌^◌}
use Rattle.cu_lock.proofs.turn.Turn.await_turn.Given as goal

abbrev pub invariant-loop : goal.invariant-loop
invariant-loop g l =
    (goal.iterator-loop g).can_next l.iterator' × (goal.iterator-loop g).is_finite l.iterator'
    × (l.seat.table_id ≡ l.initial.seat.table_id) × (l.seat.me ≡ l.initial.seat.me) × (l.even % 2 ≡ 0) × (l.even < 2 ^ 64)
