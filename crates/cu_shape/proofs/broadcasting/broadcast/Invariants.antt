use Rattle.std.proofs.Common.{◌≡◌, drop, length, None}
use Rattle.cu_shape.specs.Broadcast.{aligned, broadcast_sizes, last_apart}
use Rattle.cu_shape.proofs.broadcasting.broadcast.Given as goal

abbrev pub invariant-loop-axis : goal.invariant-loop-axis
invariant-loop-axis l = record {
  rank : length l.result ≡ l.rank;
  sizes : drop l.axis l.result ≡ broadcast_sizes (drop l.axis (aligned l.rank l.a)) (drop l.axis (aligned l.rank l.b));
  agree : last_apart (drop l.axis (aligned l.rank l.a)) (drop l.axis (aligned l.rank l.b)) l.axis ≡ None;
}
