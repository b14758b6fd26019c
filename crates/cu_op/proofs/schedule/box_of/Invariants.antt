use Rattle.std.proofs.Common.{◌≡◌, ◌<◌, ℕ, ◌/◌, length, get_or}
use Rattle.cu_op.proofs.schedule.box_of.Given as goal

abbrev pub invariant-loop-axis : goal.invariant-loop-axis
invariant-loop-axis l = record {
  ranks : length l.coord ≡ length l.index;
  done : (k : ℕ) → k < l.axis → get_or l.coord k 0 ≡ get_or l.index k 0 / get_or l.sizes k 0;
}
