use Rattle.std.proofs.Common.{◌≡◌, ◌==◌, ◌<◌, ◌+◌, ℕ, length, get_or, if◌then◌else◌}
use Rattle.cu_op.proofs.regions.back_as.Given as goal

abbrev pub invariant-loop-axis : goal.invariant-loop-axis
invariant-loop-axis l = record {
  ranks : length l.read ≡ length l.shape;
  done : (k : ℕ) → k < l.axis → get_or l.read k 0 ≡ (if get_or l.shape k 0 == 1 then l.one else get_or l.numbers (l.first + k) 0);
}
