use Rattle.std.proofs.Common.{◌≡◌, ◌+◌, ◌<◌, ℕ, length, get_or}
use Rattle.cu_mean.proofs.reductions.sum_of.Given as goal

abbrev pub invariant-loop-axis : goal.invariant-loop-axis
invariant-loop-axis l = record {
  rank : length l.read ≡ length l.start;
  done : (k : ℕ) → k < l.axis → get_or l.read k 0 ≡ get_or l.start k 0 + get_or l.step k 0;
}
