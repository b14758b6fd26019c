use Rattle.std.proofs.Common.{◌≡◌, ◌<◌, ℕ, length, get_or, max}
use Rattle.cu_print.proofs.reads.first_in.Given as goal

abbrev pub invariant-loop-axis : goal.invariant-loop-axis
invariant-loop-axis l = record {
  rank : length l.first ≡ length l.region.lo;
  done : (k : ℕ) → k < l.axis → get_or l.first k 0 ≡ max (get_or l.own.lo k 0) (get_or l.region.lo k 0);
}
