use Rattle.std.proofs.Common.{◌≡◌, ◌+◌, ◌<◌, ℕ, length, get_or}
use Rattle.cu_pairs.proofs.pairs.moved.Given as goal

abbrev pub invariant-loop-axis : goal.invariant-loop-axis
invariant-loop-axis l = record {
  rank : length l.index ≡ length l.idx;
  done : (k : ℕ) → k < l.axis → get_or l.index k 0 ≡ get_or l.lo k 0 + get_or l.idx k 0;
}
