use Rattle.std.proofs.Common.{◌≡◌, ◌<◌, ℕ, length, get_or}
use Rattle.cu_load.proofs.chunk.whole_region.Given as goal

abbrev pub invariant-loop-axis : goal.invariant-loop-axis
invariant-loop-axis l = record {
  same_length : length l.lo ≡ length l.hi;
  zeros : (k : ℕ) → k < l.axis → get_or l.lo k 0 ≡ 0;
}
