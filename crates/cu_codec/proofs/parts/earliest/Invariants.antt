use Rattle.std.proofs.Common.{◌≡◌, min, ◌<◌, ℕ, length, get_or}
use Rattle.cu_codec.proofs.parts.earliest.Given as goal

abbrev pub invariant-loop-axis : goal.invariant-loop-axis
invariant-loop-axis l = record {
  rank : length l.least ≡ length l.a;
  done : (k : ℕ) → k < l.axis → get_or l.least k 0 ≡ min (get_or l.a k 0) (get_or l.b k 0);
}
