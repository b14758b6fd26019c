use Rattle.std.proofs.Common.{◌≡◌, ℕ, ◌<◌, length, get_or, min}
use Rattle.cu_shape.proofs.index.smaller.Given as goal

abbrev pub invariant-loop-axis : goal.invariant-loop-axis
invariant-loop-axis l = record {
  ranks : length l.least ≡ length l.a;
  done : (k : ℕ) → k < l.axis → get_or l.least k 0 ≡ min (get_or l.a k 0) (get_or l.b k 0);
}
