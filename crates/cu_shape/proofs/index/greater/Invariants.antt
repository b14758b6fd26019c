use Rattle.std.proofs.Common.{◌≡◌, ℕ, ◌<◌, length, get_or, max}
use Rattle.cu_shape.proofs.index.greater.Given as goal

abbrev pub invariant-loop-axis : goal.invariant-loop-axis
invariant-loop-axis l = record {
  ranks : length l.most ≡ length l.a;
  done : (k : ℕ) → k < l.axis → get_or l.most k 0 ≡ max (get_or l.a k 0) (get_or l.b k 0);
}
