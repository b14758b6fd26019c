use Rattle.std.proofs.Common.{◌≡◌, ◌<◌, ℕ, length, get_or}
use Rattle.cu_shape.proofs.dims.Dims.filled.Given as goal

abbrev pub invariant-loop-axis : goal.invariant-loop-axis
invariant-loop-axis l = record {
  ranks : length l.same ≡ length l.self;
  done : (k : ℕ) → k < l.axis → get_or l.same k 0 ≡ l.number;
}
