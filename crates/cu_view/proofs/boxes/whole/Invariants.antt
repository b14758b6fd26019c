use Rattle.std.proofs.Common.{◌≡◌, ℕ, ◌<◌, length, get_or}
use Rattle.cu_view.proofs.boxes.whole.Given as goal

abbrev pub invariant-loop-axis : goal.invariant-loop-axis
invariant-loop-axis l = record {
  rank : length l.lo ≡ length l.shape;
  done : (d : ℕ) → d < l.axis → get_or l.lo d 0 ≡ 0;
}
