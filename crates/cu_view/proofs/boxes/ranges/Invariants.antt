use Rattle.std.proofs.Common.{◌≡◌, ℕ, ◌<◌, length, get_or}
use Rattle.cu_view.specs.Pieces.{ranges_on}
use Rattle.cu_view.proofs.boxes.ranges.Given as goal

abbrev pub invariant-loop-axis : goal.invariant-loop-axis
invariant-loop-axis l = record {
  rank : length l.ranges ≡ length l.shape;
  done : (d : ℕ) → d < l.axis → get_or l.ranges d 0 ≡ ranges_on l.shifts l.shape d;
}
