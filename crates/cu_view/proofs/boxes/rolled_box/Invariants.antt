use Rattle.std.proofs.Common.{◌≡◌, ℕ, ◌<◌, ◌==◌, length, get_or, if◌then◌else◌}
use Rattle.cu_view.specs.Pieces.{turn_on}
use Rattle.cu_view.proofs.boxes.rolled_box.Given as goal

abbrev pub invariant-loop-axis : goal.invariant-loop-axis
invariant-loop-axis l = record {
  lo_rank : length l.region.lo ≡ length l.shape;
  hi_rank : length l.region.hi ≡ length l.shape;
  begins : (d : ℕ) → d < l.axis → get_or l.region.lo d 0 ≡ (if get_or l.chosen d 0 == 0 then turn_on l.shifts l.shape d else 0);
  ends : (d : ℕ) → d < l.axis → get_or l.region.hi d 0 ≡ (if get_or l.chosen d 0 == 0 then get_or l.shape d 0 else turn_on l.shifts l.shape d);
}
