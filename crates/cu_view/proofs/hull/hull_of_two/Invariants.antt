use Rattle.std.proofs.Common.{◌≡◌, ℕ, ◌<◌, length, get_or, min, max}
use Rattle.cu_view.proofs.hull.hull_of_two.Given as goal

abbrev pub invariant-loop-axis : goal.invariant-loop-axis
invariant-loop-axis l = record {
  lo_rank : length l.hull.lo ≡ length l.a.lo;
  hi_rank : length l.hull.hi ≡ length l.a.hi;
  begins : (k : ℕ) → k < l.axis → get_or l.hull.lo k 0 ≡ min (get_or l.a.lo k 0) (get_or l.b.lo k 0);
  ends : (k : ℕ) → k < l.axis → get_or l.hull.hi k 0 ≡ max (get_or l.a.hi k 0) (get_or l.b.hi k 0);
}
