use Rattle.std.proofs.Common.{◌≡◌, ◌<◌, ℕ, false, get_or, pos}
use Rattle.std.specs.Ordering.{int_eq}
use Rattle.cu_mean.proofs.views.place_of_axis.Given as goal

abbrev pub invariant-loop-place : goal.invariant-loop-place
invariant-loop-place l = (k : ℕ) → k < l.place → int_eq (get_or l.axes k (pos 0)) (pos l.axis) ≡ false
