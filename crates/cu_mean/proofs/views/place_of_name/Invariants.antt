use Rattle.std.proofs.Common.{◌≡◌, ◌<◌, ◌==◌, ℕ, false, get_or, pos}
use Rattle.cu_semantics.specs.Index.{axis_in}
use Rattle.cu_mean.proofs.views.place_of_name.Given as goal

abbrev pub invariant-loop-place : goal.invariant-loop-place
invariant-loop-place l = (k : ℕ) → k < l.place → (axis_in l.rank (get_or l.axes k (pos 0)) == l.axis) ≡ false
