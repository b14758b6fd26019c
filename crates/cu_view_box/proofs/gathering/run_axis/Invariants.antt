use Rattle.std.proofs.Common.{◌≡◌, ◌<◌, ◌≤◌, ℕ, length, get_or}
use Rattle.cu_view_box.proofs.gathering.run_axis.Given as goal

abbrev pub invariant-loop-axis : goal.invariant-loop-axis
invariant-loop-axis l = (k : ℕ) → l.axis ≤ k → k < length l.shape → (get_or l.block.region.lo k 0 ≡ 0) × (get_or l.block.region.hi k 0 ≡ get_or l.shape k 0) × (get_or l.block.dims k 0 ≡ get_or l.shape k 0)
