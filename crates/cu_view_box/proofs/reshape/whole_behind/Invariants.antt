use Rattle.std.proofs.Common.{◌≡◌, ◌<◌, ◌≤◌, ℕ, length, get_or}
use Rattle.cu_view_box.proofs.reshape.whole_behind.Given as goal

abbrev pub invariant-loop-axis : goal.invariant-loop-axis
invariant-loop-axis l = (k : ℕ) → l.axis ≤ k → k < length l.shape → (get_or l.out.lo k 0 ≡ 0) × (get_or l.out.hi k 0 ≡ get_or l.shape k 0)
