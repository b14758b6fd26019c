use Rattle.std.proofs.Common.{ℕ, ◌<◌, get_or}
use Rattle.cu_lane.proofs.Words.{Place1}
use Rattle.cu_lane.proofs.loops.each1.Given as goal

abbrev pub invariant-loop-at : goal.invariant-loop-at
invariant-loop-at l = (k : ℕ) → k < l.at → Place1 l.f l.t (get_or l.x k 0) (get_or l.out k 0)
