use Rattle.std.proofs.Common.{ℕ, ◌<◌, get_or}
use Rattle.cu_lane.proofs.Words.{Place2}
use Rattle.cu_lane.proofs.loops.each2.Given as goal

abbrev pub invariant-loop-at : goal.invariant-loop-at
invariant-loop-at l = (k : ℕ) → k < l.at → Place2 l.f l.t (get_or l.x k 0) (get_or l.y k 0) (get_or l.out k 0)
