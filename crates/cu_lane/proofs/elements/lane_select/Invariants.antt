use Rattle.std.proofs.Common.{◌≡◌, ◌==◌, ◌<◌, ℕ, get_or, if◌then◌else◌}
use Rattle.cu_lane.proofs.elements.lane_select.Given as goal

abbrev pub invariant-loop-at : goal.invariant-loop-at
invariant-loop-at l = (k : ℕ) → k < l.at → get_or l.out k 0 ≡ (if get_or l.c k 0 == 1 then get_or l.x k 0 else get_or l.y k 0)
