use Rattle.std.proofs.Common.{◌*◌, min, length, get_or}
use Rattle.cu_lane.specs.Compared.{rank}
use Rattle.cu_lane.proofs.Lowest.{IsLeading}
use Rattle.cu_lane.proofs.best.first_lowest.Given as goal

abbrev pub invariant-loop-block : goal.invariant-loop-block
invariant-loop-block l = IsLeading (λ k. rank l.least l.bias (get_or l.x k 0)) (length l.x) (min (l.block * 256) (length l.x)) l.start l.best
