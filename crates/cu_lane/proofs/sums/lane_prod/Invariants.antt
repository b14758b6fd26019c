use Rattle.std.proofs.Common.{◌≡◌, ◌%◌, ◌^◌, take}
use Rattle.cu_lane.specs.Folds.{product_of_words}
use Rattle.cu_lane.proofs.sums.lane_prod.Given as goal

abbrev pub invariant-loop-k : goal.invariant-loop-k
invariant-loop-k l = l.total ≡ product_of_words (take l.k l.x) % 2 ^ 64
