use Rattle.std.proofs.Common.{◌≡◌, ◌*◌, ◌%◌, ◌^◌, take, length}
use Rattle.std.specs.List.{sum}
use Rattle.std.specs.Simd.Lanes.{sum_l}
use Rattle.cu_lane.proofs.sums.lane_sum.Given as goal

abbrev pub invariant-loop-at : goal.invariant-loop-at
invariant-loop-at l = record {
  eight : length l.all ≡ 8;
  so_far : sum_l l.all % 2 ^ 64 ≡ sum (take (l.at * 8) l.x) % 2 ^ 64;
}

abbrev pub invariant-loop-k : goal.invariant-loop-k
invariant-loop-k l = l.total ≡ sum (take l.k l.x) % 2 ^ 64
