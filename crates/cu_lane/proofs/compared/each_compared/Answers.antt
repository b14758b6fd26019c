use Rattle.std.proofs.Common.{◌≤◌, ◌+◌, ◌*◌, ◌-◌, ◌∙◌, length, refl, arith}
use Rattle.cu_lane.specs.Compared.{compared}
use Rattle.cu_lane.proofs.Blocks.{long, more}
use Rattle.cu_lane.proofs.compared.each_compared.Goals as goal

pub loop-at-preserved : goal.loop-at-preserved
loop-at-preserved c =
    let at = c.loop-at.at in
    let n = at * 8 + 8 - at * 8 in
    let f = compared c.args.order c.args.bias in
    let same = c.loop-at.invariant.same_length in
    let room : at * 8 + n ≤ length c.loop-at.out = omega arith in
    record {
      same_length = long c.args.x.now c.args.y.now c.loop-at.out _ c.compared_lanes.result at n f (omega arith) (omega arith) (omega arith) room c.compared_lanes.ensures refl ∙ same;
      done = more c.args.x.now c.args.y.now c.loop-at.out _ c.compared_lanes.result at n f (omega arith) (omega arith) (omega arith) room c.compared_lanes.ensures refl c.loop-at.invariant.done;
    }
