use Rattle.std.proofs.Common.{length, arith}
use Rattle.std.proofs.lemmas.List.FromFn.{fill_by_all}
use Rattle.cu_view.specs.Pieces.{ranges_on}
use Rattle.cu_view.proofs.boxes.ranges.Goals as goal

pub returns : goal.returns
returns c =
    fill_by_all (ranges_on c.args.shifts.now c.args.shape.now) c.loop-axis.ranges (length c.args.shape.now) 0 c.loop-axis.invariant.rank
    (λ k b. c.loop-axis.invariant.done k (omega arith))
