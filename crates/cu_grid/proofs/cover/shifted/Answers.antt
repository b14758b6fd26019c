use Rattle.std.proofs.Common.{◌+◌, arith}
use Rattle.cu_shape.proofs.Axes.{axis_by_axis_from}
use Rattle.cu_grid.proofs.cover.shifted.Goals as goal

pub returns : goal.returns
returns c = axis_by_axis_from (λ i s. i + s) c.loop-axis.coord c.args.corner.now c.args.index.now c.loop-axis.invariant.ranks c.requires.ranks
    (λ k h. c.loop-axis.invariant.done k (omega arith))
