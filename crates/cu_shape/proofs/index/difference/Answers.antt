use Rattle.std.proofs.Common.{◌-◌, arith, sym}
use Rattle.cu_shape.proofs.Axes.{axis_by_axis_from}
use Rattle.cu_shape.proofs.index.difference.Goals as goal

pub returns : goal.returns
returns c =
    axis_by_axis_from (λ i j. i - j) c.loop-axis.sizes c.args.from.now c.args.to.now c.loop-axis.invariant.rank (sym c.requires) (λ k b. c.loop-axis.invariant.done k (omega arith))
