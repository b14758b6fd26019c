use Rattle.std.proofs.Common.{◌/◌, arith, sym}
use Rattle.cu_shape.proofs.Axes.{axis_by_axis_from}
use Rattle.cu_op.proofs.schedule.box_of.Goals as goal

pub returns : goal.returns
returns c = axis_by_axis_from (λ i s. i / s) c.loop-axis.coord c.args.index.now c.args.sizes.now c.loop-axis.invariant.ranks (sym c.requires.ranks)
    (λ k h. c.loop-axis.invariant.done k (omega arith))
