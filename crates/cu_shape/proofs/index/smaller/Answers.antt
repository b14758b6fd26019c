use Rattle.std.proofs.Common.{sym, arith, min}
use Rattle.cu_shape.proofs.Axes.{axis_by_axis_from}
use Rattle.cu_shape.proofs.index.smaller.Goals as goal

pub returns-clause-numbers : goal.returns-clause-numbers
returns-clause-numbers c =
    axis_by_axis_from min c.loop-axis.least c.args.a.now c.args.b.now c.loop-axis.invariant.ranks (sym c.requires) (λ k h. c.loop-axis.invariant.done k (omega arith))
