use Rattle.std.proofs.Common.{◌+◌, arith, sym, ◌∙◌}
use Rattle.cu_shape.proofs.Axes.{axis_by_axis_from}
use Rattle.cu_pairs.proofs.pairs.moved.Goals as goal

pub returns : goal.returns
returns c =
    axis_by_axis_from (λ i j. i + j) c.loop-axis.index c.args.lo.now c.args.idx.now (c.loop-axis.invariant.rank ∙ sym c.requires.ranks) c.requires.ranks (λ k b. c.loop-axis.invariant.done k (omega arith))
