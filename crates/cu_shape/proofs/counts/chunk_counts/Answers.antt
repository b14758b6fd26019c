use Rattle.std.proofs.Common.{arith, sym}
use Rattle.std.specs.Int.{div_ceil}
use Rattle.cu_shape.proofs.Axes.{axis_by_axis_from}
use Rattle.cu_shape.proofs.counts.chunk_counts.Goals as goal

pub returns : goal.returns
returns c = axis_by_axis_from div_ceil c.loop-axis.counts c.args.shape.now c.args.chunk.now c.loop-axis.invariant.ranks (sym c.requires.ranks)
    (λ k h. c.loop-axis.invariant.done k (omega arith))
