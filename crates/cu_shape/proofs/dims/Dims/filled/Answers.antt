use Rattle.std.proofs.Common.{arith}
use Rattle.cu_shape.proofs.Axes.{same_from}
use Rattle.cu_shape.proofs.dims.Dims.filled.Goals as goal

pub returns : goal.returns
returns c = same_from c.loop-axis.same c.args.self.now c.args.number c.loop-axis.invariant.ranks (λ k h. c.loop-axis.invariant.done k (omega arith))
