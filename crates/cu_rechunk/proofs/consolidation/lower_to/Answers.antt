use Rattle.std.proofs.Common.{arith}
use Rattle.cu_rechunk.proofs.Lowering.{lowered_along_from}
use Rattle.cu_rechunk.proofs.consolidation.lower_to.Goals as goal

pub returns-clause-sizes : goal.returns-clause-sizes
returns-clause-sizes c = lowered_along_from c.loop-axis.sizes c.args.shape.now c.args.read.now c.args.write.now c.loop-axis.invariant.ranks c.requires.shape_rank c.requires.write_rank
    (λ k h. c.loop-axis.invariant.done k (omega arith))
