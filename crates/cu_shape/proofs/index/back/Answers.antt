use Rattle.std.proofs.Common.{◌-◌, arith}
use Rattle.cu_shape.proofs.ReadThrough.{back_from}
use Rattle.cu_shape.proofs.index.back.Goals as goal

pub returns : goal.returns
returns c = back_from c.loop-axis.read c.args.shape.now c.args.idx.now (c.rank.result - c.rank-2.result) (omega arith) c.requires c.loop-axis.invariant.ranks
    (λ k h. c.loop-axis.invariant.done k (omega arith))
