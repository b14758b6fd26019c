use Rattle.std.proofs.Common.{◌-◌, arith}
use Rattle.cu_op.proofs.Broadcasting.{as_from}
use Rattle.cu_op.proofs.regions.back_as.Goals as goal

pub returns : goal.returns
returns c = as_from c.args.one c.loop-axis.read c.args.shape.now c.args.numbers.now (c.rank.result - c.rank-2.result) (omega arith) c.requires c.loop-axis.invariant.ranks
    (λ k h. c.loop-axis.invariant.done k (omega arith))
