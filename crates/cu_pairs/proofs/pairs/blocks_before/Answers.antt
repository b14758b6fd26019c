use Rattle.std.proofs.Common.{arith}
use Rattle.cu_pairs.proofs.Sizes.{take_more}
use Rattle.cu_pairs.proofs.pairs.blocks_before.Goals as goal

pub overflow_mul-blocks : goal.overflow_mul-blocks
overflow_mul-blocks c = omega (arith, (take_more c.args.dims.now c.loop-before.before c.loop-before.blocks c.at.result (omega arith) c.requires.some c.requires.small c.loop-before.invariant c.at.ensures).0)

pub loop-before-preserved : goal.loop-before-preserved
loop-before-preserved c =
    (take_more c.args.dims.now c.loop-before.before c.loop-before.blocks c.at.result (omega arith) c.requires.some c.requires.small c.loop-before.invariant c.at.ensures).1
