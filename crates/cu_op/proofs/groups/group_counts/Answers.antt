use Rattle.std.proofs.Common.{arith}
use Rattle.cu_op.specs.Partial.{is_reduced}
use Rattle.cu_op.proofs.GroupLists.{counts_from}
use Rattle.cu_op.proofs.groups.group_counts.Goals as goal

pub returns : goal.returns
returns c = counts_from (is_reduced c.args.reduced) c.loop-axis.counts c.args.sizes.now c.args.shape.now c.loop-axis.invariant.ranks c.requires.ranks (λ k h. c.loop-axis.invariant.done k (omega arith))
