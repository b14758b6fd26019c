use Rattle.cu_typing.proofs.ReducedSizes.{length-kept_sizes, kept_sizes-positive}
use Rattle.cu_typing.proofs.reduction.reduce.Goals as goal

pub within_limits-requires-clause-ranks : goal.within_limits-requires-clause-ranks
within_limits-requires-clause-ranks c = rw c.kept.ensures (rw c.kept-2.ensures (length-kept_sizes c.args.keepdims _ _ _ c.requires.ranks))

pub within_limits-requires-clause-positive : goal.within_limits-requires-clause-positive
within_limits-requires-clause-positive c = rw c.kept-2.ensures (kept_sizes-positive c.args.keepdims _ _ c.requires.positive)
