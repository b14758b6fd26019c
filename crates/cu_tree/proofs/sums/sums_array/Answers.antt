use Rattle.cu_tree.proofs.SumArrays.{first_bytes}
use Rattle.cu_tree.proofs.sums.sums_array.Goals as goal

pub first_partial-requires-clause-bytes : goal.first_partial-requires-clause-bytes
first_partial-requires-clause-bytes c = rw (c.sought_axes.ensures.axes) (first_bytes c.args.made.now c.args.source.now c.args.axis c.requires.summed)
