use Rattle.cu_tree.proofs.SumArrays.{axis_below, few_sums}
use Rattle.cu_tree.proofs.sums.sums_count.Goals as goal

pub at-requires : goal.at-requires
at-requires c = rw (c.sums_array.ensures.sums) (axis_below c.args.made.now c.args.source.now c.args.axis c.requires.summed)

pub returns-clause-few : goal.returns-clause-few
returns-clause-few c = rw (c.at.ensures, c.sums_array.ensures.sums) (few_sums c.args.made.now c.args.source.now c.args.axis c.requires.summed)
