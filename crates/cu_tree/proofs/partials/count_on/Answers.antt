use Rattle.cu_tree.proofs.Sizes.{count_few}
use Rattle.cu_tree.proofs.partials.count_on.Goals as goal

pub returns-clause-few : goal.returns-clause-few
returns-clause-few c = rw (c.div_ceil.ensures, c.at.ensures, c.at-2.ensures) (count_few c.args.info.now c.args.axis c.requires.info c.requires.axis)
