use Rattle.cu_tree.proofs.Outlines.{cumulative_is, cumulative_light}
use Rattle.cu_tree.proofs.outline.cumulative_outline.Goals as goal

pub returns-clause-kept : goal.returns-clause-kept
returns-clause-kept c = rw (c.summed.ensures) (cumulative_is c.args.split_every c.args.made.now c.args.source.now c.args.axis c.requires.several c.requires.summed)

pub returns-clause-light : goal.returns-clause-light
returns-clause-light c = rw (c.summed.ensures) (cumulative_light c.args.split_every c.args.made.now c.args.source.now c.args.axis c.ranges.split_every.fits c.requires.summed)
