use Rattle.std.proofs.Common.{◌∙◌}
use Rattle.cu_shape.proofs.Places.{inside-length}
use Rattle.cu_mean.proofs.Along.{steps_apart}
use Rattle.cu_mean.proofs.reductions.element_by_index.Goals as goal

pub sum_of-requires-clause-ranks : goal.sum_of-requires-clause-ranks
sum_of-requires-clause-ranks c = inside-length c.args.sizes.now c.index_at-step.result c.index_at-step.ensures.inside ∙ c.requires.ranks

pub sum_of-requires-clause-apart : goal.sum_of-requires-clause-apart
sum_of-requires-clause-apart c = steps_apart c.args.start.now c.args.sizes.now c.index_at-step.result c.index_at-step.ensures.inside c.requires.ranks c.requires.apart
