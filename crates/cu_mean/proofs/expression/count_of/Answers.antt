use Rattle.cu_typing_view.proofs.Exceeded.{elements_small}
use Rattle.cu_mean.proofs.expression.count_of.Goals as goal

pub unwrap-requires : goal.unwrap-requires
unwrap-requires c = c.elements.ensures.counted.1 (elements_small c.args.info.now c.requires)
