use Rattle.std.proofs.Common.{◌∙◌}
use Rattle.cu_num.proofs.Multiplied.{multiplied}
use Rattle.cu_num.proofs.Masked.{passed}
use Rattle.cu_num.proofs.scalars.multiply.Goals as goal

pub returns : goal.returns
returns c = passed c.wrap.result _ (record { sfits = c.wrap.type_inv }) (c.wrap.ensures.value ∙ multiplied c.args.t c.args.x c.args.y c.ranges.x c.ranges.y c.requires.first c.requires.second)
