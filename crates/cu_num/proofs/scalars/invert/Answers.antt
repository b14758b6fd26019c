use Rattle.std.proofs.Common.{ap, ◌∙◌}
use Rattle.cu_num.specs.Wrap.{wrapped}
use Rattle.cu_num.proofs.Masked.{passed, complement}
use Rattle.cu_num.proofs.scalars.invert.Goals as goal

pub returns : goal.returns
returns c = passed c.wrap.result _ (record { sfits = c.wrap.type_inv }) (c.wrap.ensures.value ∙ ap (wrapped c.args.t)
    (complement c.args.x c.power.result c.unsigned.result c.width-width.result _ c.ranges.x (record { sfits = c.power.type_inv }) (record { sfits = c.unsigned.type_inv }) c.power.ensures.value c.unsigned.ensures c.power.ensures.bounded c.width-width.ensures.value))
