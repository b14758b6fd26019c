use Rattle.cu_num.proofs.Masked.{masked}
use Rattle.cu_num.proofs.wrapping.unsigned.Goals as goal

pub returns : goal.returns
returns c = masked c.args.x c.power.result c.args.width c.ranges.x (record { sfits = c.power.type_inv }) c.power.ensures.value c.power.ensures.bounded c.requires
