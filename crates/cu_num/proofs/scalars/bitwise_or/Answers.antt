use Rattle.std.proofs.Common.{ap, ◌∙◌, bit_or}
use Rattle.std.proofs.lemmas.Nat.{or_lt}
use Rattle.cu_num.specs.Wrap.{wrapped}
use Rattle.cu_num.proofs.Masked.{passed, bits_of}
use Rattle.cu_num.proofs.scalars.bitwise_or.Goals as goal

pub returns : goal.returns
returns c = passed c.wrap.result _ (record { sfits = c.wrap.type_inv }) (c.wrap.ensures.value ∙ ap (wrapped c.args.t)
    (bits_of bit_or or_lt c.args.x c.args.y c.unsigned.result c.unsigned-2.result c.width-width.result _ c.ranges.x c.ranges.y c.unsigned.ensures c.unsigned-2.ensures c.width-width.ensures.value c.width-width.ensures.greatest))
