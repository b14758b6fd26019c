use Rattle.std.proofs.Common.{arith}
use Rattle.cu_codec.proofs.Numbers.{length-coordinate-le}
use Rattle.cu_codec.proofs.keys.push_number.Goals as goal

pub push_str-requires : goal.push_str-requires
push_str-requires c =
    let short = length-coordinate-le c.args.number c.requires.small in
    grind (arith, short)

pub returns-clause-length : goal.returns-clause-length
returns-clause-length c =
    let short = length-coordinate-le c.args.number c.requires.small in
    grind (arith, short)
