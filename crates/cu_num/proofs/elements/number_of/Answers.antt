use Rattle.std.proofs.Common.{arith}
use Rattle.cu_num.proofs.Bytes.{number_of_eight}
use Rattle.cu_num.proofs.elements.number_of.Goals as goal

pub returns-in-len8 : goal.returns-in-len8
returns-in-len8 c = omega (arith, number_of_eight c.args.bytes.now (omega arith))
