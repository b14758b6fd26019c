use Rattle.std.proofs.Common.{arith}
use Rattle.cu_take.proofs.Sums.{byte_sums, short_sums}
use Rattle.cu_take.proofs.eights.add_narrow_part.Goals as goal

pub add_part-requires-clause-sums : goal.add_part-requires-clause-sums
add_part-requires-clause-sums c = byte_sums c.args.from (omega arith)

pub add_part-requires-else-size-eq1-clause-sums : goal.add_part-requires-else-size-eq1-clause-sums
add_part-requires-else-size-eq1-clause-sums c = short_sums c.args.from c.requires.size
