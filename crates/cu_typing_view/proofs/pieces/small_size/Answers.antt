use Rattle.std.proofs.Common.{arith}
use Rattle.cu_typing_view.proofs.Exceeded.{size_small}
use Rattle.cu_typing_view.proofs.pieces.small_size.Goals as goal

pub returns-clause-small : goal.returns-clause-small
returns-clause-small c = let s = size_small c.args.arg.now c.args.axis c.requires in let e = c.size_at.ensures in omega arith
