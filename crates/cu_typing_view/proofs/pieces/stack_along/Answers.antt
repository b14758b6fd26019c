use Rattle.std.proofs.Common.{arith}
use Rattle.cu_typing_view.proofs.PositiveSizes.{positive-insert}
use Rattle.cu_typing_view.proofs.pieces.stack_along.Goals as goal

pub within_limits-requires-clause-positive : goal.within_limits-requires-clause-positive
within_limits-requires-clause-positive c = rw c.inserted.ensures (positive-insert c.first_of-first.result.chunk c.args.axis 1 (omega arith) c.first_of-first.ensures.kept.positive)
