use Rattle.cu_typing_view.proofs.PositiveSizes.{length-unmarked, positive-unmarked}
use Rattle.cu_typing_view.proofs.new_shapes.type_squeeze.Goals as goal

pub within_limits-requires-clause-ranks : goal.within_limits-requires-clause-ranks
within_limits-requires-clause-ranks c = rw (c.unmarked.ensures, c.unmarked-2.ensures) (length-unmarked _ _ _ c.requires.ranks)

pub within_limits-requires-clause-positive : goal.within_limits-requires-clause-positive
within_limits-requires-clause-positive c = rw c.unmarked-2.ensures (positive-unmarked _ _ c.requires.positive)
