use Rattle.cu_typing_view.proofs.Counted.{range_up, range_down, slice_up, slice_down}
use Rattle.cu_typing_view.proofs.laws.counts_law.Goals as goal

pub returns-clause-range_up : goal.returns-clause-range_up
returns-clause-range_up c start stop s k h = range_up start stop s k h

pub returns-clause-range_down : goal.returns-clause-range_down
returns-clause-range_down c start stop s k = range_down start stop s k

pub returns-clause-slice_up : goal.returns-clause-slice_up
returns-clause-slice_up c start stop s n k h = slice_up start stop s n k h

pub returns-clause-slice_down : goal.returns-clause-slice_down
returns-clause-slice_down c start stop s n k = slice_down start stop s n k
