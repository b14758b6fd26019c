use Rattle.cu_lower_view.proofs.Loops.{Taking}
use Rattle.cu_lower_view.proofs.entries.axes_taken.Given as goal

abbrev pub invariant-loop-item : goal.invariant-loop-item
invariant-loop-item l = Taking l.more l.item-index l.axis l.items l.sizes l.taken.items
