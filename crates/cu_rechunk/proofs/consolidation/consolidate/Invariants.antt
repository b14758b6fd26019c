use Rattle.cu_rechunk.proofs.Walk.{IsWalk}
use Rattle.cu_rechunk.proofs.consolidation.consolidate.Given as goal

abbrev pub invariant-loop-axis : goal.invariant-loop-axis
invariant-loop-axis l = IsWalk l.room l.shape l.chunk l.limit l.sizes l.axis l.elements
