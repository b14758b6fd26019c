use Rattle.cu_table.proofs.Lines.{CountedSoFar}
use Rattle.cu_table.proofs.open.first_undone.Given as goal

abbrev pub invariant-loop-op : goal.invariant-loop-op
invariant-loop-op l = CountedSoFar l.tasks l.states l.op l.at l.by_op.items
