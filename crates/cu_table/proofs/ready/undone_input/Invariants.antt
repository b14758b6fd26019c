use Rattle.cu_table.proofs.Inputs.{InputsSoFar}
use Rattle.cu_table.proofs.ready.undone_input.Given as goal

abbrev pub invariant-loop-cell : goal.invariant-loop-cell
invariant-loop-cell l = InputsSoFar l.tasks l.states l.op l.task l.last l.cell-iterator
