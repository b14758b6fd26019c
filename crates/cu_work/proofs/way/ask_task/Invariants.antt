use Rattle.std.proofs.Common.{◌+◌}
use Rattle.cu_work.proofs.Asking.{CellsSoFar}
use Rattle.cu_work.proofs.way.ask_task.Given as goal

abbrev pub invariant-loop-cell : goal.invariant-loop-cell
invariant-loop-cell g l = CellsSoFar (l.retries + 1) l.plan l.op l.task (g.D.PutStore.shown l.fn.depot, g.D.PutStore.shown l.depot) l.cell-iterator
