use Rattle.std.proofs.Common.{◌+◌}
use Rattle.cu_work.proofs.Removing.{RemovedSoFar}
use Rattle.cu_work.proofs.removal.remove_task.Given as goal

abbrev pub invariant-loop-cell : goal.invariant-loop-cell
invariant-loop-cell g l = RemovedSoFar (l.retries + 1) l.plan l.op l.task (g.D.Depot.shown l.fn.depot, g.D.Depot.shown l.depot) l.cell-iterator
