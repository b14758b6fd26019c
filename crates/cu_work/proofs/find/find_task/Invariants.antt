use Rattle.std.proofs.Common.{◌+◌}
use Rattle.cu_work.proofs.Searching.{AskedSoFar}
use Rattle.cu_work.proofs.find.find_task.Given as goal

abbrev pub invariant-loop-cell : goal.invariant-loop-cell
invariant-loop-cell g l = AskedSoFar (l.retries + 1) l.plan (l.op, l.task) (g.D.PutStore.shown l.fn.depot, g.D.PutStore.shown l.depot) l.cell-iterator l.all
