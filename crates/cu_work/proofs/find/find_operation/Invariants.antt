use Rattle.std.proofs.Common.{◌+◌}
use Rattle.cu_work.proofs.SearchedTasks.{OperationSoFar}
use Rattle.cu_work.proofs.find.find_operation.Given as goal

abbrev pub invariant-loop-task : goal.invariant-loop-task
invariant-loop-task g l = OperationSoFar (l.retries + 1) l.plan (l.op, l.task) (g.D.PutStore.shown l.fn.depot, g.D.PutStore.shown l.depot) (l.fn.done, l.done)
