use Rattle.std.proofs.Common.{◌+◌}
use Rattle.std.specs.Prelude.{Ok}
use Rattle.cu_work.specs.Order.{operation_keys}
use Rattle.cu_work.specs.Removal.{AreRemoved}
use Rattle.cu_work.proofs.removal.remove_operation.Given as goal

abbrev pub invariant-loop-task : goal.invariant-loop-task
invariant-loop-task g l = AreRemoved (l.retries + 1) (operation_keys l.plan l.op l.task) (g.D.Depot.shown l.fn.depot) (g.D.Depot.shown l.depot) (Ok tt)
