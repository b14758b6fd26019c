use Rattle.std.proofs.Common.{◌+◌}
use Rattle.std.specs.Prelude.{Ok}
use Rattle.cu_work.specs.Order.{operation_keys, IsAsked}
use Rattle.cu_work.proofs.way.ask_operation.Given as goal

abbrev pub invariant-loop-task : goal.invariant-loop-task
invariant-loop-task g l = IsAsked (l.retries + 1) (g.D.PutStore.shown l.fn.depot) (g.D.PutStore.shown l.depot) (operation_keys l.plan l.op l.task) (Ok tt)
