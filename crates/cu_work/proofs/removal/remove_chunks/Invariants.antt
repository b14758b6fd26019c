use Rattle.std.proofs.Common.{◌+◌}
use Rattle.std.specs.Prelude.{Ok}
use Rattle.cu_work.specs.Order.{plan_keys}
use Rattle.cu_work.specs.Removal.{AreRemoved}
use Rattle.cu_work.proofs.removal.remove_chunks.Given as goal

abbrev pub invariant-loop-op : goal.invariant-loop-op
invariant-loop-op g l = AreRemoved (l.retries + 1) (plan_keys l.plan l.op) (g.D.Depot.shown l.fn.depot) (g.D.Depot.shown l.depot) (Ok tt)
