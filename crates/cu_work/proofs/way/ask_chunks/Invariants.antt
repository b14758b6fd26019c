use Rattle.std.proofs.Common.{◌+◌}
use Rattle.std.specs.Prelude.{Ok}
use Rattle.cu_work.specs.Order.{plan_keys, IsAsked}
use Rattle.cu_work.proofs.way.ask_chunks.Given as goal

abbrev pub invariant-loop-op : goal.invariant-loop-op
invariant-loop-op g l = IsAsked (l.retries + 1) (g.D.PutStore.shown l.fn.depot) (g.D.PutStore.shown l.depot) (plan_keys l.plan l.op) (Ok tt)
