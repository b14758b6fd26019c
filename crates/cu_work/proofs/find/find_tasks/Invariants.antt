use Rattle.std.proofs.Common.{◌≡◌, ◌+◌}
use Rattle.cu_table.specs.Numbers.{first_task}
use Rattle.cu_work.specs.Search.{IsSearched}
use Rattle.cu_work.proofs.find.find_tasks.Given as goal

abbrev pub invariant-loop-op : goal.invariant-loop-op
invariant-loop-op g l = (l.first ≡ first_task l.plan l.op) × IsSearched (l.retries + 1) l.plan l.op 0 (g.D.PutStore.shown l.fn.depot, g.D.PutStore.shown l.depot) l.done
