use Rattle.std.proofs.Common.{◌≡◌}
use Rattle.cu_table.specs.Numbers.{first_task}
use Rattle.cu_work.proofs.find.count_tasks.Given as goal

abbrev pub invariant-loop-op : goal.invariant-loop-op
invariant-loop-op l = l.count ≡ first_task l.plan l.op
