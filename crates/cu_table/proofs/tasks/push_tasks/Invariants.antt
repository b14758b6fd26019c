use Rattle.std.proofs.Common.{◌≡◌, ◌++◌}
use Rattle.cu_table.specs.Queue.{task_ids}
use Rattle.cu_table.proofs.tasks.push_tasks.Given as goal

abbrev pub invariant-loop-task : goal.invariant-loop-task
invariant-loop-task l = l.ids.items ≡ l.fn.ids.items ++ task_ids l.op l.task
