-- The tasks of the operations so far.
use Rattle.std.proofs.Common.{◌≡◌, replicate, false}
use Rattle.cu_table.specs.Numbers.{first_task}
use Rattle.cu_work.proofs.memory.undone_list.Given as goal

abbrev pub invariant-loop-op : goal.invariant-loop-op
invariant-loop-op l = l.done.items ≡ replicate (first_task l.plan l.op) false
