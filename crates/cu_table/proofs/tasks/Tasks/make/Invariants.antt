use Rattle.cu_table.specs.Queue.{HasNumbersBelow}
use Rattle.cu_table.proofs.tasks.Tasks.make.Given as goal

abbrev pub invariant-loop-op : goal.invariant-loop-op
invariant-loop-op l = HasNumbersBelow l.fn.plan l.op l.first.items l.ids.items
