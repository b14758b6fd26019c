use Rattle.cu_table.proofs.Firsts.{FirstSoFar}
use Rattle.cu_table.proofs.open.first_queue.Given as goal

abbrev pub invariant-loop-number : goal.invariant-loop-number
invariant-loop-number l = FirstSoFar l.tasks l.states l.number l.queue
