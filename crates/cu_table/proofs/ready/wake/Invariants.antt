use Rattle.std.proofs.Common.{length}
use Rattle.cu_table.specs.Queue.{watchers_of}
use Rattle.cu_table.proofs.Wakes.{WokenSoFar}
use Rattle.cu_table.proofs.ready.wake.Given as goal

abbrev pub invariant-loop-number : goal.invariant-loop-number
invariant-loop-number l = WokenSoFar l.tasks l.states l.thing l.fn.queue l.queue

abbrev pub decreases-loop-number : goal.decreases-loop-number
decreases-loop-number l = length (watchers_of l.queue l.thing)
