use Rattle.cu_work.proofs.TriedTasks.{TriesSoFar}
use Rattle.cu_work.proofs.trying.run_tries.Given as goal

abbrev pub invariant-loop-failures : goal.invariant-loop-failures
invariant-loop-failures g l = TriesSoFar l.plan l.op l.task l.failures (g.D.PutStore.shown l.fn.depot, g.D.PutStore.shown l.depot) l.memory
