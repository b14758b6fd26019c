use Rattle.cu_work.proofs.TriedTasks.{RunSoFar}
use Rattle.cu_work.proofs.trying.run_chosen.Given as goal

abbrev pub invariant-loop-number : goal.invariant-loop-number
invariant-loop-number g l = RunSoFar l.plan l.part l.chosen l.retries l.number (g.D.PutStore.shown l.fn.depot, g.D.PutStore.shown l.depot) l.memory l.counts
