use Rattle.std.proofs.Common.{◌+◌, ◌-◌}
use Rattle.std.specs.HashSet.{contains_text}
use Rattle.cu_work.specs.Asked.{asking_of}
use Rattle.cu_work.proofs.AskedTasks.{ChosenSoFar}
use Rattle.cu_work.proofs.choosing.choose_tasks.Given as goal

abbrev pub invariant-loop-task : goal.invariant-loop-task
invariant-loop-task g l =
    ChosenSoFar (asking_of l.plan l.part (l.retries + 1) (g.D.PutStore.shown l.fn.depot)) (l.task - l.part.from) (contains_text l.known) (g.D.PutStore.shown l.depot) l.chosen.items
