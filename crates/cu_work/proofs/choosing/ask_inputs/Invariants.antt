use Rattle.std.proofs.Common.{◌+◌}
use Rattle.std.specs.HashSet.{contains_text}
use Rattle.cu_work.proofs.AskedTasks.{InputsSoFar}
use Rattle.cu_work.proofs.choosing.ask_inputs.Given as goal

abbrev pub invariant-loop-cell : goal.invariant-loop-cell
invariant-loop-cell g l =
    InputsSoFar l.plan l.part (l.retries + 1) l.task (contains_text l.fn.known, contains_text l.known) (g.D.PutStore.shown l.fn.depot, g.D.PutStore.shown l.depot) l.cell-iterator
