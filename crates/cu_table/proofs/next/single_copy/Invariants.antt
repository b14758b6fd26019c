use Rattle.std.proofs.Common.{ℕ, ◌<◌, get_or}
use Rattle.cu_table.specs.declared.state.RunningCopy.{RunningCopy}
use Rattle.cu_table.specs.Numbers.{task_number}
use Rattle.cu_table.specs.Machine.{no_task, IsSingleState}
use Rattle.cu_table.proofs.next.single_copy.Given as goal

abbrev pub invariant-loop-copy : goal.invariant-loop-copy
invariant-loop-copy l = (k : ℕ) (d : RunningCopy) → k < l.copy-index → IsSingleState (get_or l.states (task_number l.tasks (get_or l.copies k d).op (get_or l.copies k d).task) no_task) → ⊥
