use Rattle.std.proofs.Common.{◌≡◌, map, take}
use Rattle.cu_table.specs.Machine.{opened}
use Rattle.cu_table.proofs.open.opened_tasks.Given as goal

abbrev pub invariant-loop-is_done : goal.invariant-loop-is_done
invariant-loop-is_done l = l.states.items ≡ map opened (take l.is_done-index l.done)
