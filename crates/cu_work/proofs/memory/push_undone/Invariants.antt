-- So many tasks were appended.
use Rattle.std.proofs.Common.{◌≡◌, ◌++◌, replicate, false}
use Rattle.cu_work.proofs.memory.push_undone.Given as goal

abbrev pub invariant-loop : goal.invariant-loop
invariant-loop l = l.done.items ≡ l.initial.done.items ++ replicate l.counter false
