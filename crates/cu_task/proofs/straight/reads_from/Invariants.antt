use Rattle.std.proofs.Common.{ℕ, ◌<◌, get_or}
use Rattle.cu_task.specs.Straight.{ReadsFromOn}
use Rattle.cu_task.proofs.straight.reads_from.Given as goal

abbrev pub invariant-loop-axis : goal.invariant-loop-axis
invariant-loop-axis l = (k : ℕ) → k < l.axis → ReadsFromOn l.piece l.out (get_or l.part.lo k 0) k
