use Rattle.std.proofs.Common.{◌≡◌, ℕ, ◌<◌, length, get_or}
use Rattle.cu_view.specs.Boxes.{no_run}
use Rattle.cu_view.proofs.Taken.{taken_on}
use Rattle.cu_view.proofs.origins.taken_by.Given as goal

abbrev pub invariant-loop-axis : goal.invariant-loop-axis
invariant-loop-axis l = record {
  ranks : length l.read ≡ length l.at;
  done : (k : ℕ) → k < l.axis → get_or l.read k 0 ≡ taken_on no_run l.runs l.at k;
}
