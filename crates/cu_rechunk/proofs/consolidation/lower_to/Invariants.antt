use Rattle.std.proofs.Common.{◌≡◌, ℕ, ◌<◌, length, get_or}
use Rattle.cu_rechunk.specs.Stages.{lowered_size}
use Rattle.cu_rechunk.proofs.consolidation.lower_to.Given as goal

abbrev pub invariant-loop-axis : goal.invariant-loop-axis
invariant-loop-axis l = record {
  ranks : length l.sizes ≡ length l.read;
  done : (k : ℕ) → k < l.axis → get_or l.sizes k 0 ≡ lowered_size (get_or l.shape k 0) (get_or l.read k 0) (get_or l.write k 0);
}
