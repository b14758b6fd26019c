use Rattle.std.proofs.Common.{◌≡◌, length, take}
use Rattle.cu_origin.specs.Pull.{counts_of_runs}
use Rattle.cu_view.proofs.origins.counts_of_runs.Given as goal

abbrev pub invariant-loop-run : goal.invariant-loop-run
invariant-loop-run l = record {
  rank : length l.counts ≡ l.run-index;
  done : l.counts ≡ counts_of_runs (take l.run-index l.runs);
}
