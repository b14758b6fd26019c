use Rattle.std.proofs.Common.{◌≡◌, drop}
use Rattle.cu_tree.specs.Sums.{AreSumRounds}
use Rattle.cu_lower_reduce.specs.Partials.{partial_after}
use Rattle.cu_lower_reduce.proofs.cumulative.sums_after.Given as goal

abbrev pub invariant-loop-at : goal.invariant-loop-at
invariant-loop-at l = record {
  value : l.after ≡ partial_after l.sums l.rounds l.at;
  rule : AreSumRounds l.split_every l.axis l.after.dims (drop l.at l.rounds);
}
