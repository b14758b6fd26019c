use Rattle.std.proofs.Common.{◌≡◌, drop}
use Rattle.cu_tree.specs.Partials.{AreMerges}
use Rattle.cu_lower_reduce.specs.Partials.{partial_after}
use Rattle.cu_lower_reduce.proofs.merges.partial_after.Given as goal

abbrev pub invariant-loop-at : goal.invariant-loop-at
invariant-loop-at l = record {
  value : l.after ≡ partial_after l.partial l.rounds l.at;
  rule : AreMerges l.after (drop l.at l.rounds);
}
