use Rattle.std.proofs.Common.{◌≡◌, ◌++◌}
use Rattle.cu_tree.specs.Sums.{sum_rounds}
use Rattle.cu_tree.proofs.sums.sum_rounds.Given as goal

abbrev pub invariant-loop-from : goal.invariant-loop-from
invariant-loop-from l = record {
  whole : sum_rounds l.split_every l.axis l.count l.count ≡ l.rounds.items ++ sum_rounds l.split_every l.axis l.from l.from;
}

abbrev pub decreases-loop-from : goal.decreases-loop-from
decreases-loop-from l = l.from
