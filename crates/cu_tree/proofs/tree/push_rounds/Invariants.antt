use Rattle.std.proofs.Common.{◌≡◌, ◌++◌}
use Rattle.cu_tree.specs.Rounds.{axis_rounds}
use Rattle.cu_tree.proofs.tree.push_rounds.Given as goal

abbrev pub invariant-loop-from : goal.invariant-loop-from
invariant-loop-from l = record {
  whole : l.initial.rounds.items ++ axis_rounds l.split_every l.axis l.count l.count ≡ l.rounds.items ++ axis_rounds l.split_every l.axis l.from l.from;
}

abbrev pub decreases-loop-from : goal.decreases-loop-from
decreases-loop-from l = l.from
