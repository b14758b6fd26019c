use Rattle.std.proofs.Common.{◌≡◌, ◌++◌, drop}
use Rattle.cu_tree.specs.Rounds.{rounds_from}
use Rattle.cu_tree.proofs.tree.rounds.Given as goal

abbrev pub invariant-loop-axis : goal.invariant-loop-axis
invariant-loop-axis l = record {
  whole : rounds_from l.axes l.split_every 0 l.counts ≡ l.rounds.items ++ rounds_from l.axes l.split_every l.axis (drop l.axis l.counts);
}
