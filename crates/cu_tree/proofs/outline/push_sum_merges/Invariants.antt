use Rattle.std.proofs.Common.{◌≡◌, ◌+◌, ◌++◌, drop, length}
use Rattle.cu_tree.specs.Outlines.{sum_merges_outline}
use Rattle.cu_tree.specs.Sums.{AreSumRounds}
use Rattle.cu_tree.proofs.outline.push_sum_merges.Given as goal

abbrev pub invariant-loop-round : goal.invariant-loop-round
invariant-loop-round l = record {
  whole : l.outline.items ++ sum_merges_outline l.bytes l.before (drop l.round-index l.rounds) ≡ l.initial.outline.items ++ sum_merges_outline l.bytes l.sums l.rounds;
  rule : AreSumRounds l.split_every l.axis l.before.dims (drop l.round-index l.rounds);
  size : length l.outline.items ≡ length l.initial.outline.items + l.round-index;
}
