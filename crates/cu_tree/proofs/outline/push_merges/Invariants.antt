use Rattle.std.proofs.Common.{◌≡◌, ◌+◌, ◌++◌, drop, length}
use Rattle.cu_tree.specs.Outlines.{merges_outline}
use Rattle.cu_tree.specs.Partials.{AreMerges}
use Rattle.cu_tree.proofs.outline.push_merges.Given as goal

abbrev pub invariant-loop-at : goal.invariant-loop-at
invariant-loop-at l = record {
  whole : l.outline.items ++ merges_outline l.values l.bytes l.before (drop l.at l.rounds) l.made ≡ l.initial.outline.items ++ merges_outline l.values l.bytes l.partial l.rounds l.made;
  rule : AreMerges l.before (drop l.at l.rounds);
  size : length l.outline.items ≡ length l.initial.outline.items + l.at;
}
