use Rattle.std.proofs.Common.{◌≡◌, drop}
use Rattle.cu_semantics.specs.View.{indexed}
use Rattle.cu_mean.specs.Indexing.{read_from, IsFrontWithin}
use Rattle.cu_mean.proofs.indexing.indexed.Given as goal

abbrev pub invariant-loop-item : goal.invariant-loop-item
invariant-loop-item l = record {
  front : IsFrontWithin l.shape l.idx l.front;
  whole : read_from l.spare l.shape l.idx (drop l.item-index l.items) l.front ≡ indexed l.items l.shape l.idx;
}
