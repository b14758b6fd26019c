use Rattle.std.proofs.Common.{◌≡◌, ◌≤◌, ◌++◌, drop, length}
use Rattle.cu_typing_view.specs.Entries.{index_chunk}
use Rattle.cu_typing_view.proofs.entries.index_chunk.Given as goal

abbrev pub invariant-loop-item : goal.invariant-loop-item
invariant-loop-item l = record {
  within : l.axis ≤ length l.array.dims;
  whole : index_chunk l.more l.items l.array.dims l.array.chunk ≡ l.left ++ index_chunk l.more (drop l.item-index l.items) (drop l.axis l.array.dims) (drop l.axis l.array.chunk);
}
