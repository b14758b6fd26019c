use Rattle.std.proofs.Common.{◌≡◌, ◌≤◌, ◌++◌, drop, length}
use Rattle.cu_typing_view.specs.Entries.{index_shape}
use Rattle.cu_typing_view.proofs.entries.index_shape.Given as goal

abbrev pub invariant-loop-item : goal.invariant-loop-item
invariant-loop-item l = record {
  within : l.axis ≤ length l.sizes;
  whole : index_shape l.more l.items l.sizes ≡ l.left ++ index_shape l.more (drop l.item-index l.items) (drop l.axis l.sizes);
}
