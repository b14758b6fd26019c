use Rattle.std.proofs.Common.{◌≡◌, ◌≤◌, ◌++◌, drop, length}
use Rattle.cu_lower_view.specs.Runs.{index_runs}
use Rattle.cu_lower_view.proofs.entries.index_runs.Given as goal

abbrev pub invariant-loop-item : goal.invariant-loop-item
invariant-loop-item l = record {
  within : l.axis ≤ length l.sizes;
  whole : index_runs l.more l.items l.sizes ≡ l.runs.items ++ index_runs l.more (drop l.item-index l.items) (drop l.axis l.sizes);
}
