use Rattle.std.proofs.Common.{◌≡◌, ◌++◌, drop, length}
use Rattle.cu_typing_view.specs.Rearranged.{permuted_sizes}
use Rattle.cu_typing_view.proofs.rearranged.permuted.Given as goal

abbrev pub invariant-loop-axis : goal.invariant-loop-axis
invariant-loop-axis l = record {
  rank : length l.moved ≡ l.axis-index;
  whole : permuted_sizes l.axes l.numbers ≡ l.moved ++ permuted_sizes (drop l.axis-index l.axes) l.numbers;
}
