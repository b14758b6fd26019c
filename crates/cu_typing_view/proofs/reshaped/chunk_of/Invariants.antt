use Rattle.std.proofs.Common.{◌≡◌, drop, length}
use Rattle.cu_typing_view.specs.Reshaped.{left_before, chunk_of}
use Rattle.cu_typing_view.proofs.reshaped.chunk_of.Given as goal

abbrev pub invariant-loop-axis : goal.invariant-loop-axis
invariant-loop-axis l = record {
  rank : length l.chunk ≡ length l.sizes;
  left : l.left ≡ left_before l.count (drop l.axis l.sizes);
  done : drop l.axis l.chunk ≡ chunk_of l.count (drop l.axis l.sizes);
}
