use Rattle.std.proofs.Common.{◌≡◌, ◌++◌, drop, length}
use Rattle.cu_typing_view.specs.Reshaped.{filled}
use Rattle.cu_typing_view.proofs.reshaped.filled.Given as goal

abbrev pub invariant-loop-size : goal.invariant-loop-size
invariant-loop-size l = record {
  rank : length l.sizes ≡ l.size-index;
  whole : filled l.left l.shape ≡ l.sizes ++ filled l.left (drop l.size-index l.shape);
}
