use Rattle.std.proofs.Common.{◌≡◌, ◌++◌, drop, length, map}
use Rattle.cu_lower_view.specs.Axes.{named_axis}
use Rattle.cu_lower_view.proofs.axes.named_axes.Given as goal

abbrev pub invariant-loop-number : goal.invariant-loop-number
invariant-loop-number l = record {
  count : length l.axes.items ≡ l.number-index;
  whole : map (named_axis l.rank) l.numbers ≡ l.axes.items ++ map (named_axis l.rank) (drop l.number-index l.numbers);
}
