use Rattle.std.proofs.Common.{◌≡◌, ◌-◌, ◌++◌, length, map}
use Rattle.std.specs.List.{range_with_len}
use Rattle.cu_lower_view.specs.Axes.{shift_along, shifts_along}
use Rattle.cu_lower_view.proofs.axes.shifts_along.Given as goal

abbrev pub invariant-loop-axis : goal.invariant-loop-axis
invariant-loop-axis l = record {
  count : length l.each.items ≡ l.axis;
  whole : shifts_along l.rank l.shifts l.numbers ≡ l.each.items ++ map (shift_along l.rank l.shifts l.numbers) (range_with_len l.axis (l.rank - l.axis));
}
