use Rattle.std.proofs.Common.{◌≡◌, ◌-◌, map}
use Rattle.std.specs.Prelude.{option_map}
use Rattle.std.specs.List.{range_with_len}
use Rattle.cu_lower_view.specs.Axes.{byte_of, is_turned}
use Rattle.cu_lower_view.proofs.axes.turned_axes.Given as goal

abbrev pub invariant-loop-axis : goal.invariant-loop-axis
invariant-loop-axis l = l.byte ≡ byte_of (map (is_turned l.rank (option_map (λ a. a.now) l.axes)) (range_with_len l.axis (l.rank - l.axis)))
