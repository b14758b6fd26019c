use Rattle.std.proofs.Common.{◌≡◌, ◌+◌, ◌==◌, drop}
use Rattle.std.specs.List.{position_or_len}
use Rattle.cu_lower_view.specs.Axes.{named_axis}
use Rattle.cu_lower_view.proofs.axes.place_of.Given as goal

abbrev pub invariant-loop-place : goal.invariant-loop-place
invariant-loop-place l = l.place + position_or_len (λ number. named_axis l.rank number == l.axis) (drop l.place l.numbers) ≡ position_or_len (λ number. named_axis l.rank number == l.axis) l.numbers
