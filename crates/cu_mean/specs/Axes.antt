-- Axes as a list that may stand for all.
use Rattle.std.specs.Prelude.{ℤ, Bool, List, Option, Some, None, if◌then◌else◌}
use Rattle.cu_mean.specs.declared.axes.NamedAxes.{NamedAxes}

-- all axes, or those that a list names
abbrev pub axes_from : Bool → List ℤ → Option (List ℤ)
axes_from all numbers = if all then None else Some numbers

abbrev pub axes_in : NamedAxes → Option (List ℤ)
axes_in axes = axes_from axes.all axes.numbers.now
