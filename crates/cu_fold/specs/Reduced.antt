-- Which axes of a region are reduced.
use Rattle.std.specs.Prelude.{ℕ, ◌==◌, Bool}
use Rattle.cu_origin.specs.Pull.{has_axis}
use Rattle.cu_fold.specs.declared.levels.Reduced.{Reduced}
use Rattle.cu_fold.specs.declared.levels.Reduced.TheVariants.{Set, One}

-- those of a set, or one
abbrev pub is_folded : Reduced → ℕ → Bool
is_folded (Set axes) = has_axis axes
is_folded (One axis) = λ d. d == axis
