-- Indices by their axes.
use Rattle.std.specs.Prelude.{ℕ, ◌==◌, ℤ, pos, negsuc, Bool, true, List, Option, Some, None, unwrap_or}
use Rattle.std.specs.List.{list_any}
use Rattle.cu_node.specs.Axes.{axis_of}

-- the axis that a number names in an array of this rank, a negative one counted from the end
abbrev pub axis_in : ℕ → ℤ → ℕ
axis_in rank axis = unwrap_or (axis_of axis rank) 0

-- the axis is one of those that are named; all are where none are
abbrev pub is_named : ℕ → Option (List ℤ) → ℕ → Bool
is_named rank None d = true
is_named rank (Some axes) d = list_any (λ axis. axis_in rank axis == d) axes

-- a whole number as a natural one; 0 for those below 0
abbrev pub natural : ℤ → ℕ
natural (pos n) = n
natural (negsuc n) = 0
