-- Axes as a form names them (Python array API: from -rank to rank - 1, a negative one counted from the end).
use Rattle.std.specs.Prelude.{ℕ, ◌-◌, nat_lt, Bool, true, false, not, ℤ, pos, negsuc, List, [], ◌∷◌, replicate, slice_set, get_or, Option, Some, None, if◌then◌else◌}
use Rattle.cu_result.specs.Options.{◌>>=◌, when}

abbrev pub axis_of : ℤ → ℕ → Option ℕ
axis_of (pos d) rank = if nat_lt d rank then Some d else None
axis_of (negsuc d) rank = if nat_lt d rank then Some (rank - 1 - d) else None

-- The axes that a list names, added to those that are marked: none where an entry is no axis, or names one that is marked.
-- The marks are a truth for each axis that an array may have.
abbrev pub marked_after : ℕ → List Bool → List ℤ → Option (List Bool)
marked_after rank marks [] = Some marks
marked_after rank marks (d ∷ ds) =
    axis_of d rank >>= λ axis. when (not (get_or marks axis false)) >>= λ _. marked_after rank (slice_set marks axis true) ds

-- the distinct axes that a list names
abbrev pub marked_of : ℕ → List ℤ → Option (List Bool)
marked_of rank ds = marked_after rank (replicate 6 false) ds

-- each axis
abbrev pub all_marked : List Bool
all_marked = replicate 6 true
