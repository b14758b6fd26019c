-- Axes and shifts as a view names them, and as its pull has them (Python array API: an axis from -rank to rank - 1, a negative one
-- counted from the end).
use Rattle.std.specs.Prelude.{ℕ, ◌+◌, ◌*◌, ◌==◌, ℤ, pos, Bool, true, List, [], ◌∷◌, map, slice_index_or, Option, Some, None, unwrap_or, if◌then◌else◌}
use Rattle.std.specs.List.{range_with_len, list_any, position_or_len}
use Rattle.cu_node.specs.Axes.{axis_of}
use Rattle.cu_origin.specs.declared.axes.Axes.{Axes}

-- the axis that a number names in an array of this rank; 0 where it names none, which typing refuses
abbrev pub named_axis : ℕ → ℤ → ℕ
named_axis rank number = unwrap_or (axis_of number rank) 0

-- the axis is one of those that are named; each one is where there is no list
abbrev pub is_turned : ℕ → Option (List ℤ) → ℕ → Bool
is_turned rank None d = true
is_turned rank (Some axes) d = list_any (λ axis. named_axis rank axis == d) axes

-- the byte of these bits, the lowest first
abbrev pub byte_of : List Bool → ℕ
byte_of [] = 0
byte_of (bit ∷ bits) = (if bit then 1 else 0) + 2 * byte_of bits

-- the set of the axes of an array of this rank that pass a test
abbrev pub axes_that : ℕ → (ℕ → Bool) → Axes
axes_that rank test = record { 0 = byte_of (map test (range_with_len 0 rank)) }

-- the shift of an axis: that of the entry that names it, and 0 where none does
abbrev pub shift_along : ℕ → List ℤ → List ℤ → ℕ → ℤ
shift_along rank shifts axes d = slice_index_or shifts (position_or_len (λ axis. named_axis rank axis == d) axes) (pos 0)

-- the shift of each axis
abbrev pub shifts_along : ℕ → List ℤ → List ℤ → List ℤ
shifts_along rank shifts axes = map (shift_along rank shifts axes) (range_with_len 0 rank)
