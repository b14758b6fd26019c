-- Sets of axes, as operations have them.
use Rattle.std.specs.Prelude.{ℕ, ◌+◌, ◌*◌, ◌^◌, Bool, List, [], ◌∷◌, Option, Some, None, if◌then◌else◌}
use Rattle.cu_origin.specs.declared.axes.Axes.{Axes}

-- the number whose bits are these marks, the lowest first
abbrev pub bits_of : List Bool → ℕ
bits_of [] = 0
bits_of (m ∷ ms) = (if m then 1 else 0) + 2 * bits_of ms

-- the axes that are marked
abbrev pub marked_axes : List Bool → Axes
marked_axes marks = record { 0 = bits_of marks }

-- the axes along which a place is sought: one, or all that an array may have
abbrev pub sought_axes : Option ℕ → Axes
sought_axes (Some axis) = record { 0 = 2 ^ axis }
sought_axes None = record { 0 = 63 }
