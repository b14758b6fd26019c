-- Reading through broadcasting, for the bounds of regions.
use Rattle.std.specs.Prelude.{ℕ, ◌-◌, ◌==◌, List, length, drop, if◌then◌else◌}
use Rattle.cu_shape.specs.Index.{axis_by_axis}

-- the numbers of a result's axes that an array has as well, where an axis of size 1 gets this number (broadcasting)
abbrev pub back_as : ℕ → List ℕ → List ℕ → List ℕ
back_as one shape numbers = axis_by_axis (λ n i. if n == 1 then one else i) shape (drop (length numbers - length shape) numbers)
