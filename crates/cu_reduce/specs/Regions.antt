-- The indices of a region in row-major order.
use Rattle.std.specs.Prelude.{ℕ, List, map}
use Rattle.cu_shape.specs.Index.{sums, differences, indices_of}

-- from `lo` to below `hi` on each axis
abbrev pub region_indices : List ℕ → List ℕ → List (List ℕ)
region_indices lo hi = map (sums lo) (indices_of (differences hi lo))
