-- Elements along one axis: prefix sums (Python array API 2023.12, `cumulative_sum`) and groups by labels (this project's own operators).
use Rattle.std.specs.Prelude.{ℕ, suc, ℤ, List, slice_index, slice_set, Option, Some, None}
use Rattle.std.specs.List.{range_with_len}
use Rattle.cu_reduce.specs.Prefix.{sum_below}
use Rattle.cu_semantics.specs.Index.{axis_in}

-- the axis along which is summed: the one that is named, or the first
abbrev pub line_axis : ℕ → Option ℤ → ℕ
line_axis rank None = 0
line_axis rank (Some d) = axis_in rank d

-- the elements of an array along an axis, through an index
abbrev pub along : (List ℕ → ℤ) → ℕ → List ℕ → ℕ → ℤ
along element axis idx k = element (slice_set idx axis k)

-- the exact sum of the elements of the line through an index, up to it
abbrev pub sum_up_to : (List ℕ → ℤ) → ℕ → List ℕ → ℤ
sum_up_to element axis idx = sum_below (along element axis idx) (suc (slice_index idx axis))

-- the places of an axis
abbrev pub places_on : List ℕ → ℕ → List ℕ
places_on shape axis = range_with_len 0 (slice_index shape axis)
