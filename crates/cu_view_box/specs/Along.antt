-- The axes of a part of an array, with the strides along which its elements are copied. This project's own rules.
use Rattle.std.specs.Prelude.{◌≡◌, ℕ, ◌+◌, ◌-◌, ◌<◌, List, slice_index_or, min}
use Rattle.cu_box.specs.Strided.{up, down}
use Rattle.cu_box.specs.declared.strides.Axis.{Axis}
use Rattle.cu_box.specs.declared.strides.Stride.{Stride}
use Rattle.cu_grid.specs.declared.region.Region.{Region}
use Rattle.cu_view_box.specs.Row.{row_index, row_count}

-- the place `next` is a stride behind the place `first`, or before it
abbrev pub IsStrideTo : Stride → ℕ → ℕ → Type 0
IsStrideTo stride first next = up stride + first ≡ next + down stride

-- axis number k of a part whose indices have the places `from` in one buffer and `to` in another: its strides go from the places of
-- the part's first index to those of the next one along the axis
pub record IsAxisOf (from to : List ℕ → ℕ) (part : Region) (k : ℕ) (axis : Axis) : Type 0 where
  pub count : axis.count ≡ row_count part k
  pub read : IsStrideTo axis.from (from part.lo) (from (row_index part.lo k (min 1 (axis.count - 1))))
  pub written : IsStrideTo axis.to (to part.lo) (to (row_index part.lo k (min 1 (axis.count - 1))))

-- the first n axes of a part
abbrev pub AreAxesOf : (List ℕ → ℕ) → (List ℕ → ℕ) → Region → List Axis → ℕ → Type 0
AreAxesOf from to part axes n = (k : ℕ) (d : Axis) → k < n → IsAxisOf from to part k (slice_index_or axes k d)
