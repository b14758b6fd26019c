-- Parts of a box of which only one axis has more than one index. This project's own rules.
use Rattle.std.specs.Prelude.{◌≡◌, ◌≢◌, ℕ, ◌+◌, ◌-◌, ◌<◌, nat_lt, if◌then◌else◌, List, length, slice_index, slice_set}
use Rattle.cu_grid.specs.declared.region.Region.{Region}

-- on each axis below `level` but this one the region has one index
abbrev pub IsSingle : Region → ℕ → ℕ → Type 0
IsSingle part axis level = (k : ℕ) → k < level → k ≢ axis → slice_index part.hi k ≡ slice_index part.lo k + 1

-- a row along an axis
abbrev pub IsRowAlong : Region → ℕ → Type 0
IsRowAlong part axis = IsSingle part axis (length part.lo)

-- index number j of a row that begins at `lo`
abbrev pub row_index : List ℕ → ℕ → ℕ → List ℕ
row_index lo axis j = slice_set lo axis (slice_index lo axis + j)

-- how many it has; one where there is no such axis
abbrev pub row_count : Region → ℕ → ℕ
row_count part axis = if nat_lt axis (length part.lo) then slice_index part.hi axis - slice_index part.lo axis else 1
