-- Groups by labels in parts: each task takes one chunk of the axis that the labels go along, and where there are several such chunks the
-- result has a last axis that numbers them.
use Rattle.cu_grid.specs.Grid.{RegularGrid}
use Rattle.cu_op.specs.Along.{size_on, chunk_on}
use Rattle.cu_op.specs.Chunks.{walk}
use Rattle.cu_op.specs.declared.walks.Walk.{Walk}
use Rattle.cu_reduce.specs.Labels.{chunk_places}
use Rattle.std.specs.Int.{div_ceil}
use Rattle.std.specs.Prelude.{ℕ, ◌*◌, ◌<◌, ◌≤◌, min, max, List, [], ◌∷◌, length, slice_index, slice_index_or, slice_set, take}

-- the source's index, or the coordinate of its chunk, with this number on the axis
abbrev pub source_index : RegularGrid → ℕ → List ℕ → ℕ → List ℕ
source_index g axis idx k = slice_set (take (length g.shape) idx) axis k

-- the number of the part; that of the only one is 0
abbrev pub label_part : RegularGrid → List ℕ → ℕ
label_part g idx = slice_index idx (length g.shape)

-- how many chunks the axis has
abbrev pub label_chunks : RegularGrid → ℕ → ℕ
label_chunks g axis = div_ceil (size_on g axis) (chunk_on g axis)

-- the places of the axis that are in the part
abbrev pub part_places : RegularGrid → ℕ → List ℕ → List ℕ
part_places g axis idx = chunk_places (chunk_on g axis) (size_on g axis) (label_part g idx)

-- the first place of a part
abbrev pub first_place : RegularGrid → ℕ → ℕ → ℕ
first_place g axis part = min (size_on g axis) (part * chunk_on g axis)

-- of a region of the result: the first place of its first part, and the first behind its last
abbrev pub first_place_of : RegularGrid → ℕ → List ℕ → ℕ
first_place_of g axis lo = first_place g axis (label_part g lo)

abbrev pub end_part : RegularGrid → List ℕ → ℕ
end_part g hi = slice_index_or hi (length g.shape) 1

abbrev pub end_place_of : RegularGrid → ℕ → List ℕ → ℕ
end_place_of g axis hi = first_place g axis (end_part g hi)

-- the regions of the source and of the labels
abbrev pub grouped_walk : RegularGrid → ℕ → ℕ → List ℕ → List ℕ → Walk
grouped_walk g axis source lo hi = walk source (source_index g axis lo (first_place_of g axis lo)) (source_index g axis hi (end_place_of g axis hi))

abbrev pub labels_walk : RegularGrid → ℕ → ℕ → List ℕ → List ℕ → Walk
labels_walk g axis labels lo hi = walk labels (first_place_of g axis lo ∷ []) (end_place_of g axis hi ∷ [])

-- a region of the result has the source's axes, and its parts are among those that there are
pub record IsPartRegion (g : RegularGrid) (axis : ℕ) (lo hi : List ℕ) : Type 0 where
  pub along : axis < length g.shape
  pub lo_axes : length g.shape ≤ length lo
  pub hi_axes : length g.shape ≤ length hi
  pub first : label_part g lo < max 1 (label_chunks g axis)
  pub last : end_part g hi ≤ max 1 (label_chunks g axis)
