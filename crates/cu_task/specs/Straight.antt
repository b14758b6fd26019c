-- Views that leave a chunk of a source as it stands. This project's own rules.
use Rattle.std.specs.Prelude.{◌≡◌, ◌⊎◌, ℕ, ◌+◌, ◌-◌, ◌*◌, ◌<◌, ◌≤◌, List, [], ◌∷◌, slice_index}
use Rattle.cu_num.specs.Dtype.{size_of}
use Rattle.cu_shape.specs.Index.{product, place_of, sums, differences, remainders}
use Rattle.cu_grid.specs.Counts.{IsWithin, chunk_lo}
use Rattle.cu_grid.specs.declared.region.Region.{Region}
use Rattle.cu_codec.specs.Parts.{place_within}
use Rattle.cu_origin.specs.declared.provenance.Provenance.TheVariants.{From}
use Rattle.cu_view_box.specs.Piece.{count_along, read_at}
use Rattle.cu_view_box.specs.Way.{read_by}
use Rattle.cu_view_box.specs.declared.piece.Piece.{Piece}
use Rattle.cu_view_box.specs.declared.way.Way.{Way}
use Rattle.cu_op.specs.Arrays.{type_at}
use Rattle.cu_task.specs.ViewJobs.{made_in, room_for_chunk, view_of_chunk, source_of_chunk}
use Rattle.cu_task.specs.Views.{ViewTask, origin_in, IsOfChunk}
use Rattle.cu_task.specs.declared.views.SourceChunk.{SourceChunk}

-- ---- one index after another on each axis

-- from a count on a way reads, for each of so many counts along this axis of the result, the next index, and `first` at first
pub record IsShift (way : Way) (axis from count first : ℕ) : Type 0 where
  pub along : (lo idx : List ℕ) → read_by way (count_along lo idx way) ≡ read_by way (slice_index idx axis - slice_index lo axis)
  pub reads : (t : ℕ) → t < count → read_by way (from + t) ≡ first + t

-- over a region of the result the piece reads, on this axis, index after index from `first` on
abbrev pub ReadsFromOn : Piece → Region → ℕ → ℕ → Type 0
ReadsFromOn piece out first axis = (idx : List ℕ) → slice_index out.lo axis ≤ slice_index idx axis → slice_index idx axis < slice_index out.hi axis
    → (slice_index piece.region.lo axis ≤ slice_index idx axis) × (slice_index idx axis < slice_index piece.region.hi axis)
    × (slice_index (read_at piece idx) axis ≡ first + (slice_index idx axis - slice_index out.lo axis))

-- the same of all axes
abbrev pub ReadsFrom : Piece → Region → List ℕ → Type 0
ReadsFrom piece out first = (idx : List ℕ) → IsWithin out.lo out.hi idx → IsWithin piece.region.lo piece.region.hi idx × (read_at piece idx ≡ sums first (differences idx out.lo))

-- the elements of the task's region are those of the source from an index on
abbrev pub IsShifted : SourceChunk → List ℕ → Type 0
IsShifted chunk first = (idx : List ℕ) → IsWithin (view_of_chunk chunk).lo (view_of_chunk chunk).hi idx
    → origin_in (view_of_chunk chunk) idx ≡ From chunk.source (sums first (differences idx (view_of_chunk chunk).lo))

-- ---- rows: all that has one index of the first axis

-- they have a first axis, and are the same on all others
abbrev pub AreSameBehind : List ℕ → List ℕ → Type 0
AreSameBehind (i ∷ is) (j ∷ js) = is ≡ js
AreSameBehind is js = ⊥

-- all but the first
abbrev pub behind_first : List ℕ → List ℕ
behind_first (i ∷ is) = is
behind_first [] = []

-- A row of the region is a row of the source's chunk, or of its neighbours along the first axis: as long, of elements of the same type, and from the same index of the other axes on.
pub record HasChunkRows (chunk : SourceChunk) : Type 0 where
  pub dtype : (source_of_chunk chunk).layout.dtype ≡ (made_in (view_of_chunk chunk)).layout.dtype
  pub shifted : IsShifted chunk chunk.needed.lo
  pub sizes : AreSameBehind (differences (view_of_chunk chunk).hi (view_of_chunk chunk).lo) (source_of_chunk chunk).layout.grid.chunk
  pub starts : AreSameBehind chunk.needed.lo (chunk_lo (source_of_chunk chunk).layout.grid.chunk chunk.coord)

-- the byte at which an element of the region begins, in memory with so many bytes before the region's
abbrev pub byte_place : ViewTask → ℕ → List ℕ → ℕ
byte_place v before idx = before + place_within v.lo v.hi idx * size_of (type_at v.arrays v.out)

-- The chunk may be read into this memory from byte `at` on: each element of the region that comes from it is then at its place, and what comes from elsewhere stands in front of the chunk's bytes or behind them.
pub record StandsFrom (chunk : SourceChunk) (before at : ℕ) : Type 0 where
  pub dtype : (source_of_chunk chunk).layout.dtype ≡ (made_in (view_of_chunk chunk)).layout.dtype
  pub own : (idx i : List ℕ) → IsWithin (view_of_chunk chunk).lo (view_of_chunk chunk).hi idx → origin_in (view_of_chunk chunk) idx ≡ From chunk.source i
      → IsOfChunk (view_of_chunk chunk) chunk.source chunk.coord i
      → byte_place (view_of_chunk chunk) before idx ≡ at + place_of (source_of_chunk chunk).layout.grid.chunk (remainders i (source_of_chunk chunk).layout.grid.chunk) * size_of (source_of_chunk chunk).layout.dtype
  pub others : (idx : List ℕ) → IsWithin (view_of_chunk chunk).lo (view_of_chunk chunk).hi idx
      → ((i : List ℕ) → origin_in (view_of_chunk chunk) idx ≡ From chunk.source i → ¬ IsOfChunk (view_of_chunk chunk) chunk.source chunk.coord i)
      → (byte_place (view_of_chunk chunk) before idx + size_of (source_of_chunk chunk).layout.dtype ≤ at) ⊎ (at + room_for_chunk chunk ≤ byte_place (view_of_chunk chunk) before idx)

-- ---- one place after another

-- the elements of a region stand in an array of this shape at places one after another, in the order of the region's buffer
abbrev pub StandTogether : List ℕ → Region → ℕ → Type 0
StandTogether shape region first = (idx : List ℕ) → IsWithin region.lo region.hi idx → place_of shape idx ≡ first + place_within region.lo region.hi idx

-- an element of the task's region comes from the chunk, and stands there at the place that it has in the region
pub record StandsInChunk (chunk : SourceChunk) (idx : List ℕ) : Type 0 where
  pub index : List ℕ
  pub origin : origin_in (view_of_chunk chunk) idx ≡ From chunk.source index
  pub part : IsOfChunk (view_of_chunk chunk) chunk.source chunk.coord index
  pub place : place_within (view_of_chunk chunk).lo (view_of_chunk chunk).hi idx
      ≡ place_of (source_of_chunk chunk).layout.grid.chunk (remainders index (source_of_chunk chunk).layout.grid.chunk)

-- all of them do, and they are as many as the chunk's
pub record IsInOrder (chunk : SourceChunk) : Type 0 where
  pub count : product (differences (view_of_chunk chunk).hi (view_of_chunk chunk).lo) ≡ product (source_of_chunk chunk).layout.grid.chunk
  pub stands : (idx : List ℕ) → IsWithin (view_of_chunk chunk).lo (view_of_chunk chunk).hi idx → StandsInChunk chunk idx

-- and they are of the same type: the region's buffer is the chunk's
pub record IsStraight (chunk : SourceChunk) : Type 0 where
  pub dtype : (source_of_chunk chunk).layout.dtype ≡ (made_in (view_of_chunk chunk)).layout.dtype
  pub order : IsInOrder chunk
