-- A copy whose region is kept as the chunks of the array that it makes, one behind another in memory. This project's own rules.
use Rattle.std.specs.Prelude.{◌≡◌, ℕ, ◌*◌, List, [], ◌∷◌, Option, Some, length, take, drop, sum_by}
use Rattle.cu_num.specs.Dtype.{size_of}
use Rattle.cu_num.specs.declared.layout.Endian.TheVariants.{Little}
use Rattle.cu_shape.specs.Index.{product, differences}
use Rattle.cu_grid.specs.Counts.{chunk_lo, chunk_hi}
use Rattle.cu_grid.specs.Cover.{covering}
use Rattle.cu_grid.specs.Grid.{RegularGrid}
use Rattle.cu_codec.specs.Parts.{part, IsPartTaken}
use Rattle.cu_store.specs.Chunks.{Allows}
use Rattle.cu_store.specs.Held.{Contents, Holds}
use Rattle.cu_store.specs.Steps.{Shown}
use Rattle.cu_op.specs.Arrays.{array_at, grid_at, type_at}
use Rattle.cu_op.specs.Cells.{task_lo, task_hi}
use Rattle.cu_op.specs.Chunks.{cell, walk}
use Rattle.cu_op.specs.Elements.{Elements}
use Rattle.cu_op.specs.Operation.{target_of}
use Rattle.cu_op.specs.Schedule.{key_of, cell_value}
use Rattle.cu_op.specs.Sound.{Sound}
use Rattle.cu_op.specs.TaskView.{TaskView, task_op}
use Rattle.cu_op.specs.Walks.{IsWalkOver}
use Rattle.cu_op.specs.declared.layout.ArrayInfo.{ArrayInfo}
use Rattle.cu_op.specs.declared.walks.Walk.{Walk}
use Rattle.cu_region.specs.Reading.{bytes_of, HasChunk, ReadsRegion}
use Rattle.cu_region.specs.Writing.{AreElements, HasWholeChunks, chunk_value}
use Rattle.cu_task.specs.OfTask.{ChangeBy, IsReadyFor}

-- ---- the parts

-- the array that a task makes, by its number and with its layout, and the task's region of it
abbrev pub made_number : TaskView → ℕ
made_number t = target_of (task_op t)

abbrev pub made_info : TaskView → ArrayInfo
made_info t = array_at t.plan.arrays (made_number t)

abbrev pub own_lo : TaskView → List ℕ
own_lo t = task_lo t.plan.arrays (task_op t) t.number

abbrev pub own_hi : TaskView → List ℕ
own_hi t = task_hi t.plan.arrays (task_op t) t.number

-- the array's chunks in the region, row-major, and the part of the region that a chunk is
abbrev pub region_chunks : TaskView → List (List ℕ)
region_chunks t = covering (made_info t).layout.grid.chunk (own_lo t) (own_hi t)

abbrev pub part_lo : TaskView → List ℕ → List ℕ
part_lo t coord = chunk_lo (made_info t).layout.grid.chunk coord

abbrev pub part_hi : TaskView → List ℕ → List ℕ
part_hi t coord = chunk_hi (made_info t).layout.grid.shape (made_info t).layout.grid.chunk coord

-- the bytes of a part's elements, and of several parts together
abbrev pub part_room : TaskView → List ℕ → ℕ
part_room t coord = product (differences (part_hi t coord) (part_lo t coord)) * size_of (made_info t).layout.dtype

abbrev pub room_of_parts : TaskView → List (List ℕ) → ℕ
room_of_parts t coords = sum_by (part_room t) coords

-- in a buffer the parts at these coordinates stand one behind another, and this holds of each and its bytes
abbrev pub HasEachPart : TaskView → (List ℕ → List ℕ → Type 0) → List (List ℕ) → List ℕ → Type 0
HasEachPart t P [] buf = Unit {0}
HasEachPart t P (c ∷ cs) buf = P c (take (part_room t c) buf) × HasEachPart t P cs (drop (part_room t c) buf)

-- ---- what is read

-- The array of the walk is copied: it has the shape and the type of the one that is made, the walk's region is the task's, and
-- each chunk that is made lies whole in it.
pub record IsChunkCopy (t : TaskView) (w : Walk) : Type 0 where
  pub sound : Sound t.plan
  pub reads : IsWalkOver t.plan.arrays w
  pub makes : IsWalkOver t.plan.arrays (walk (made_number t) (own_lo t) (own_hi t))
  pub shape : (grid_at t.plan.arrays w.array).shape ≡ (made_info t).layout.grid.shape
  pub types : type_at t.plan.arrays w.array ≡ (made_info t).layout.dtype
  pub lo : w.region.lo ≡ own_lo t
  pub hi : w.region.hi ≡ own_hi t
  pub whole : HasWholeChunks (made_info t).layout.grid (own_lo t) (own_hi t)

-- each part has what is held of the array that is read
abbrev pub ReadsParts : TaskView → Walk → Contents → List (List ℕ) → List ℕ → Type 0
ReadsParts t w held coords buf = HasEachPart t (λ c own. ReadsRegion (array_at t.plan.arrays w.array) (part_lo t c) (part_hi t c) (Some held) own) coords buf

-- each has elements of the type
abbrev pub ArePartsOfType : TaskView → List (List ℕ) → List ℕ → Type 0
ArePartsOfType t coords buf = HasEachPart t (λ c own. AreElements (made_info t).layout.dtype own) coords buf

-- a chunk that was read: the grid of its array, its coordinate, and its bytes
pub record ChunkBytes : Type 0 where
  pub grid : RegularGrid
  pub coord : List ℕ
  pub bytes : List ℕ

abbrev pub chunk_bytes_of : TaskView → Walk → List ℕ → List ℕ → ChunkBytes
chunk_bytes_of t w coord bytes = record { grid = grid_at t.plan.arrays w.array; coord = coord; bytes = bytes }

-- each of these parts has the elements that it shares with such a chunk, and its others as before
abbrev pub HavePartsTaken : TaskView → ChunkBytes → List (List ℕ) → List ℕ → List ℕ → Type 0
HavePartsTaken t chunk [] old new = Unit {0}
HavePartsTaken t chunk (c ∷ cs) old new =
    IsPartTaken (size_of (made_info t).layout.dtype) Little (part chunk.grid chunk.coord (part_lo t c) (part_hi t c)) chunk.bytes (take (part_room t c) old) (take (part_room t c) new)
    × HavePartsTaken t chunk cs (drop (part_room t c) old) (drop (part_room t c) new)

-- the chunk at this coordinate was read as it is held, and all parts have theirs of its elements
pub record TakesChunk (t : TaskView) (w : Walk) (coord : List ℕ) (held : Option Contents) (old new : List ℕ) : Type 0 where
  pub bytes : List ℕ
  pub long : length bytes ≡ bytes_of (array_at t.plan.arrays w.array).layout
  pub has : HasChunk (array_at t.plan.arrays w.array) coord held bytes
  pub elements : AreElements (array_at t.plan.arrays w.array).layout.dtype bytes
  pub taken : HavePartsTaken t (chunk_bytes_of t w coord bytes) (region_chunks t) old new

-- ---- what is written

-- the bytes of a part spell the value of its chunk, where the task was ready at that moment
abbrev pub CarriesPart : TaskView → Shown → List ℕ → List ℕ → Type 0
CarriesPart t start coord own = (env : Elements) → IsReadyFor t env start
    → chunk_value (made_info t) (part_lo t coord) (part_hi t coord) own coord ≡ cell_value t.plan env (cell (made_number t) coord)

-- the changes of a task that began at some moment may be made, and the bytes of one part, or of each, spell the values
pub record AllowsPart (t : TaskView) (coord own : List ℕ) (P : List ℕ → List ℕ → Type 0) : Type 0 where
  pub start : Shown
  pub carries : CarriesPart t start coord own
  pub changes : Allows (ChangeBy t start) P

pub record AllowsParts (t : TaskView) (buf : List ℕ) (P : List ℕ → List ℕ → Type 0) : Type 0 where
  pub start : Shown
  pub carries : HasEachPart t (CarriesPart t start) (region_chunks t) buf
  pub changes : Allows (ChangeBy t start) P

-- the chunk at this coordinate has a value and holds it
abbrev pub HoldsPart : TaskView → Elements → Shown → List ℕ → Type 0
HoldsPart t env shown coord = (bytes : List ℕ) × (cell_value t.plan env (cell (made_number t) coord) ≡ Some bytes)
    × Holds shown.held (key_of t.plan.arrays (cell (made_number t) coord)) bytes
