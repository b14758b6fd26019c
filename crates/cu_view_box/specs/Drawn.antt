-- The elements of a run of places of an array that come from a block of it. This project's own rules.
use Rattle.std.specs.Prelude.{◌≡◌, ◌≢◌, ◌↔◌, ℕ, ◌+◌, ◌-◌, ◌*◌, ◌<◌, ◌≤◌, ◌^◌, List, length, slice_index}
use Rattle.cu_num.specs.Dtype.{size_of}
use Rattle.cu_num.specs.Element.{bytes_at, element_at, element_bytes}
use Rattle.cu_num.specs.declared.layout.Endian.TheVariants.{Little}
use Rattle.cu_shape.specs.Index.{product, place_of, index_at, IsInside}
use Rattle.cu_grid.specs.Counts.{IsWithin}
use Rattle.cu_grid.specs.declared.region.Region.{Region}
use Rattle.cu_view_box.specs.Block.{buffer_place}
use Rattle.cu_view_box.specs.declared.block.Block.{Block}
use Rattle.cu_view_box.specs.declared.runs.Run.{Run}

-- where the element at a place of the array stands in the buffer of a run
abbrev pub place_in_run : Run → ℕ → ℕ
place_in_run run x = run.at + (x - run.first)

-- the places of a run lie in the array, and those in the buffer within so many bytes
pub record IsRunIn (source : List ℕ) (to : Block) (run : Run) (bytes : ℕ) : Type 0 where
  pub order : run.first ≤ run.end
  pub inside : run.end ≤ product source
  pub small : run.at + (run.end - run.first) < 2 ^ 64
  pub fits : (x : ℕ) → run.first ≤ x → x < run.end → place_in_run run x * size_of to.dtype + size_of to.dtype ≤ bytes

-- the elements from one place to below another that come from a block of the array are the numbers there
abbrev pub AreDrawn : List ℕ → Block → List ℕ → Block → Run → ℕ → ℕ → List ℕ → Type 0
AreDrawn source from bytes to run start stop new = (x : ℕ) → start ≤ x → x < stop → IsWithin from.region.lo from.region.hi (index_at source x)
    → bytes_at to.dtype new (place_in_run run x) ≡ element_bytes Little to.dtype (element_at Little from.dtype bytes (buffer_place from (index_at source x)))

-- the other elements of the buffer are as before
abbrev pub AreOthersUndrawn : List ℕ → Block → Block → Run → ℕ → ℕ → List ℕ → List ℕ → Type 0
AreOthersUndrawn source from to run start stop old new = (q : ℕ) → ((x : ℕ) → start ≤ x → x < stop → IsWithin from.region.lo from.region.hi (index_at source x) → place_in_run run x ≢ q)
    → bytes_at to.dtype new q ≡ bytes_at to.dtype old q

-- each index of a box lies in the block and in the array, at a place of the run
pub record IsOfRun (source : List ℕ) (from : Block) (run : Run) (part : Region) : Type 0 where
  pub of_block : (idx : List ℕ) → IsWithin part.lo part.hi idx → IsWithin from.region.lo from.region.hi idx
  pub inside : (idx : List ℕ) → IsWithin part.lo part.hi idx → IsInside source idx
  pub low : (idx : List ℕ) → IsWithin part.lo part.hi idx → run.first ≤ place_of source idx
  pub high : (idx : List ℕ) → IsWithin part.lo part.hi idx → place_of source idx < run.end

-- the elements of a box are the numbers in the block
abbrev pub IsPartDrawn : List ℕ → Block → List ℕ → Block → Run → Region → List ℕ → Type 0
IsPartDrawn source from bytes to run part new = (idx : List ℕ) → IsWithin part.lo part.hi idx
    → bytes_at to.dtype new (place_in_run run (place_of source idx)) ≡ element_bytes Little to.dtype (element_at Little from.dtype bytes (buffer_place from idx))

-- the other elements of the buffer are as before
abbrev pub IsPartKept : List ℕ → Block → Run → Region → List ℕ → List ℕ → Type 0
IsPartKept source to run part old new = (q : ℕ) → ((idx : List ℕ) → IsWithin part.lo part.hi idx → place_in_run run (place_of source idx) ≢ q) → bytes_at to.dtype new q ≡ bytes_at to.dtype old q

-- on the axes behind one a part and a buffer have each index of an array
abbrev pub IsWholeBehind : List ℕ → Region → List ℕ → ℕ → Type 0
IsWholeBehind shape part dims axis = (k : ℕ) → axis < k → k < length shape
    → (slice_index part.lo k ≡ 0) × (slice_index part.hi k ≡ slice_index shape k) × (slice_index dims k ≡ slice_index shape k)

-- the elements of a part stand together in row-major order, in the array and in a buffer of these sizes: it has one index on each axis
-- before some axis, and each index of the array behind it
pub record IsTogether (shape : List ℕ) (part : Region) (dims : List ℕ) : Type 0 where
  pub axis : ℕ
  pub single : (k : ℕ) → k < axis → slice_index part.hi k ≡ slice_index part.lo k + 1
  pub whole : IsWholeBehind shape part dims axis

-- a run is the elements of a part of a block
pub record IsRunOf (shape : List ℕ) (part : Region) (to : Block) (run : Run) : Type 0 where
  pub order : run.first < run.end
  pub inside : run.end ≤ product shape
  pub small : run.at + (run.end - run.first) < 2 ^ 64
  pub exactly : (idx : List ℕ) → IsWithin part.lo part.hi idx ↔ (IsInside shape idx × (run.first ≤ place_of shape idx) × (place_of shape idx < run.end))
  pub stands : (idx : List ℕ) → IsWithin part.lo part.hi idx → buffer_place to idx ≡ place_in_run run (place_of shape idx)
