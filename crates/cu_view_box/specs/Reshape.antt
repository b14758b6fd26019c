-- The elements of an array in another shape, in row-major order (Python array API 2022.12, "reshape").
use Rattle.std.specs.Prelude.{◌≡◌, ℕ, ◌+◌, ◌^◌, ◌<◌, ◌≤◌, List, length, slice_index}
use Rattle.cu_num.specs.Element.{bytes_at, element_at, element_bytes}
use Rattle.cu_num.specs.declared.layout.Endian.TheVariants.{Little}
use Rattle.cu_shape.specs.Index.{product, place_of, index_at, IsInside}
use Rattle.cu_grid.specs.Counts.{IsWithin}
use Rattle.cu_grid.specs.declared.region.Region.{Region}
use Rattle.cu_view_box.specs.Block.{buffer_place}
use Rattle.cu_view_box.specs.declared.block.Block.{Block}

-- the index of the source that stands at the place of an index of the result
abbrev pub reshaped : List ℕ → List ℕ → List ℕ → List ℕ
reshaped source shape idx = index_at source (place_of shape idx)

-- two shapes of as many elements
pub record IsReshape (source shape : List ℕ) : Type 0 where
  pub same : product source ≡ product shape
  pub small : product source < 2 ^ 64

-- each element of the part of a result that comes from a block of the source is the number there
abbrev pub IsDrawn : (List ℕ → List ℕ) → Region → Block → List ℕ → Block → List ℕ → Type 0
IsDrawn origin part from bytes to new = (idx : List ℕ) → IsWithin part.lo part.hi idx → IsWithin from.region.lo from.region.hi (origin idx)
    → bytes_at to.dtype new (buffer_place to idx) ≡ element_bytes Little to.dtype (element_at Little from.dtype bytes (buffer_place from (origin idx)))

-- the other elements are as before
abbrev pub AreOthersLeft : (List ℕ → List ℕ) → Region → Block → Block → List ℕ → List ℕ → Type 0
AreOthersLeft origin part from to old new = (idx : List ℕ) → IsWithin to.region.lo to.region.hi idx
    → ¬ (IsWithin part.lo part.hi idx × IsWithin from.region.lo from.region.hi (origin idx))
    → bytes_at to.dtype new (buffer_place to idx) ≡ bytes_at to.dtype old (buffer_place to idx)

-- a part of a result's block that isn't empty
pub record IsPart (shape : List ℕ) (part : Region) (to : Block) : Type 0 where
  pub some : IsWithin part.lo part.hi part.lo
  pub inside : (idx : List ℕ) → IsWithin part.lo part.hi idx → IsInside shape idx
  pub of_result : (idx : List ℕ) → IsWithin part.lo part.hi idx → IsWithin to.region.lo to.region.hi idx

-- on each axis up to the first on which two indices differ, an index lies between them
abbrev pub IsBetweenUpToDifference : List ℕ → List ℕ → List ℕ → Type 0
IsBetweenUpToDifference first last i = (d : ℕ) → d < length i → ((k : ℕ) → k < d → slice_index first k ≡ slice_index last k)
    → (slice_index first d ≤ slice_index i d) × (slice_index i d ≤ slice_index last d)

-- the part has an index between those from which two elements of a region come
pub record IsMet (source shape : List ℕ) (run part : Region) : Type 0 where
  pub first : List ℕ
  pub last : List ℕ
  pub index : List ℕ
  pub first_within : IsWithin run.lo run.hi first
  pub last_within : IsWithin run.lo run.hi last
  pub of_part : IsWithin part.lo part.hi index
  pub between : IsBetweenUpToDifference (reshaped source shape first) (reshaped source shape last) index

-- a part of a region whose elements stand together in row-major order: it has one index on each axis before some axis, and each index
-- of the array on those behind it
pub record IsRowMajorRun (shape : List ℕ) (out run : Region) : Type 0 where
  pub axis : ℕ
  pub single : (k : ℕ) → k < axis → slice_index run.hi k ≡ slice_index run.lo k + 1
  pub whole : (k : ℕ) → axis < k → k < length shape → (slice_index run.lo k ≡ 0) × (slice_index run.hi k ≡ slice_index shape k)
  pub of_out : (idx : List ℕ) → IsWithin run.lo run.hi idx → IsWithin out.lo out.hi idx

abbrev pub MeetsRun : List ℕ → List ℕ → Region → Region → Type 0
MeetsRun source shape out part = (run : Region) × IsRowMajorRun shape out run × IsMet source shape run part
