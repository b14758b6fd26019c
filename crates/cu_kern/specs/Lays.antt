-- The regions that a kernel reads: each an array of elements, row-major and little-endian, at a place of one buffer. Where a region
-- has size 1 on an axis, or lacks a leading one, it is stretched there over the result (Python array API, "Broadcasting").
use Rattle.std.specs.Prelude.{◌≡◌, ◌⊎◌, ℕ, ◌+◌, ◌-◌, ◌*◌, ◌/◌, ◌%◌, ◌<◌, ◌≤◌, ℤ, List, [], ◌∷◌, length, map, drop, Option, Some, None, option_map}
use Rattle.std.specs.List.{slice_get}
use Rattle.cu_num.specs.Dtype.{size_of, InRange}
use Rattle.cu_num.specs.Element.{element_at, element_bytes, bytes_at}
use Rattle.cu_num.specs.declared.types.Dtype.{Dtype}
use Rattle.cu_num.specs.declared.layout.Endian.TheVariants.{Little}
use Rattle.cu_shape.specs.Index.{product, place_of, index_at, back}
use Rattle.cu_kern.specs.declared.lays.Lay.{Lay}

-- the types of the regions, in order
abbrev pub lay_types : List Lay → List Dtype
lay_types lays = map (λ l. l.dtype) lays

-- on each axis the sizes are equal, or the region's is 1
abbrev pub StretchesAlong : List ℕ → List ℕ → Type 0
StretchesAlong [] [] = Unit {0}
StretchesAlong (n ∷ ns) (m ∷ ms) = ((n ≡ m) ⊎ (n ≡ 1)) × StretchesAlong ns ms
StretchesAlong [] (m ∷ ms) = ⊥
StretchesAlong (n ∷ ns) [] = ⊥

-- the region's axes stand against the last axes of the result
pub record BroadcastsTo (shape result : List ℕ) : Type 0 where
  pub rank : length shape ≤ length result
  pub axes : StretchesAlong shape (drop (length result - length shape) result)

-- the region can be stretched to the result, and its bytes lie in a buffer of `room` bytes
pub record LayFits (result : List ℕ) (room : ℕ) (l : Lay) : Type 0 where
  pub broadcasts : BroadcastsTo l.dims result
  pub inside : l.at + product l.dims * size_of l.dtype ≤ room

-- the element of a region that the result's index reads
abbrev pub lay_element : Lay → List ℕ → List ℕ → ℤ
lay_element l ins idx = element_at Little l.dtype (drop l.at ins) (place_of l.dims (back l.dims idx))

-- the element of region number k at the result's index
abbrev pub loaded_at : List Lay → List ℕ → List ℕ → ℕ → Option ℤ
loaded_at lays ins idx k = option_map (λ l. lay_element l ins idx) (slice_get lays k)

-- element p of these bytes is this number of the type, in its one spelling
abbrev pub HasValue : Dtype → List ℕ → ℕ → Option ℤ → Type 0
HasValue t bytes p None = ⊥
HasValue t bytes p (Some x) = InRange t x × (bytes_at t bytes p ≡ element_bytes Little t x)

-- the place of a region that a place of the result reads
abbrev pub place_read : List ℕ → List ℕ → ℕ → ℕ
place_read shape result p = place_of shape (back shape (index_at result p))

-- within each `run` places of the result, the place that is read moves by `step` at each
abbrev pub IsRun : List ℕ → List ℕ → ℕ → ℕ → Type 0
IsRun shape result run step = (p i : ℕ) → p + i < product result → p % run + i < run → place_read shape result (p + i) ≡ place_read shape result p + step * i

-- after each `period` places of the result the same places are read again
abbrev pub IsPeriod : List ℕ → List ℕ → ℕ → Type 0
IsPeriod shape result period = (p i : ℕ) → p + i < product result → p % period + i < period → place_read shape result (p % period + i) ≡ place_read shape result (p + i)

-- each place of the region is read by `run` places of the result, one after another
abbrev pub IsSpread : List ℕ → List ℕ → ℕ → Type 0
IsSpread shape result run = (p : ℕ) → p < product result → place_read shape result p ≡ p / run

-- the region has this type and can be read for a result of these sizes
pub record IsLaidRegion (t : Dtype) (result : List ℕ) (l : Lay) (ins : List ℕ) : Type 0 where
  pub fits : LayFits result (length ins) l
  pub dtype : l.dtype ≡ t
