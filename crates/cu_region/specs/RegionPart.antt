-- The part of a region of an array that lies in one chunk: what is wanted of it, its key and its value. This project's own rules.
use Rattle.std.specs.Prelude.{◌≡◌, ℕ, ◌*◌, ◌<◌, ◌≤◌, List, All, Option, length}
use Rattle.cu_num.specs.Dtype.{size_of, InRange}
use Rattle.cu_shape.specs.Index.{product, differences}
use Rattle.cu_grid.specs.Counts.{IsRegion}
use Rattle.cu_grid.specs.Cover.{Meets}
use Rattle.cu_grid.specs.Grid.{IsGrid}
use Rattle.cu_codec.specs.Parts.{IsWholeChunk}
use Rattle.cu_store.specs.Held.{Contents}
use Rattle.cu_store.specs.Steps.{Changes}
use Rattle.cu_region.specs.Reading.{key_at, bytes_of, ReadsPart}
use Rattle.cu_region.specs.Writing.{AreElements, HasWholeChunks, chunk_value, RegionPut, StoresChunk}
use Rattle.cu_region.specs.declared.part.RegionPart.{RegionPart}

-- the array is one that can be read and written, the region lies in it, and the chunk shares an element with the region
pub record IsRegionPart (part : RegionPart) : Type 0 where
  pub short : length part.info.now.prefix ≤ 45
  pub fill : InRange part.info.now.layout.dtype part.info.now.layout.fill
  pub grid : IsGrid part.info.now.layout.grid
  pub region : IsRegion part.info.now.layout.grid.shape part.region.now.lo part.region.now.hi
  pub meets : Meets part.info.now.layout.grid part.region.now.lo part.region.now.hi part.coord
  pub small : All (λ i. i < 1048576) part.coord

-- the key of the chunk
abbrev pub key_of_part : RegionPart → List ℕ
key_of_part part = key_at part.info.now part.coord

-- the bytes of the chunk, and of the region's elements
abbrev pub bytes_of_chunk : RegionPart → ℕ
bytes_of_chunk part = bytes_of part.info.now.layout

abbrev pub bytes_of_region : RegionPart → ℕ
bytes_of_region part = product (differences part.region.now.hi part.region.now.lo) * size_of part.info.now.layout.dtype

-- the region is the chunk
abbrev pub IsAllOfChunk : RegionPart → Type 0
IsAllOfChunk part = IsWholeChunk part.info.now.layout.grid.chunk part.coord part.region.now.lo part.region.now.hi

-- the elements of the part were read into the region's buffer, and the others are as before
abbrev pub ReadsRegionPart : RegionPart → Option Contents → List ℕ → List ℕ → Type 0
ReadsRegionPart part held old new = ReadsPart part.info.now part.coord part.region.now held old new

-- each chunk that meets the region lies whole in it, and the buffer has the region's elements
pub record HasWholeParts (part : RegionPart) (input : List ℕ) : Type 0 where
  pub whole : HasWholeChunks part.info.now.layout.grid part.region.now.lo part.region.now.hi
  pub long : length input ≡ bytes_of_region part
  pub elements : AreElements part.info.now.layout.dtype input

-- the one value of the chunk whose elements are the buffer's, that it is held, and the puts of the region's chunks
abbrev pub value_of_part : RegionPart → List ℕ → Option (List ℕ)
value_of_part part input = chunk_value part.info.now part.region.now.lo part.region.now.hi input part.coord

abbrev pub StoresPart : RegionPart → List ℕ → Option Contents → Type 0
StoresPart part input held = StoresChunk part.info.now part.region.now.lo part.region.now.hi input held part.coord

abbrev pub PutOfRegion : RegionPart → List ℕ → Changes
PutOfRegion part input = RegionPut part.info.now part.region.now.lo part.region.now.hi input
