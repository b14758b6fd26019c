-- Regions of arrays in memory, and what moves from one into another. This project's own rules; the bytes of an element are those of
-- Zarr v3, codec "bytes".
use Rattle.std.specs.Prelude.{◌≡◌, ℕ, ◌+◌, ◌*◌, ◌≤◌, ℤ, List, All, length}
use Rattle.cu_num.specs.Dtype.{size_of}
use Rattle.cu_num.specs.Element.{bytes_at, element_at, element_bytes}
use Rattle.cu_num.specs.declared.layout.Endian.TheVariants.{Little}
use Rattle.cu_num.specs.declared.types.Dtype.{Dtype}
use Rattle.cu_shape.specs.Index.{product, place_of, differences, IsInside}
use Rattle.cu_grid.specs.Counts.{IsWithin}
use Rattle.cu_grid.specs.declared.region.Region.{Region}
use Rattle.cu_view_box.specs.Piece.{read_at, IsWayOver}
use Rattle.cu_view_box.specs.declared.block.Block.{Block}
use Rattle.cu_view_box.specs.declared.piece.Piece.{Piece}

-- the place in the buffer of an index of the array
abbrev pub buffer_place : Block → List ℕ → ℕ
buffer_place block idx = place_of block.dims (differences idx block.region.lo)

-- the buffer has a place for each index of the region
pub record IsBlock (block : Block) (bytes : List ℕ) : Type 0 where
  pub inside : (idx : List ℕ) → IsWithin block.region.lo block.region.hi idx → IsInside block.dims (differences idx block.region.lo)
  pub long : length bytes ≡ product block.dims * size_of block.dtype

-- each element is the bytes of some number of the type; for a bool, 0 or 1
abbrev pub AreSpelled : Dtype → List ℕ → Type 0
AreSpelled t bytes = (p : ℕ) → p * size_of t + size_of t ≤ length bytes → (x : ℤ) × (bytes_at t bytes p ≡ element_bytes Little t x)

-- a part of a piece's box that isn't empty, lies in a block of the result, and reads a block of the source
pub record IsMove (piece : Piece) (part : Region) (from to : Block) : Type 0 where
  pub some : IsWithin part.lo part.hi part.lo
  pub ways : All (IsWayOver piece.region.lo piece.region.hi) piece.ways.items
  pub of_piece : (idx : List ℕ) → IsWithin part.lo part.hi idx → IsWithin piece.region.lo piece.region.hi idx
  pub of_source : (idx : List ℕ) → IsWithin part.lo part.hi idx → IsWithin from.region.lo from.region.hi (read_at piece idx)
  pub of_result : (idx : List ℕ) → IsWithin part.lo part.hi idx → IsWithin to.region.lo to.region.hi idx

-- each element of the part is the number that the piece reads, as bytes of the result's type
abbrev pub IsMoved : Piece → Region → Block → List ℕ → Block → List ℕ → Type 0
IsMoved piece part from bytes to new = (idx : List ℕ) → IsWithin part.lo part.hi idx
    → bytes_at to.dtype new (buffer_place to idx) ≡ element_bytes Little to.dtype (element_at Little from.dtype bytes (buffer_place from (read_at piece idx)))

-- each other element of the block is as before
abbrev pub IsKept : Region → Block → List ℕ → List ℕ → Type 0
IsKept part to old new = (idx : List ℕ) → IsWithin to.region.lo to.region.hi idx → ¬ IsWithin part.lo part.hi idx
    → bytes_at to.dtype new (buffer_place to idx) ≡ bytes_at to.dtype old (buffer_place to idx)
