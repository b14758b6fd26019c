-- Elements in the bytes of a chunk and in those of a region, both row-major (Zarr v3 core, "Regular grids"; a region's buffer is this project's own).
use Rattle.std.specs.Prelude.{◌≡◌, ◌≢◌, ℕ, ◌<◌, ℤ, false, List, if◌then◌else◌}
use Rattle.cu_num.specs.Dtype.{size_of}
use Rattle.cu_num.specs.Element.{element_bytes, in_order}
use Rattle.cu_num.specs.declared.types.Dtype.{Dtype}
use Rattle.cu_num.specs.declared.layout.Endian.{Endian}
use Rattle.cu_num.specs.declared.layout.Endian.TheVariants.{Little}
use Rattle.cu_shape.specs.Index.{product, place_of, quotients, remainders, sums, differences, products, is_inside}
pub use Rattle.cu_box.specs.Order.{part_at}
use Rattle.cu_grid.specs.Counts.{IsWithin}
use Rattle.cu_grid.specs.Grid.{RegularGrid, index_at_place}

-- the place of an index in a region's buffer
abbrev pub place_within : List ℕ → List ℕ → List ℕ → ℕ
place_within lo hi idx = place_of (differences hi lo) (differences idx lo)

-- the region is the chunk at this coordinate, whole
abbrev pub IsWholeChunk : List ℕ → List ℕ → List ℕ → List ℕ → Type 0
IsWholeChunk chunk coord lo hi = (lo ≡ products coord chunk) × (hi ≡ sums (products coord chunk) chunk)

-- a chunk of a grid, by its coordinate, and a region of the array: on each axis its first index, and one past its last
pub record Part : Type 0 where
  pub grid : RegularGrid
  pub coord : List ℕ
  pub lo : List ℕ
  pub hi : List ℕ

abbrev pub part : RegularGrid → List ℕ → List ℕ → List ℕ → Part
part grid coord lo hi = record { grid = grid; coord = coord; lo = lo; hi = hi }

-- The elements of a region that lie in the chunk are the chunk's elements, whose bytes are in this order, and the others are as before.
pub record IsPartTaken (size : ℕ) (e : Endian) (p : Part) (bytes old new : List ℕ) : Type 0 where
  pub taken : (idx : List ℕ) → IsWithin p.lo p.hi idx → quotients idx p.grid.chunk ≡ p.coord
      → part_at size new (place_within p.lo p.hi idx) ≡ in_order e (part_at size bytes (place_of p.grid.chunk (remainders idx p.grid.chunk)))
  pub others : (idx : List ℕ) → IsWithin p.lo p.hi idx → quotients idx p.grid.chunk ≢ p.coord
      → part_at size new (place_within p.lo p.hi idx) ≡ part_at size old (place_within p.lo p.hi idx)

-- each element of a chunk at an index that isn't inside the array is the fill value
abbrev pub HasFill : RegularGrid → Dtype → ℤ → List ℕ → List ℕ → Type 0
HasFill g t fill coord new = (p : ℕ) → p < product g.chunk → is_inside g.shape (index_at_place g.chunk coord p) ≡ false
    → part_at (size_of t) new p ≡ element_bytes Little t fill

-- Each element of a chunk is the region's element at its index where that is inside the array, and else the fill value.
abbrev pub IsLaid : Dtype → ℤ → Part → List ℕ → List ℕ → Type 0
IsLaid t fill p input new = (at : ℕ) → at < product p.grid.chunk
    → part_at (size_of t) new at ≡ (if is_inside p.grid.shape (index_at_place p.grid.chunk p.coord at)
    then part_at (size_of t) input (place_within p.lo p.hi (index_at_place p.grid.chunk p.coord at)) else element_bytes Little t fill)
