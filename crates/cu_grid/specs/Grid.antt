-- A grid of chunks: the sizes of an array and of its chunks.
use Rattle.std.specs.Prelude.{◌≡◌, ℕ, ◌^◌, ◌<◌, ◌≤◌, List, length, All}
use Rattle.cu_shape.specs.Index.{product, index_at, sums, products, IsInside}
use Rattle.cu_grid.specs.Counts.{counts_of, chunk_lo, chunk_hi, at_least_one, IsWithin}

pub record RegularGrid : Type 0 where
  pub shape : List ℕ
  pub chunk : List ℕ

-- what each grid keeps: a chunk size for each axis, none of them 0, at most 2^56 elements in the array,
-- an axis of size 0 counting as one, and at most 2^40 in a chunk
pub record IsGrid (g : RegularGrid) : Type 0 where
  pub ranks : length g.chunk ≡ length g.shape
  pub short : length g.shape ≤ 6
  pub positive : All (λ c. 0 < c) g.chunk
  pub elements : product (at_least_one g.shape) ≤ 2 ^ 56
  pub chunk_elements : product g.chunk ≤ 2 ^ 40

-- a coordinate names a chunk of the grid
abbrev pub IsCoordinate : RegularGrid → List ℕ → Type 0
IsCoordinate g coord = IsInside (counts_of g.shape g.chunk) coord

-- an index lies in a chunk
abbrev pub IsInChunk : RegularGrid → List ℕ → List ℕ → Type 0
IsInChunk g coord idx = IsWithin (chunk_lo g.chunk coord) (chunk_hi g.shape g.chunk coord) idx

-- the coordinate of chunk number k of the grid, in row-major order
abbrev pub coordinate_of : RegularGrid → ℕ → List ℕ
coordinate_of g k = index_at (counts_of g.shape g.chunk) k

-- the array's index at a place of the chunk at this coordinate
abbrev pub index_at_place : List ℕ → List ℕ → ℕ → List ℕ
index_at_place chunk coord p = sums (products coord chunk) (index_at chunk p)
