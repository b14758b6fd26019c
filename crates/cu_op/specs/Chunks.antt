-- Chunks of arrays, and walks over regions of them.
use Rattle.cu_grid.specs.Counts.{chunk_lo, chunk_hi}
use Rattle.cu_grid.specs.Cover.{covering}
use Rattle.cu_grid.specs.Grid.{RegularGrid}
use Rattle.cu_grid.specs.declared.region.Region.{Region}
use Rattle.cu_op.specs.Arrays.{grid_at, grid_counts}
use Rattle.cu_op.specs.declared.cells.Cell.{Cell}
use Rattle.cu_op.specs.declared.layout.ArrayInfo.{ArrayInfo}
use Rattle.cu_op.specs.declared.walks.Walk.{Walk}
use Rattle.cu_shape.specs.Index.{indices_of, is_inside}
use Rattle.std.specs.Prelude.{◌≡◌, ℕ, List, [], ◌∷◌, length, if◌then◌else◌, map}

abbrev pub cell : ℕ → List ℕ → Cell
cell a at = record { array = a; coord = at }

-- every chunk of an array
abbrev pub all_chunks : List ArrayInfo → ℕ → List Cell
all_chunks arrays a = map (cell a) (indices_of (grid_counts (grid_at arrays a)))

-- the chunk of an array at a coordinate, where the array has one
abbrev pub chunk_where : List ArrayInfo → ℕ → List ℕ → List Cell
chunk_where arrays a at = if is_inside (grid_counts (grid_at arrays a)) at then cell a at ∷ [] else []

-- the chunks of an array that share an element with the box at a coordinate, where boxes of these sizes stand side by side
abbrev pub chunks_in_box : List ArrayInfo → ℕ → List ℕ → List ℕ → List Cell
chunks_in_box arrays a sizes at = map (cell a) (covering (grid_at arrays a).chunk (chunk_lo sizes at) (chunk_hi (grid_at arrays a).shape sizes at))

abbrev pub walk : ℕ → List ℕ → List ℕ → Walk
walk a lo hi = record { array = a; region = record { lo = lo; hi = hi } }

-- the whole of an array
abbrev pub whole_walk : List ArrayInfo → ℕ → Walk
whole_walk arrays a = walk a (map (λ n. 0) (grid_at arrays a).shape) (grid_at arrays a).shape

-- a region that is one chunk of a grid, or would be if the grid had it
pub record IsOneChunk (g : RegularGrid) (region : Region) : Type 0 where
  pub coord : List ℕ
  pub long : length coord ≡ length g.shape
  pub begins : region.lo ≡ chunk_lo g.chunk coord
  pub ends : region.hi ≡ chunk_hi g.shape g.chunk coord
