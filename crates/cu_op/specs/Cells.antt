-- The tasks of an operation, the region of each, and the chunks of a plan's arrays. Chunks are numbered row-major.
use Rattle.cu_grid.specs.Counts.{chunk_lo, chunk_hi}
use Rattle.cu_grid.specs.Grid.{RegularGrid, IsCoordinate}
use Rattle.cu_op.specs.Arrays.{grid_at, grid_counts, is_inlined}
use Rattle.cu_op.specs.Kinds.{kind_of}
use Rattle.cu_op.specs.declared.cells.Cell.{Cell}
use Rattle.cu_op.specs.declared.layout.ArrayInfo.{ArrayInfo}
use Rattle.cu_op.specs.declared.operation.Op.{Op}
use Rattle.cu_shape.specs.Index.{index_at, place_of, product, quotients}
use Rattle.std.specs.Prelude.{ℕ, ◌<◌, List, length, if◌then◌else◌}

-- what the tasks of an operation go over: a grid each of whose chunks is the region of a task; for a copy its own regions, for any other
-- operation the chunks of the result
abbrev pub task_grid : List ArrayInfo → Op → RegularGrid
task_grid arrays op = (kind_of op).tasks arrays

-- how many regions these are, whether each is that of a task or is computed inside a task of another operation
abbrev pub regions_of : List ArrayInfo → Op → ℕ
regions_of arrays op = product (grid_counts (task_grid arrays op))

-- how many tasks an operation has: none of its own where its result is made where it is read
abbrev pub tasks_of : List ArrayInfo → Op → ℕ
tasks_of arrays op = if is_inlined arrays (kind_of op).target then 0 else regions_of arrays op

-- the coordinate of region number `task`, row-major
abbrev pub task_coord : List ArrayInfo → Op → ℕ → List ℕ
task_coord arrays op task = index_at (grid_counts (task_grid arrays op)) task

-- the region of a task: its first index on each axis, and one past its last
abbrev pub task_lo : List ArrayInfo → Op → ℕ → List ℕ
task_lo arrays op task = chunk_lo (task_grid arrays op).chunk (task_coord arrays op task)

abbrev pub task_hi : List ArrayInfo → Op → ℕ → List ℕ
task_hi arrays op task = chunk_hi (task_grid arrays op).shape (task_grid arrays op).chunk (task_coord arrays op task)

-- the number of the region in which a chunk of an array that the operation writes begins
abbrev pub task_at : List ArrayInfo → Op → Cell → ℕ
task_at arrays op c = place_of (grid_counts (task_grid arrays op)) (quotients (chunk_lo (grid_at arrays c.array).chunk c.coord) (task_grid arrays op).chunk)

-- a chunk of an array of the plan
abbrev pub IsChunk : List ArrayInfo → Cell → Type 0
IsChunk arrays c = (c.array < length arrays) × IsCoordinate (grid_at arrays c.array) c.coord
