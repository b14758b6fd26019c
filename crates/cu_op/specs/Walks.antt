-- The chunks that a task writes and those that it reads: of each of some arrays those that share an element with a region.
pub use Rattle.cu_op.specs.Broadcast.{back_as}
use Rattle.cu_op.specs.Chunks.{walk, cell}
use Rattle.cu_grid.specs.Counts.{IsRegion}
use Rattle.cu_grid.specs.Cover.{covering}
use Rattle.cu_op.specs.Arrays.{grid_at}
use Rattle.cu_op.specs.Cells.{task_lo, task_hi}
use Rattle.cu_op.specs.Kinds.{kind_of}
use Rattle.cu_op.specs.Operation.{writes_of}
use Rattle.cu_op.specs.declared.cells.Cell.{Cell}
use Rattle.cu_op.specs.declared.layout.ArrayInfo.{ArrayInfo}
use Rattle.cu_op.specs.declared.operation.Op.{Op}
use Rattle.cu_op.specs.declared.walks.Walk.{Walk}
use Rattle.std.specs.List.{list_any}
use Rattle.std.specs.Prelude.{◌≡◌, ℕ, ◌<◌, List, [], ◌∷◌, ◌++◌, length, slice_index_or, Option, if◌then◌else◌, None, map, flat_map, Bool, ◌==◌, Some, ◌&&◌, bytes_eq}

-- ---- a walk over the chunks of an array that meet a region

-- the region lies in an array of the plan
abbrev pub IsWalkOver : List ArrayInfo → Walk → Type 0
IsWalkOver arrays w = (w.array < length arrays) × IsRegion (grid_at arrays w.array).shape w.region.lo w.region.hi

-- its chunks, row-major
abbrev pub walk_cells : List ArrayInfo → Walk → List Cell
walk_cells arrays w = map (cell w.array) (covering (grid_at arrays w.array).chunk w.region.lo w.region.hi)

-- those of several walks, one after another
abbrev pub cells_of_walks : List ArrayInfo → List Walk → List Cell
cells_of_walks arrays walks = flat_map (walk_cells arrays) walks

-- whether two walks go over one region of one array
abbrev pub same_walk : Walk → Walk → Bool
same_walk v w = v.array == w.array && bytes_eq v.region.lo w.region.lo && bytes_eq v.region.hi w.region.hi

-- the walks of a list, each once, but for those of `seen`
abbrev pub new_walks : List Walk → List Walk → List Walk
new_walks [] seen = []
new_walks (w ∷ rest) seen = if list_any (λ v. same_walk v w) seen then new_walks rest (seen ++ w ∷ []) else w ∷ new_walks rest (seen ++ w ∷ [])

-- ---- what a task writes and reads

-- of each array that the operation writes the task's region
abbrev pub output_walks : List ArrayInfo → Op → ℕ → List Walk
output_walks arrays op task = map (λ a. walk a (task_lo arrays op task) (task_hi arrays op task)) (writes_of op)

-- of each array that the operation reads, by its place, the region from which a region of the result is computed; of a view's source
-- it is the whole, since from where an element comes only the view tells
abbrev pub region_walks : List ArrayInfo → Op → List ℕ → List ℕ → List Walk
region_walks arrays op lo hi = (kind_of op).walks arrays lo hi

-- for a task's region
abbrev pub input_walks : List ArrayInfo → Op → ℕ → List Walk
input_walks arrays op task = region_walks arrays op (task_lo arrays op task) (task_hi arrays op task)

-- the chunks that the task writes
abbrev pub written_chunks : List ArrayInfo → Op → ℕ → List Cell
written_chunks arrays op task = cells_of_walks arrays (output_walks arrays op task)

-- the chunks that the task reads, where equal walks are gone over once
abbrev pub read_chunks : List ArrayInfo → Op → ℕ → List Cell
read_chunks arrays op task = cells_of_walks arrays (new_walks (input_walks arrays op task) [])

-- no chunk stands twice in a list
abbrev pub EachOnce : List Cell → Type 0
EachOnce cells = (i j : ℕ) (d : Cell) → i < length cells → j < length cells → slice_index_or cells i d ≡ slice_index_or cells j d → i ≡ j

-- ---- what is left of a round over walks

-- the chunks that are left of the walk that is open
abbrev pub open_cells : ℕ → Option (List (List ℕ)) → List Cell
open_cells a None = []
open_cells a (Some coords) = map (cell a) coords

-- and then those of the walks behind
abbrev pub cells_left : List ArrayInfo → ℕ → Option (List (List ℕ)) → List Walk → List Cell
cells_left arrays a coords walks = open_cells a coords ++ cells_of_walks arrays walks
