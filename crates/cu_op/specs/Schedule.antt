-- Which task writes a chunk, the key and the value of a chunk, and when a task is ready.
use Rattle.std.specs.Prelude.{◌≡◌, ℕ, ◌<◌, Contains, List, length, Option}
use Rattle.cu_grid.specs.Grid.{IsInChunk}
use Rattle.cu_zarr.specs.Spelling.{spelled}
use Rattle.cu_op.specs.declared.layout.ArrayInfo.{ArrayInfo}
use Rattle.cu_op.specs.declared.cells.Cell.{Cell}
use Rattle.cu_op.specs.Arrays.{layout_at, grid_at}
use Rattle.cu_op.specs.Chunks.{cell}
pub use Rattle.cu_op.specs.Cells.{task_at}
use Rattle.cu_op.specs.Cells.{regions_of, tasks_of}
pub use Rattle.cu_op.specs.Nested.{IsNestedAlong, IsNested}
pub use Rattle.cu_op.specs.PlanView.{op_of}
use Rattle.cu_op.specs.PlanView.{PlanView}
use Rattle.cu_op.specs.Sound.{cell_key}
use Rattle.cu_op.specs.Elements.{Elements}
use Rattle.cu_op.specs.Value.{plan_value, stored_inputs, ReadsAt}
use Rattle.cu_op.specs.Walks.{written_chunks}
use Rattle.cu_op.specs.Within.{with_inlined}

-- ---- the task that writes a chunk

-- region number `region` of operation k has this chunk, which a task of the operation writes or another makes where it is read
pub record MakesChunk (p : PlanView) (k region a : ℕ) (coord : List ℕ) : Type 0 where
  pub operation : k < length p.ops
  pub number : region < regions_of p.arrays (op_of p k)
  pub cell : Contains (written_chunks p.arrays (op_of p k) region) (cell a coord)

-- task number `task` of operation k writes this chunk
pub record WritesCell (p : PlanView) (k task a : ℕ) (coord : List ℕ) : Type 0 where
  pub operation : k < length p.ops
  pub number : task < tasks_of p.arrays (op_of p k)
  pub cell : Contains (written_chunks p.arrays (op_of p k) task) (cell a coord)

-- ---- keys and values

-- the key of a chunk of an array of the plan
abbrev pub key_of : List ArrayInfo → Cell → List ℕ
key_of arrays c = cell_key arrays c.array c.coord

-- the one value of a chunk: the spelling of its array's elements; none where one of them isn't defined
abbrev pub cell_value : PlanView → Elements → Cell → Option (List ℕ)
cell_value p env c = spelled (layout_at p.arrays c.array) (plan_value p env c.array) c.coord

-- ---- readiness

-- A task is ready where each element that its rule reads is held with its value, or made of what is held: for each chunk that it writes
-- and each index in it.
abbrev pub IsReady : PlanView → ℕ → ℕ → Elements → (List ℕ → Option (List ℕ)) → Type 0
IsReady p k task env held = (c : Cell) (idx i : List ℕ) (a : ℕ) → Contains (written_chunks p.arrays (op_of p k) task) c → IsInChunk (grid_at p.arrays c.array) c.coord idx
    → ReadsAt (op_of p k) p.arrays idx a i → with_inlined p (stored_inputs p.arrays held) a i ≡ plan_value p env a i
