-- What a contract sees of a task of a plan, and what the code keeps of it.
use Rattle.std.specs.Prelude.{◌≡◌, ◌⊎◌, ℕ, ◌<◌, true, false, List, [], ◌∷◌, All, Some, length, slice_index_or}
use Rattle.cu_grid.specs.Counts.{IsRegion}
use Rattle.cu_grid.specs.declared.region.Region.{Region}
use Rattle.cu_op.specs.Arrays.{grid_at, is_inlined, maker_at}
use Rattle.cu_op.specs.Cells.{regions_of, task_coord, task_grid, task_lo, task_hi}
use Rattle.cu_op.specs.Chunks.{cell, walk, IsOneChunk}
use Rattle.cu_op.specs.Operation.{target_of, IsReadable}
use Rattle.cu_op.specs.PlanView.{PlanView}
use Rattle.cu_op.specs.Schedule.{op_of, MakesChunk}
use Rattle.cu_op.specs.Sound.{Sound}
use Rattle.cu_op.specs.Walks.{input_walks, walk_cells, IsWalkOver}
use Rattle.cu_op.specs.Within.{reads_for}
use Rattle.cu_op.specs.declared.layout.ArrayInfo.{ArrayInfo}
use Rattle.cu_op.specs.declared.operation.Op.{Op}
use Rattle.cu_op.specs.declared.walks.Walk.{Walk}

-- a plan, the number of one of its operations, and the number of one of the regions that the operation's tasks go over; where its result
-- is made where it is read, that region is computed inside a task of another operation
pub record TaskView : Type 0 where
  pub plan : PlanView
  pub op : ℕ
  pub number : ℕ
  pub operation : op < length plan.ops
  pub within : number < regions_of plan.arrays (op_of plan op)

-- the operation
abbrev pub task_op : TaskView → Op
task_op t = op_of t.plan t.op

-- this is the region of the task, and these are the regions from which it computes
pub record HasTaskRegions (p : PlanView) (k task : ℕ) (region : Region) (walks : List Walk) : Type 0 where
  pub sound : Sound p
  pub lo : region.lo ≡ task_lo p.arrays (op_of p k) task
  pub hi : region.hi ≡ task_hi p.arrays (op_of p k) task
  pub inside : IsRegion (task_grid p.arrays (op_of p k)).shape region.lo region.hi
  pub reads : walks ≡ input_walks p.arrays (op_of p k) task
  pub over : All (IsWalkOver p.arrays) walks

-- ---- what stands inside a task

-- region number `region` of operation k is what a walk goes over
pub record IsInnerRegion (p : PlanView) (w : Walk) (k region : ℕ) : Type 0 where
  pub makes : MakesChunk p k region w.array (task_coord p.arrays (op_of p k) region)
  pub maker : maker_at p.arrays w.array ≡ Some k
  pub target : target_of (op_of p k) ≡ w.array
  pub lo : task_lo p.arrays (op_of p k) region ≡ w.region.lo
  pub hi : task_hi p.arrays (op_of p k) region ≡ w.region.hi
  -- its only chunk
  pub cells : walk_cells p.arrays w ≡ cell w.array (task_coord p.arrays (op_of p k) region) ∷ []

-- what computes the region of a walk of an outer task, whose array is made where it is read
pub record StandsFor (outer : TaskView) (w : Walk) (inner : TaskView) : Type 0 where
  pub plan : inner.plan ≡ outer.plan
  pub inlined : is_inlined outer.plan.arrays w.array ≡ true
  pub before : inner.op < outer.op
  pub region : IsInnerRegion outer.plan w inner.op inner.number

-- a region of a stored array
abbrev pub IsStoredWalk : List ArrayInfo → Walk → Type 0
IsStoredWalk arrays w = IsWalkOver arrays w × (is_inlined arrays w.array ≡ false)

-- a region that is read for one of operation k
pub record IsReadFor (p : PlanView) (k : ℕ) (w : Walk) : Type 0 where
  pub over : IsWalkOver p.arrays w
  pub readable : IsReadable p.arrays k w.array
  pub chunk : is_inlined p.arrays w.array ≡ true → IsOneChunk (grid_at p.arrays w.array) w.region

-- and how many stored arrays are read for it
abbrev pub walk_load : PlanView → ℕ → Walk → ℕ
walk_load p k w = reads_for p k w.array

-- a region that no task is needed for: its array is stored, or it has no chunk
abbrev pub IsReadAsIs : List ArrayInfo → Walk → Type 0
IsReadAsIs arrays w = (is_inlined arrays w.array ≡ false) ⊎ (walk_cells arrays w ≡ [])

-- of the array that the task reads at this place the region from which it computes
abbrev pub walk_at : TaskView → ℕ → Walk
walk_at t place = slice_index_or (input_walks t.plan.arrays (task_op t) t.number) place (walk 0 [] [])
