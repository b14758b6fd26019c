-- What a task wants of the store where its chunks are. This project's own rules.
use Rattle.std.specs.Prelude.{ℕ, List, ◌<◌, length, Contains}
use Rattle.cu_store.specs.Steps.{Shown}
use Rattle.cu_op.specs.PlanView.{PlanView}
use Rattle.cu_op.specs.Arrays.{array_at}
use Rattle.cu_op.specs.Cells.{task_lo, task_hi}
use Rattle.cu_op.specs.Schedule.{op_of, key_of}
use Rattle.cu_op.specs.Walks.{written_chunks}
use Rattle.cu_op.specs.declared.cells.Cell.{Cell}
use Rattle.cu_op.specs.declared.layout.ArrayInfo.{ArrayInfo}
use Rattle.cu_op.specs.declared.walks.Walk.{Walk}
use Rattle.cu_region.specs.Reading.{IsChunkKey}
use Rattle.cu_region.specs.Writing.{RegionPut}
use Rattle.cu_store.specs.Chunks.{Keeps, Allows}
use Rattle.cu_task.specs.Inputs.{IsWalkKey}
use Rattle.cu_task.specs.Task.{IsTaskKey, TaskChange, IsResultOver}
use Rattle.cu_task.specs.Views.{ViewTask, IsSourceKey}

-- the chunks of a walk may be asked for
abbrev pub MayReadWalk : List ArrayInfo → Walk → (List ℕ → Type 0) → Type 0
MayReadWalk arrays w K = Keeps (IsWalkKey arrays w) K

-- those that a task reads
abbrev pub MayReadTask : PlanView → ℕ → ℕ → (List ℕ → Type 0) → Type 0
MayReadTask p k task K = Keeps (IsTaskKey p k task) K

-- those of each source of a view
abbrev pub MayReadSources : ViewTask → (List ℕ → Type 0) → Type 0
MayReadSources t K = (source : ℕ) → source < length t.ins → Keeps (IsSourceKey t source) K

-- those that a task writes
abbrev pub MayReadWritten : PlanView → ℕ → ℕ → (List ℕ → Type 0) → Type 0
MayReadWritten p k task K = (c : Cell) → Contains (written_chunks p.arrays (op_of p k) task) c → K (key_of p.arrays c)

-- the chunks of an array in the region of a task may be asked for, and may be put with a buffer's values
abbrev pub MayReadRegion : PlanView → ℕ → ℕ → ℕ → (List ℕ → Type 0) → Type 0
MayReadRegion p k task array K = Keeps (IsChunkKey (array_at p.arrays array) (task_lo p.arrays (op_of p k) task) (task_hi p.arrays (op_of p k) task)) K

abbrev pub AllowsRegion : PlanView → ℕ → ℕ → ℕ → List ℕ → (List ℕ → List ℕ → Type 0) → Type 0
AllowsRegion p k task array output P = Allows (RegionPut (array_at p.arrays array) (task_lo p.arrays (op_of p k) task) (task_hi p.arrays (op_of p k) task) output) P

-- the changes of a task that began at some moment may be made, and the buffer has an array's result over what was held then
abbrev pub AllowsResult : PlanView → ℕ → ℕ → ℕ → List ℕ → (List ℕ → List ℕ → Type 0) → Type 0
AllowsResult p k task array output P = (start : Shown) × IsResultOver p k task array start output × Allows (TaskChange p k task start) P
