-- Which region of an operation reads a chunk (this project's own rule).
use Rattle.std.specs.Prelude.{ℕ, ◌<◌, Contains, length}
use Rattle.cu_op.specs.Cells.{regions_of}
use Rattle.cu_op.specs.PlanView.{PlanView, op_of}
use Rattle.cu_op.specs.Walks.{read_chunks}
use Rattle.cu_op.specs.declared.cells.Cell.{Cell}

-- Region number `region` of operation k reads the chunk. It is the region of a task, where the
-- operation's result is stored, or else is itself made where it is read.
pub record ReadsChunk (p : PlanView) (k region : ℕ) (c : Cell) : Type 0 where
  pub operation : k < length p.ops
  pub number : region < regions_of p.arrays (op_of p k)
  pub chunk : Contains (read_chunks p.arrays (op_of p k) region) c
