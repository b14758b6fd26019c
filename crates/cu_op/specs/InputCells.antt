-- The chunks that a task needs, by the kind of its operation, from the coordinate of the task's own chunk (this project's rule). An axis that
-- an array lacks, or on which it is stretched, counts as 0.
use Rattle.cu_op.specs.Cells.{task_coord}
use Rattle.cu_op.specs.Kinds.{kind_of}
use Rattle.cu_op.specs.PlanView.{PlanView, op_of}
use Rattle.cu_op.specs.Within.{chunks_deep}
use Rattle.cu_op.specs.declared.cells.Cell.{Cell}
use Rattle.cu_op.specs.declared.layout.ArrayInfo.{ArrayInfo}
use Rattle.cu_op.specs.declared.operation.Op.{Op}
use Rattle.std.specs.Prelude.{ℕ, List, flat_map}

-- the chunks that an operation needs for the chunk at this coordinate of what its tasks go over
abbrev pub needed_chunks : List ArrayInfo → Op → List ℕ → List Cell
needed_chunks arrays op c = (kind_of op).cells arrays c

-- for a region by its number; an array that is an input twice counts twice
abbrev pub own_cells : List ArrayInfo → Op → ℕ → List Cell
own_cells arrays op task = needed_chunks arrays op (task_coord arrays op task)

-- the input cells of a task: those of its stored inputs, and for a chunk that is made where it is read those of its maker
abbrev pub input_cells : PlanView → ℕ → ℕ → List Cell
input_cells p k task = flat_map (chunks_deep own_cells p k) (own_cells p.arrays (op_of p k) task)
