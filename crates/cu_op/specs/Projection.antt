-- The memory of an operation's tasks, in bytes: what is reserved, scratch, the input regions and the output regions, and
-- 512 for each kernel instruction, which is 64 words (this project's rule).
use Rattle.cu_op.specs.Arrays.{chunk_room}
use Rattle.cu_op.specs.Kinds.{kind_of}
use Rattle.cu_op.specs.Operation.{writes_of, reads_of, kernel_of}
use Rattle.cu_op.specs.PlanView.{PlanView, op_of}
use Rattle.cu_op.specs.Within.{ops_within}
use Rattle.cu_op.specs.declared.kernel.Instr.{Instr}
use Rattle.cu_op.specs.declared.layout.ArrayInfo.{ArrayInfo}
use Rattle.cu_op.specs.declared.operation.Op.{Op}
use Rattle.cu_shape.specs.Counts.{largest}
use Rattle.std.specs.Prelude.{ℕ, ◌+◌, ◌*◌, List, ◌++◌, length, map, Option, None, Some, sum_by}

-- the greatest chunk of an array that the operation reads or writes
abbrev pub scratch_room : List ArrayInfo → Op → ℕ
scratch_room arrays op = largest (map (chunk_room arrays) (reads_of op ++ writes_of op))

-- A map and a product have one chunk of each input, an input that stands twice counted twice; a view takes elements out of the scratch
-- chunk; a fold has one chunk of its source, and a merge a whole group of such chunks. A copy has its region, counted once.
abbrev pub input_room : List ArrayInfo → Op → ℕ
input_room arrays op = (kind_of op).input_room arrays

abbrev pub output_room : List ArrayInfo → Op → ℕ
output_room arrays op = (kind_of op).output_room arrays

-- the instructions of a kernel, where there is one
abbrev pub kernel_length : Option (List Instr) → ℕ
kernel_length None = 0
kernel_length (Some code) = length code

abbrev pub instruction_count : Op → ℕ
instruction_count op = kernel_length (kernel_of op)

-- of an operation alone
abbrev pub own_projection : List ArrayInfo → ℕ → Op → ℕ
own_projection arrays reserved op = reserved + scratch_room arrays op + input_room arrays op + output_room arrays op + 512 * instruction_count op

-- with the operations that stand inside its tasks: the chunk of an array that is made where it is read is an input region of its reader
abbrev pub projection : PlanView → ℕ → ℕ
projection p k =
    p.reserved + largest (map (scratch_room p.arrays) (ops_within p k)) + sum_by (input_room p.arrays) (ops_within p k)
    + output_room p.arrays (op_of p k) + 512 * sum_by instruction_count (ops_within p k)

-- the numbers of an operation's own that count in its memory are small: the elements of a copy's region, and how many partial results
-- are in a group
abbrev pub HasSmallRegions : Op → Type 0
HasSmallRegions op = (kind_of op).is_small
