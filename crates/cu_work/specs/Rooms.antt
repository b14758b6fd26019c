-- The memory that tasks are lent, in bytes and in words of 64 bits: an operation's projection less what is reserved, a word
-- counted as eight bytes. What stands inside an operation counts with it. This project's own rule.
use Rattle.std.specs.List.{range_with_len}
use Rattle.std.specs.Prelude.{ℕ, ◌+◌, ◌*◌, ◌<◌, ◌≤◌, length, map, sum_by}
use Rattle.cu_op.specs.PlanView.{PlanView}
use Rattle.cu_op.specs.Projection.{input_room, output_room, projection, scratch_room}
use Rattle.cu_op.specs.Schedule.{op_of}
use Rattle.cu_op.specs.Within.{ops_within}
use Rattle.cu_shape.specs.Counts.{largest}
use Rattle.cu_task.specs.Task.{steps_within}

-- a task's scratch, the regions that it and the operations inside it read, and those that it writes
abbrev pub task_bytes : PlanView → ℕ → ℕ
task_bytes p k =
    largest (map (scratch_room p.arrays) (ops_within p k)) + sum_by (input_room p.arrays) (ops_within p k)
    + output_room p.arrays (op_of p k)

-- 64 words for each instruction of a kernel
abbrev pub task_words : PlanView → ℕ → ℕ
task_words p k = 64 * steps_within p k

-- how many bytes and words are taken
pub record RoomSizes : Type 0 where
  pub bytes : ℕ
  pub words : ℕ

-- the greatest of these over all operations
abbrev pub most_of : (ℕ → ℕ) → PlanView → ℕ
most_of room p = largest (map room (range_with_len 0 (length p.ops)))

-- the most that any task of the plan is lent of each
abbrev pub rooms_of : PlanView → RoomSizes
rooms_of p = record { bytes = most_of (task_bytes p) p; words = most_of (task_words p) p }

-- the bytes of both
abbrev pub buffer_bytes : RoomSizes → ℕ
buffer_bytes r = r.bytes + 8 * r.words

-- the memory of each operation's tasks is within this, and their kernels have at most so many instructions
abbrev pub AreLentWithin : PlanView → ℕ → ℕ → Type 0
AreLentWithin p room instructions = (k : ℕ) → k < length p.ops → (projection p k ≤ room) × (steps_within p k ≤ instructions)
