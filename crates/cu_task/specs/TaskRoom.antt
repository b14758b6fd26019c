-- The memory that a task is lent, in its parts, and what the task makes in it. This project's own rules.
use Rattle.std.specs.Prelude.{◌≡◌, ℕ, ◌+◌, ◌≤◌, List, length, take, Some}
use Rattle.cu_store.specs.Chunks.{Allows}
use Rattle.cu_store.specs.Steps.{Shown}
use Rattle.cu_op.specs.Arrays.{type_at}
use Rattle.cu_op.specs.Elements.{Elements}
use Rattle.cu_op.specs.TaskView.{TaskView, task_op}
use Rattle.cu_region.specs.Writing.{AreElements}
use Rattle.cu_task.specs.Inputs.{last_bytes}
use Rattle.cu_task.specs.OfTask.{work_bytes, kept_bytes, found_bytes, made_bytes, HasMade, IsMadeOver, AreOfItsType, ChangeBy}
use Rattle.cu_op.specs.Operation.{value_array}
use Rattle.cu_task.specs.Task.{HasResult, IsResultOver}
use Rattle.cu_task.specs.declared.room.TaskRoom.{TaskRoom}

-- each part is as long as the task wants
pub record IsRoomOf (t : TaskView) (room : TaskRoom) : Type 0 where
  pub scratch : work_bytes t ≤ length room.scratch.now
  pub values : length room.values.now ≡ found_bytes t
  pub output : length room.output.now ≡ made_bytes t

-- the bytes that a task is lent at least: those in which it works beside its own regions, these, and what it makes
abbrev pub room_bytes : TaskView → ℕ
room_bytes t = work_bytes t + kept_bytes t + found_bytes t + made_bytes t

-- in one memory of so many bytes, or more, what the task makes stands at the end, and before it the values that it finds
abbrev pub output_in : TaskView → List ℕ → List ℕ
output_in t bytes = last_bytes (made_bytes t) bytes

abbrev pub found_values_in : TaskView → List ℕ → List ℕ
found_values_in t bytes = take (found_bytes t) (last_bytes (found_bytes t + made_bytes t) bytes)

-- they are what the task makes of some elements: its own, and the values that it finds, where they are stored
pub record HasMadeAll (t : TaskView) (at : Elements) (found made : List ℕ) : Type 0 where
  pub output : HasMade t at made
  pub values : (array : ℕ) → value_array (task_op t) ≡ Some array → HasResult t.plan t.op t.number array at found

-- over what is held in a depot that is steady
pub record IsAllMadeOver (t : TaskView) (shown : Shown) (room : TaskRoom) : Type 0 where
  pub output : IsMadeOver t shown room.output.now
  pub values : (array : ℕ) → value_array (task_op t) ≡ Some array → IsResultOver t.plan t.op t.number array shown room.values.now

-- each of these is an element of its array's type
pub record AreAllOfTheirTypes (t : TaskView) (found made : List ℕ) : Type 0 where
  pub output : AreOfItsType t made
  pub values : (array : ℕ) → value_array (task_op t) ≡ Some array → AreElements (type_at t.plan.arrays array) found

-- the changes of the task, if it began at some moment, may be made, and it was made over what was held then
pub record AllowsMade (t : TaskView) (room : TaskRoom) (P : List ℕ → List ℕ → Type 0) : Type 0 where
  pub start : Shown
  pub made : IsAllMadeOver t start room
  pub changes : Allows (ChangeBy t start) P
