-- What a task reads and makes, where its plan, its operation and its number are one value: the words of Task.antt and Asks.antt for it, and for the array that the tasks of its operation go over.
use Rattle.std.specs.Prelude.{ℕ, ◌*◌, ◌<◌, List, drop, length, sum_by}
use Rattle.cu_store.specs.Held.{Contents}
use Rattle.cu_store.specs.Steps.{Shown, Changes}
use Rattle.cu_store.specs.declared.faults.TaskFault.{TaskFault}
use Rattle.cu_op.specs.Arrays.{type_at}
use Rattle.cu_op.specs.Cells.{tasks_of}
use Rattle.cu_op.specs.Operation.{target_of}
use Rattle.cu_op.specs.Projection.{instruction_count, scratch_room}
use Rattle.cu_op.specs.TaskView.{TaskView, task_op}
use Rattle.cu_op.specs.Elements.{Elements}
use Rattle.cu_op.specs.Value.{stored_inputs}
use Rattle.cu_op.specs.Walks.{cells_of_walks, input_walks, walk_cells, written_chunks}
use Rattle.cu_op.specs.Within.{with_inlined}
use Rattle.cu_op.specs.declared.cells.Cell.{Cell}
use Rattle.cu_op.specs.declared.walks.Walk.{Walk}
use Rattle.cu_region.specs.Writing.{AreElements}
use Rattle.cu_task.specs.Asks.{MayReadTask, MayReadWritten}
use Rattle.cu_task.specs.Inputs.{room_of_walks, HasRegion}
use Rattle.cu_task.specs.Calls.{chunk_calls, chunk_tally, read_calls, read_tally, tally_of, weight_in, written_tally, HasSureCalls}
use Rattle.cu_task.specs.Task.{IsTaskReady, TaskChange, HoldsCells, IsTaskKey, StillHolds, steps_within, work_room, kept_room, result_room, found_room, HasResult, IsComputed, AreSteadyInputs, IsResultOver, IsTaskFault}

-- the bytes through which it reads and writes chunks; those with what stands inside it; of the regions that it reads; and of the elements that it makes
abbrev pub scratch_bytes : TaskView → ℕ
scratch_bytes t = scratch_room t.plan.arrays (task_op t)

abbrev pub work_bytes : TaskView → ℕ
work_bytes t = work_room t.plan t.op

abbrev pub read_bytes : TaskView → ℕ
read_bytes t = room_of_walks t.plan.arrays (input_walks t.plan.arrays (task_op t) t.number)

abbrev pub made_bytes : TaskView → ℕ
made_bytes t = result_room t.plan t.op t.number (target_of (task_op t))

-- of the regions that it keeps beside these: none of a view, or of a copy, which reads into its result
abbrev pub kept_bytes : TaskView → ℕ
kept_bytes t = kept_room t.plan.arrays (task_op t) t.number

-- and of the values that it finds
abbrev pub found_bytes : TaskView → ℕ
found_bytes t = found_room t.plan t.op t.number

-- the words of its kernel, and with those inside it
abbrev pub own_words : TaskView → ℕ
own_words t = 64 * instruction_count (task_op t)

abbrev pub kernel_words : TaskView → ℕ
kernel_words t = 64 * steps_within t.plan t.op

-- the regions from which it computes, from one on
abbrev pub walks_from : TaskView → ℕ → List Walk
walks_from t place = drop place (input_walks t.plan.arrays (task_op t) t.number)

-- the calls by which it reads, those for a region and for several, and those by which it writes
abbrev pub calls_to_read : TaskView → ℕ
calls_to_read t = read_calls t.plan t.op t.number

abbrev pub calls_for_walk : TaskView → Walk → ℕ
calls_for_walk t w = sum_by (chunk_calls t.plan t.op) (walk_cells t.plan.arrays w)

abbrev pub calls_for_walks : TaskView → List Walk → ℕ
calls_for_walks t walks = sum_by (chunk_calls t.plan t.op) (cells_of_walks t.plan.arrays walks)

abbrev pub calls_to_write : TaskView → ℕ
calls_to_write t = length (written_chunks t.plan.arrays (task_op t) t.number)

-- what these calls add to a tally, where each key has a weight
abbrev pub cell_weight : (List ℕ → ℕ) → TaskView → Cell → ℕ
cell_weight weight t c = weight_in weight t.plan.arrays c

abbrev pub tally_to_read : (List ℕ → ℕ) → TaskView → ℕ
tally_to_read weight t = read_tally (cell_weight weight t) t.plan t.op t.number

abbrev pub tally_for_walk : (List ℕ → ℕ) → TaskView → Walk → ℕ
tally_for_walk weight t w = sum_by (chunk_tally (cell_weight weight t) t.plan t.op) (walk_cells t.plan.arrays w)

abbrev pub tally_for_walks : (List ℕ → ℕ) → TaskView → List Walk → ℕ
tally_for_walks weight t walks = sum_by (chunk_tally (cell_weight weight t) t.plan t.op) (cells_of_walks t.plan.arrays walks)

abbrev pub tally_to_write : (List ℕ → ℕ) → TaskView → ℕ
tally_to_write weight t = written_tally (cell_weight weight t) t.plan t.op t.number

abbrev pub tally_of_task : (List ℕ → ℕ) → TaskView → ℕ
tally_of_task weight t = tally_of weight t.plan t.op t.number

-- what the chunks of a walk add that are stored
abbrev pub weight_of_walk : (List ℕ → ℕ) → TaskView → Walk → ℕ
weight_of_walk weight t w = sum_by (cell_weight weight t) (walk_cells t.plan.arrays w)

-- it may ask for what it reads, and for what it makes
abbrev pub MayRead : TaskView → (List ℕ → Type 0) → Type 0
MayRead t K = MayReadTask t.plan t.op t.number K

abbrev pub MayReadMade : TaskView → (List ℕ → Type 0) → Type 0
MayReadMade t K = MayReadWritten t.plan t.op t.number K

-- what it stands on: its inputs are ready; no late put changes what it reads
abbrev pub IsReadyFor : TaskView → Elements → Shown → Type 0
IsReadyFor t env shown = IsTaskReady t.plan t.op t.number env shown

abbrev pub AreSteady : TaskView → Shown → Contents → Type 0
AreSteady t shown held = AreSteadyInputs t.plan t.op t.number shown held

-- as what is held was held when it began
abbrev pub HoldsFor : TaskView → Contents → Shown → Type 0
HoldsFor t held shown = StillHolds (IsTaskKey t.plan t.op t.number) held shown

-- nothing fails but the calls that are made for sure
abbrev pub IsSure : TaskView → Type 0
IsSure t = HasSureCalls t.plan t.op

-- it is one of the operation's own, and so writes chunks
abbrev pub IsOwnTask : TaskView → Type 0
IsOwnTask t = t.number < tasks_of t.plan.arrays (task_op t)

-- the elements that are held, and with those that are made of them where they are read
abbrev pub stored_elements : TaskView → Contents → Elements
stored_elements t held = stored_inputs t.plan.arrays held

abbrev pub held_inputs : TaskView → Contents → Elements
held_inputs t held = with_inlined t.plan (stored_inputs t.plan.arrays held)

-- the buffer has the elements of a region of these
abbrev pub HasWalk : TaskView → Elements → Walk → List ℕ → Type 0
HasWalk t at w buf = HasRegion (type_at t.plan.arrays w.array) (at w.array) w.region.lo w.region.hi buf

-- the buffer has what it makes: of some elements, from the bytes of the regions that it reads, and of what is held in a depot that is steady
abbrev pub HasMade : TaskView → Elements → List ℕ → Type 0
HasMade t at output = HasResult t.plan t.op t.number (target_of (task_op t)) at output

abbrev pub IsMadeFrom : TaskView → List ℕ → List ℕ → Type 0
IsMadeFrom t inputs output = IsComputed t.plan t.op t.number (target_of (task_op t)) inputs output

abbrev pub IsMadeOver : TaskView → Shown → List ℕ → Type 0
IsMadeOver t shown output = IsResultOver t.plan t.op t.number (target_of (task_op t)) shown output

-- each chunk that it makes holds its value
abbrev pub HoldsMade : TaskView → Elements → Shown → Type 0
HoldsMade t env shown = HoldsCells t.plan t.op t.number env shown

-- each of the buffer's is an element of its array's type
abbrev pub AreOfItsType : TaskView → List ℕ → Type 0
AreOfItsType t output = AreElements (type_at t.plan.arrays (target_of (task_op t))) output

-- what it changes, and why it fails
abbrev pub ChangeBy : TaskView → Shown → Changes
ChangeBy t shown = TaskChange t.plan t.op t.number shown

abbrev pub IsOwnFault : TaskView → Shown → Shown → TaskFault → Type 0
IsOwnFault t old new e = IsTaskFault old new t.plan t.op t.number e
