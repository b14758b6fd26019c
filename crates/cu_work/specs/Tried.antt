-- What comes of a task of a part, which is tried again where the store failed, and of the chosen tasks
-- one after another. This project's own rules.
use Rattle.std.specs.Prelude.{◌≡◌, ℕ, ◌+◌, ◌*◌, ◌<◌, ◌≤◌, ◌≢◌, Bool, IsTrue, true, false, List, length, Contains, slice_index_or, Result, Ok, Err, if◌then◌else◌}
use Rattle.cu_store.specs.Faults.{Rose}
use Rattle.cu_store.specs.Steps.{Shown, Changes, Steps}
use Rattle.cu_store.specs.declared.faults.TaskFault.{TaskFault}
use Rattle.cu_store.specs.declared.faults.TaskFault.TheVariants as task
use Rattle.cu_op.specs.declared.cells.Cell.{Cell}
use Rattle.cu_op.specs.Arrays.{chunk_room}
use Rattle.cu_op.specs.PlanView.{PlanView}
use Rattle.cu_op.specs.Schedule.{key_of}
use Rattle.cu_op.specs.Elements.{Elements}
use Rattle.cu_op.specs.Within.{fetched_chunks}
use Rattle.cu_region.specs.Steady.{HoldsLength}
use Rattle.cu_run_law.specs.Left.{IsLeft}
use Rattle.cu_run_law.specs.Pieces.{chunks_alone, HoldsTask}
use Rattle.cu_table.specs.declared.state.TaskId.{TaskId}
use Rattle.cu_task.specs.Calls.{calls_of}
use Rattle.cu_work.specs.Calls.{sum_of_first}
use Rattle.cu_work.specs.Drive.{IsInputKey}
use Rattle.cu_work.specs.Asked.{IsChosenAt}
use Rattle.cu_work.specs.Part.{TaskPut}
use Rattle.cu_work.specs.Rooms.{task_bytes, task_words}
use Rattle.cu_work.specs.declared.trying.TaskMemory.{TaskMemory}
use Rattle.cu_work.specs.declared.part.Part.{Part}
use Rattle.cu_work.specs.declared.part.PartCounts.{PartCounts}
use Rattle.cu_work.specs.declared.part.PartFault.{PartFault}
use Rattle.cu_work.specs.declared.part.PartFault.TheVariants.{Broken, BadChunk, NoMemory}

-- the memory is just what a task of the operation is lent
pub record IsMemoryOf (p : PlanView) (op : ℕ) (m : TaskMemory) : Type 0 where
  pub bytes : length m.bytes.items ≡ task_bytes p op
  pub words : length m.words.items ≡ task_words p op

-- ---- one task

-- the task of this operation with this number
abbrev pub task_id : ℕ → ℕ → TaskId
task_id op task = record { op = op; task = task }

-- the key is that of a chunk that this task reads, which holds `got` bytes and not those of a chunk
abbrev pub IsBadRead : PlanView → TaskId → Shown → List ℕ → ℕ → ℕ → Type 0
IsBadRead p t shown key got want = (c : Cell)
    × Contains (fetched_chunks p t.op t.task) c × (key ≡ key_of p.arrays c)
    × (want ≡ chunk_room p.arrays c.array) × (got ≢ want) × HoldsLength shown.held key got

-- A chunk that ends the tries of this task, which reads it. Where the chunks were left so at first it
-- is an input's.
abbrev pub IsBadOf : PlanView → TaskId → Shown × Shown → List ℕ → ℕ → ℕ → Type 0
IsBadOf p t shown key got want = IsBadRead p t shown.1 key got want
    × ((env : Elements) → IsLeft (chunks_alone p) env shown.0 → IsInputKey p key)

-- Why this task failed: each of so many tries, the count risen in each; a chunk that it reads is bad;
-- or the store lacks memory.
abbrev pub IsTaskEnd : PlanView → TaskId → ℕ → Shown × Shown → TaskFault → Type 0
IsTaskEnd p t tries shown task.Store = Rose tries shown.0.faults shown.1.faults
IsTaskEnd p t tries shown (task.BadChunk key got want) = IsBadOf p t shown key got want
IsTaskEnd p t tries shown task.NoMemory = IsTrue shown.1.lacks

-- how often it failed before it was done, the count of faults risen in each; or why it did for good
abbrev pub IsTried : PlanView → TaskId → ℕ → Shown × Shown → Result ℕ TaskFault → Type 0
IsTried p t retries shown (Ok n) = (n ≤ retries) × Rose n shown.0.faults shown.1.faults
IsTried p t retries shown (Err e) = IsTaskEnd p t (retries + 1) shown e

-- a task that ended so isn't tried again
abbrev pub ends_tries : TaskFault → Bool
ends_tries task.Store = false
ends_tries fault = true

-- what is answered where a task of a part ended so
abbrev pub task_fault : ℕ → TaskFault → PartFault
task_fault number task.Store = Broken number
task_fault number (task.BadChunk key got want) = BadChunk key got want
task_fault number task.NoMemory = NoMemory

-- ---- the chosen tasks

-- such a put for a chosen task
abbrev pub ChosenPut : PlanView → Part → List Bool → Shown → Changes
ChosenPut p q chosen first key value = (i : ℕ) × IsChosenAt chosen i × TaskPut p q.op (q.from + i) first key value

-- how many of the first n tasks are chosen, and the calls of each made once
abbrev pub chosen_below : List Bool → ℕ → ℕ
chosen_below chosen n = sum_of_first (λ i. if slice_index_or chosen i false then 1 else 0) n

abbrev pub chosen_calls : PlanView → Part → List Bool → ℕ → ℕ
chosen_calls p q chosen n = sum_of_first (λ i. if slice_index_or chosen i false then calls_of p q.op (q.from + i) else 0) n

-- the chunks of the chosen ones among the first n tasks hold their values
abbrev pub HoldsChosen : PlanView → Part → List Bool → ℕ → Elements → Shown → Type 0
HoldsChosen p q chosen n env shown = (i : ℕ) → i < n → IsChosenAt chosen i → HoldsTask (chunks_alone p) env q.op (q.from + i) shown

-- Each chosen one was started once, and once more for each failure; each failed at most as often as it
-- is tried again, and the count of faults rose by each failure.
abbrev pub AreTaskStarts : ℕ → List Bool → ℕ → ℕ × ℕ → PartCounts → Type 0
AreTaskStarts retries chosen n faults c = (c.starts ≡ c.failures + chosen_below chosen n)
    × (c.failures ≤ retries * chosen_below chosen n) × Rose c.failures faults.0 faults.1

-- The chosen ones among the first n tasks were run, from a first moment on.
pub record HaveRun (p : PlanView) (q : Part) (chosen : List Bool) (retries n : ℕ) (shown : Shown × Shown) : Type 0 where
  pub step : Steps (ChosenPut p q chosen shown.0) 0 ((retries + 1) * chosen_calls p q chosen n) shown.0 shown.1
  pub done : (env : Elements) → IsLeft (chunks_alone p) env shown.0 → HoldsChosen p q chosen n env shown.1

-- why running them ended: all tries of a chosen one failed, a chunk that a chosen one reads was bad,
-- or the store lacks memory
abbrev pub IsStoppedBy : PlanView → Part → List Bool → ℕ → Shown × Shown → PartFault → Type 0
IsStoppedBy p q chosen tries shown (Broken number) = (i : ℕ) × (number ≡ q.from + i) × IsChosenAt chosen i
    × Rose tries shown.0.faults shown.1.faults
IsStoppedBy p q chosen tries shown (BadChunk key got want) = (i : ℕ) × IsChosenAt chosen i
    × IsBadOf p (task_id q.op (q.from + i)) shown key got want
IsStoppedBy p q chosen tries shown NoMemory = IsTrue shown.1.lacks
IsStoppedBy p q chosen tries shown fault = ⊥
