-- What a table keeps beside the state of its machine: how many tasks aren't done, which ready tasks
-- wait, and what each other waiting task waits for. This project's own rules.
use Rattle.std.specs.Prelude.{◌≡◌, ◌≢◌, ◌⊎◌, ℕ, zero, suc, ◌+◌, ◌*◌, ◌<◌, ◌≤◌, ◌==◌, Bool, true, false, List, [], ◌∷◌, ◌++◌, length, map, take, drop, set, count_by, sum_by, All, slice_index_or, Option, None}
use Rattle.std.specs.List.{range_with_len}
use Rattle.cu_op.specs.Cells.{tasks_of}
use Rattle.cu_op.specs.PlanView.{PlanView}
use Rattle.cu_op.specs.Schedule.{op_of, WritesCell}
use Rattle.cu_op.specs.declared.cells.Cell.{Cell}
use Rattle.cu_op.specs.Sound.{Sound}
use Rattle.cu_history.specs.declared.entry.EventKind.{EventKind}
use Rattle.cu_history.specs.declared.entry.EventKind.TheVariants.{Done, Failed}
use Rattle.cu_table.specs.declared.end.End.{End}
use Rattle.cu_table.specs.declared.line.Undone.{Undone}
use Rattle.cu_table.specs.declared.state.Ending.{Ending}
use Rattle.cu_table.specs.declared.state.RunningCopy.{RunningCopy}
use Rattle.cu_table.specs.declared.state.TaskId.{TaskId}
use Rattle.cu_table.specs.declared.state.TaskState.{TaskState}
use Rattle.cu_table.specs.declared.watch.ListHead.{ListHead}
use Rattle.cu_table.specs.Numbers.{IsTask, first_task, task_count, task_number}
use Rattle.cu_table.specs.Machine.{Machine, no_task, done_now, failed_now, one_copy_less, state_at, IsDone, IsWaiting, IsSingleState, MakesInput, AreInputsDone}
use Rattle.cu_table.specs.Step.{Replays}
use Rattle.cu_table.specs.Table.{TableView, undone_among}

-- ---- the tasks by their numbers

-- for each operation the number of its first task, and for each number its task
pub record HasNumbers (p : PlanView) (first : List ℕ) (ids : List TaskId) : Type 0 where
  pub firsts : length first ≡ length p.ops
  pub first_at : (k : ℕ) → k < length p.ops → slice_index_or first k 0 ≡ first_task p k
  pub ids_count : length ids ≡ task_count p
  pub id_at : (op task : ℕ) (d : TaskId) → IsTask p op task
      → slice_index_or ids (task_number p op task) d ≡ record { op = op; task = task }

-- the same for the operations below n
pub record HasNumbersBelow (p : PlanView) (n : ℕ) (first : List ℕ)
    (ids : List TaskId) : Type 0 where
  pub firsts : length first ≡ n
  pub first_at : (k : ℕ) → k < n → slice_index_or first k 0 ≡ first_task p k
  pub ids_count : length ids ≡ first_task p n
  pub id_at : (op task : ℕ) (d : TaskId) → op < n → IsTask p op task
      → slice_index_or ids (task_number p op task) d ≡ record { op = op; task = task }

-- so many tasks of an operation, in order
abbrev pub task_ids : ℕ → ℕ → List TaskId
task_ids op count = map (λ t. record { op = op; task = t }) (range_with_len 0 count)

-- ---- lists of tasks, each linked through one array

-- so many tasks from the first on, where `nexts` has for each the one after it
abbrev pub chain : List ℕ → ℕ → ℕ → List ℕ
chain nexts zero first = []
chain nexts (suc count) first = first ∷ chain nexts count (slice_index_or nexts first 0)

abbrev pub chain_of : List ℕ → ListHead → List ℕ
chain_of nexts h = chain nexts h.count h.first

-- how often a task stands in a list
abbrev pub times_in : ℕ → List ℕ → ℕ
times_in j tasks = count_by (λ i. i == j) tasks

-- lists by their numbers, of tasks that are fewer than `size`
pub record Lists : Type 0 where
  pub size : ℕ
  pub lists : List (List ℕ)

-- ---- waiting tasks

-- the ready waiting tasks, the next to start last; and for each thing that is waited for, the tasks
-- that watch it. Things are the tasks by their numbers, and then the operations.
pub record Lined : Type 0 where
  pub size : ℕ
  pub waiting : List ℕ
  pub watching : List (List ℕ)

abbrev pub watchers_of : Lined → ℕ → List ℕ
watchers_of q x = slice_index_or q.watching x []

-- how often a task stands in the lists
abbrev pub held : ℕ → Lined → ℕ
held j q = times_in j q.waiting + sum_by (times_in j) q.watching

abbrev pub pushed : Lined → ℕ → Lined
pushed q j = record { size = q.size; waiting = q.waiting ++ j ∷ []; watching = q.watching }

abbrev pub watched : Lined → ℕ → List ℕ → Lined
watched q x tasks = record { size = q.size; waiting = q.waiting; watching = set q.watching x tasks }

-- how many tasks of an operation aren't done
abbrev pub undone_of : PlanView → Machine → ℕ → ℕ
undone_of p m k =
    undone_among (take (tasks_of p.arrays (op_of p k)) (drop (first_task p k) m.tasks))

-- task t of operation k isn't done and makes an input cell of the task
pub record WaitsForTask (p : PlanView) (m : Machine) (x op task : ℕ) : Type 0 where
  pub maker : ℕ
  pub number : ℕ
  pub makes : MakesInput p maker number op task
  pub undone : (state_at p m maker number).done ≡ false
  pub thing : x ≡ task_number p maker number

-- a chunk's maker, if it has one, is done
abbrev pub IsCellDone : PlanView → Machine → Cell → Type 0
IsCellDone p m c = (k t : ℕ) → WritesCell p k t c.array c.coord → IsDone p m k t

-- its maker is the task of this number, and isn't done
abbrev pub IsUndoneMaker : PlanView → Machine → Cell → ℕ → Type 0
IsUndoneMaker p m c x = (k : ℕ) × (t : ℕ) × WritesCell p k t c.array c.coord
    × ((state_at p m k t).done ≡ false) × (x ≡ task_number p k t)

-- some task of operation k isn't done, and each of them makes an input cell of the task
pub record WaitsForAll (p : PlanView) (m : Machine) (x op task : ℕ) : Type 0 where
  pub maker : ℕ
  pub within : maker < length p.ops
  pub makes : (t : ℕ) → IsTask p maker t → MakesInput p maker t op task
  pub undone : undone_of p m maker ≢ 0
  pub thing : x ≡ task_count p + maker

-- the thing keeps the task from being ready
abbrev pub Blocks : PlanView → Machine → ℕ → ℕ → ℕ → Type 0
Blocks p m x op task = WaitsForTask p m x op task ⊎ WaitsForAll p m x op task

-- a task that is done, or an operation of which all are
abbrev pub IsOver : PlanView → Machine → ℕ → Type 0
IsOver p m x =
    ((k : ℕ) × (t : ℕ) × IsTask p k t × IsDone p m k t × (x ≡ task_number p k t))
    ⊎ ((k : ℕ) × (k < length p.ops) × (undone_of p m k ≡ 0) × (x ≡ task_count p + k))

-- Each waiting task but for the missing ones stands in one list, once: a ready one among those, any
-- other where it watches a thing that keeps it waiting, or that is over by now.
pub record IsLined (p : PlanView) (m : Machine) (missing : ℕ → Type 0) (q : Lined) : Type 0 where
  pub limit : task_count p ≤ 65536
  pub size : q.size ≡ task_count p
  pub things : length q.watching ≡ task_count p + length p.ops
  pub once : (j : ℕ) → held j q ≤ 1
  pub small : (j : ℕ) → 1 ≤ held j q → j < task_count p
  pub ready : (op task : ℕ) → IsTask p op task → 1 ≤ times_in (task_number p op task) q.waiting
      → AreInputsDone p m op task × IsWaiting p m op task
  pub watching_for : (x op task : ℕ) → IsTask p op task
      → 1 ≤ times_in (task_number p op task) (watchers_of q x)
      → IsWaiting p m op task × (Blocks p m x op task ⊎ IsOver p m x)
  pub all : (op task : ℕ) → IsTask p op task → IsWaiting p m op task
      → (1 ≤ held (task_number p op task) q) ⊎ missing (task_number p op task)

-- nothing that is over is watched, and each task that runs is ready
pub record IsQueue (p : PlanView) (m : Machine) (q : Lined) : Type 0 where
  pub lined : IsLined p m (λ j. ⊥) q
  pub quiet : (x : ℕ) → IsOver p m x → watchers_of q x ≡ []
  pub running : (op task : ℕ) → IsTask p op task → (state_at p m op task).done ≡ false
      → 1 ≤ (state_at p m op task).copies → AreInputsDone p m op task

-- there is room for a task, which stands in no list
pub record HasListPlace (p : PlanView) (q : Lined) (j : ℕ) : Type 0 where
  pub size : q.size ≡ task_count p
  pub things : length q.watching ≡ task_count p + length p.ops
  pub within : j < task_count p
  pub apart : held j q ≡ 0
  pub room : length q.waiting < q.size
  pub few : (x : ℕ) → length (watchers_of q x) ≤ 65536

-- a waiting task is put into a list
abbrev pub Settles : PlanView → Machine → TaskId → Lined → Lined → Type 0
Settles p m id old new =
    (AreInputsDone p m id.op id.task × (new ≡ pushed old (task_number p id.op id.task)))
    ⊎ ((x : ℕ) × Blocks p m x id.op id.task × (x < length old.watching)
    × (new ≡ watched old x (task_number p id.op id.task ∷ watchers_of old x)))

-- the tasks that watched a thing that is over are put anew
pub record IsWoken (p : PlanView) (m : Machine) (x : ℕ) (old new : Lined) : Type 0 where
  pub lined : IsLined p m (λ j. ⊥) new
  pub none : watchers_of new x ≡ []
  pub others : (y : ℕ) → IsOver p m y → watchers_of old y ≡ [] → watchers_of new y ≡ []

-- ---- the table

-- the machine that has these tasks
abbrev pub of_tasks : List TaskState → Machine
of_tasks tasks = record { tasks = tasks; copies = []; ended = None }

-- no copy of it runs
abbrev pub IsFresh : TaskState → Type 0
IsFresh s = s.copies ≡ 0

-- how many tasks aren't done, by their operations
pub record AreCounts (p : PlanView) (m : Machine) (undone : List ℕ) : Type 0 where
  pub operations : length undone ≡ length p.ops
  pub counts : (k : ℕ) → k < length p.ops → slice_index_or undone k 0 ≡ undone_of p m k

-- and in all
pub record AreUndone (p : PlanView) (tasks : List TaskState) (undone : Undone) : Type 0 where
  pub counts : AreCounts p (of_tasks tasks) undone.by_op.items
  pub left_is : undone.left ≡ undone_among tasks

-- the end of a copy leaves its task so: one that was done stays done while the machine goes on, and
-- one that fails stays undone
abbrev pub LeavesBy : EventKind → TaskState → TaskState → Option Ending → Type 0
LeavesBy Done was now ended = (1 ≤ was.copies) × (was.done ≡ false) × (now ≡ done_now was)
    × (ended ≡ None)
LeavesBy Failed was now ended = (1 ≤ was.copies) × (was.done ≡ false) × (now ≡ failed_now was)
LeavesBy kind was now ended = (1 ≤ was.copies) × (ended ≡ None → was.done ≡ true)
    × (now ≡ one_copy_less was)

abbrev pub LeavesAs : End → Type 0
LeavesAs e = LeavesBy e.kind e.was e.state e.ended

pub record IsTable (v : TableView) (undone : Undone) (q : Lined) : Type 0 where
  pub sound : Sound v.settings.plan
  pub replays : Replays v.settings v.done v.history v.state
  pub counts : AreUndone v.settings.plan v.state.tasks undone
  -- while the machine goes on
  pub queue : v.state.ended ≡ None → IsQueue v.settings.plan (of_tasks v.state.tasks) q

-- there is room for all that may come
pub record HasRoom (p : PlanView) (retries entry_room copy_room : ℕ) : Type 0 where
  pub entries : 2 * (retries + 2) * task_count p ≤ entry_room
  pub copies : 2 * task_count p ≤ copy_room

-- ---- the task that is started next

-- the last of the ready waiting ones
pub record IsTakenLast (p : PlanView) (id : TaskId) (old new : Lined) : Type 0 where
  pub waiting : old.waiting ≡ new.waiting ++ task_number p id.op id.task ∷ []
  pub watching : new.watching ≡ old.watching
  pub size : new.size ≡ old.size

-- or where none waits one that runs in exactly one copy
pub record IsSecond (p : PlanView) (backups : Bool) (tasks : List TaskState) (id : TaskId)
    (old new : Lined) : Type 0 where
  pub none : old.waiting ≡ []
  pub same : new ≡ old
  pub on : backups ≡ true
  pub single : IsSingleState (slice_index_or tasks (task_number p id.op id.task) no_task)

abbrev pub IsNextTask : PlanView → Bool → List TaskState → TaskId → Lined → Lined → Type 0
IsNextTask p backups tasks id old new = IsTask p id.op id.task
    × (IsTakenLast p id old new ⊎ IsSecond p backups tasks id old new)

-- a ready task waits, or a second copy of one may begin
abbrev pub HasNext : PlanView → Bool → List TaskState → Lined → Type 0
HasNext p backups tasks q = (q.waiting ≢ [])
    ⊎ (backups ≡ true)
    × ((id : TaskId) × IsTask p id.op id.task
    × IsSingleState (slice_index_or tasks (task_number p id.op id.task) no_task))

-- none of these copies is the only one of its task
abbrev pub NoneAlone : PlanView → List TaskState → List RunningCopy → Type 0
NoneAlone p tasks copies =
    All (λ c. IsSingleState (slice_index_or tasks (task_number p c.op c.task) no_task) → ⊥) copies

-- no ready task waits, and with second copies none is alone
pub record HasNoNext (p : PlanView) (backups : Bool) (tasks : List TaskState)
    (copies : List RunningCopy) (old new : Lined) : Type 0 where
  pub none : old.waiting ≡ []
  pub same : new ≡ old
  pub alone : backups ≡ true → NoneAlone p tasks copies
