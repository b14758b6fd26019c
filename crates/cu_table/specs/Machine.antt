-- The task machine: what it knows of each task, which copies run, and why it ended. This project's
-- own rules.
use Rattle.std.specs.Prelude.{◌≡◌, ◌≢◌, ℕ, ◌+◌, ◌-◌, ◌==◌, Bool, true, false, List, [], ◌∷◌, ◌++◌, map, All, set, Contains, slice_index_or, Option, None, if◌then◌else◌}
use Rattle.cu_history.specs.declared.entry.Entry.{Entry}
use Rattle.cu_op.specs.declared.cells.Cell.{Cell}
use Rattle.cu_op.specs.InputCells.{input_cells}
use Rattle.cu_op.specs.PlanView.{PlanView}
use Rattle.cu_op.specs.Schedule.{WritesCell}
use Rattle.cu_table.specs.declared.state.TaskState.{TaskState}
use Rattle.cu_table.specs.declared.state.RunningCopy.{RunningCopy}
use Rattle.cu_table.specs.declared.state.Ending.{Ending}
use Rattle.cu_table.specs.Numbers.{IsTask, task_number}

pub record Machine : Type 0 where
  -- the tasks, by their number among all
  pub tasks : List TaskState
  -- which task each worker runs, in the order in which they began
  pub copies : List RunningCopy
  pub ended : Option Ending

-- a task that nothing is known of
abbrev pub no_task : TaskState
no_task = record { done = false; failures = 0; copies = 0 }

abbrev pub state_at : PlanView → Machine → ℕ → ℕ → TaskState
state_at p m op task = slice_index_or m.tasks (task_number p op task) no_task

abbrev pub IsDone : PlanView → Machine → ℕ → ℕ → Type 0
IsDone p m op task = (state_at p m op task).done ≡ true

abbrev pub AllDone : PlanView → Machine → Type 0
AllDone p m = (op task : ℕ) → IsTask p op task → IsDone p m op task

-- it isn't done, and no copy of it runs
abbrev pub IsIdleState : TaskState → Type 0
IsIdleState s = (s.done ≡ false) × (s.copies ≡ 0)

abbrev pub IsWaiting : PlanView → Machine → ℕ → ℕ → Type 0
IsWaiting p m op task = IsIdleState (state_at p m op task)

-- it isn't done, and exactly one copy of it runs
abbrev pub IsSingleState : TaskState → Type 0
IsSingleState s = (s.done ≡ false) × (s.copies ≡ 1)

abbrev pub IsSingleTask : PlanView → Machine → ℕ → ℕ → Type 0
IsSingleTask p m op task = IsSingleState (state_at p m op task)

-- ---- readiness

-- task number t of operation k makes an input cell of task number `task` of operation op
abbrev pub MakesInput : PlanView → ℕ → ℕ → ℕ → ℕ → Type 0
MakesInput p k t op task = (c : Cell) × Contains (input_cells p op task) c
    × WritesCell p k t c.array c.coord

-- A task is ready where each task that makes one of its input cells is done.
abbrev pub AreInputsDone : PlanView → Machine → ℕ → ℕ → Type 0
AreInputsDone p m op task = (k t : ℕ) → MakesInput p k t op task → IsDone p m k t

-- no ready task waits
abbrev pub NoneWaits : PlanView → Machine → Type 0
NoneWaits p m = (op task : ℕ) → IsTask p op task → AreInputsDone p m op task → IsWaiting p m op task
    → ⊥

-- no task runs in exactly one copy
abbrev pub NoneSingle : PlanView → Machine → Type 0
NoneSingle p m = (op task : ℕ) → IsTask p op task → IsSingleTask p m op task → ⊥

-- ---- workers

abbrev pub RunsNothing : Machine → ℕ → Type 0
RunsNothing m worker = All (λ c. c.worker ≢ worker) m.copies

abbrev pub Runs : Machine → ℕ → ℕ → ℕ → Type 0
Runs m worker op task = Contains m.copies (record { worker = worker; op = op; task = task })

-- ---- changes

abbrev pub opened : Bool → TaskState
opened done = record { done = done; failures = 0; copies = 0 }

-- the state in which exactly these tasks are done and the others wait
abbrev pub opening : List Bool → Machine
opening done = record { tasks = map opened done; copies = []; ended = None }

-- a task with a state in place of what was
abbrev pub with_task : PlanView → Machine → ℕ → ℕ → TaskState → List TaskState
with_task p m op task s = set m.tasks (task_number p op task) s

-- the copies but for the worker's
abbrev pub without : ℕ → List RunningCopy → List RunningCopy
without worker [] = []
without worker (c ∷ cs) = if c.worker == worker then cs else c ∷ without worker cs

abbrev pub one_copy_more : TaskState → TaskState
one_copy_more s = record { done = s.done; failures = s.failures; copies = s.copies + 1 }

abbrev pub one_copy_less : TaskState → TaskState
one_copy_less s = record { done = s.done; failures = s.failures; copies = s.copies - 1 }

abbrev pub done_now : TaskState → TaskState
done_now s = record { done = true; failures = s.failures; copies = s.copies - 1 }

abbrev pub failed_now : TaskState → TaskState
failed_now s = record { done = s.done; failures = s.failures + 1; copies = s.copies - 1 }

-- the copy that an entry speaks of
abbrev pub copy_of : Entry → RunningCopy
copy_of e = record { worker = e.worker; op = e.op; task = e.task }

-- the worker runs the task
abbrev pub copy_started : PlanView → Machine → Entry → Machine
copy_started p m e = record {
  tasks = with_task p m e.op e.task (one_copy_more (state_at p m e.op e.task));
  copies = m.copies ++ copy_of e ∷ [];
  ended = m.ended;
}

-- the worker's copy of the task ends, and leaves the task in this state and the machine so
abbrev pub copy_ended : PlanView → Machine → Entry → TaskState → Option Ending → Machine
copy_ended p m e s ended = record {
  tasks = with_task p m e.op e.task s;
  copies = without e.worker m.copies;
  ended = ended;
}
