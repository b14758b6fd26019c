-- The steps of the task machine, and its legal histories. This project's own rules.
use Rattle.std.specs.Prelude.{◌≡◌, ◌⊎◌, ℕ, ◌==◌, Bool, true, false, List, [], ◌∷◌, length, Option, Some, None, if◌then◌else◌}
use Rattle.cu_store.specs.declared.faults.TaskFault.{TaskFault}
use Rattle.cu_store.specs.declared.faults.TaskFault.TheVariants.{Store}
use Rattle.cu_history.specs.declared.entry.Entry.{Entry}
use Rattle.cu_history.specs.declared.entry.EventKind.{EventKind}
use Rattle.cu_history.specs.declared.entry.EventKind.TheVariants.{Start, Done, Failed, Halt, Late}
use Rattle.cu_op.specs.PlanView.{PlanView}
use Rattle.cu_op.specs.Projection.{projection}
use Rattle.cu_table.specs.declared.state.Ending.{Ending}
use Rattle.cu_table.specs.declared.state.Ending.TheVariants.{Broken, Halted}
use Rattle.cu_table.specs.Numbers.{IsTask, task_count}
use Rattle.cu_table.specs.Machine.{Machine, state_at, IsDone, IsWaiting, IsSingleTask, AreInputsDone, NoneWaits, RunsNothing, Runs, opening, copy_started, copy_ended, one_copy_less, done_now, failed_now}

-- what a machine goes by: the plan, how often a failed task is tried again, and whether second
-- copies may be started
pub record Settings : Type 0 where
  pub plan : PlanView
  pub retries : ℕ
  pub backups : Bool

-- A ready waiting task; or, where none waits and backups are on, one that runs in exactly one copy.
abbrev pub CanStart : Settings → Machine → ℕ → ℕ → Type 0
CanStart s m op task =
    (AreInputsDone s.plan m op task × IsWaiting s.plan m op task)
    ⊎ (NoneWaits s.plan m × (s.backups ≡ true) × IsSingleTask s.plan m op task)

-- when a worker may start a task
pub record MayStart (s : Settings) (m : Machine) (e : Entry) : Type 0 where
  pub going : m.ended ≡ None
  pub free : RunsNothing m e.worker
  pub task : IsTask s.plan e.op e.task
  pub room : e.room ≡ projection s.plan e.op
  pub can : CanStart s m e.op e.task

-- when the end of a copy counts: the machine hasn't ended and the task isn't done
pub record IsReport (p : PlanView) (m : Machine) (e : Entry) : Type 0 where
  pub going : m.ended ≡ None
  pub runs : Runs m e.worker e.op e.task
  pub undone : (state_at p m e.op e.task).done ≡ false
  pub room : e.room ≡ 0

-- when it is late
pub record IsLateReport (p : PlanView) (m : Machine) (e : Entry) : Type 0 where
  pub runs : Runs m e.worker e.op e.task
  pub late : IsDone p m e.op e.task ⊎ ((ending : Ending) × (m.ended ≡ Some ending))
  pub room : e.room ≡ 0

-- a fault that ends the run at once: any but that of the store
abbrev pub Halts : TaskFault → Type 0
Halts Store = ⊥
Halts fault = Unit {0}

-- after a failure: the task had this many before, and `retries + 1` end the run
abbrev pub ending_after : ℕ → ℕ → ℕ → ℕ → Option Ending
ending_after retries failures op task = if failures == retries then Some (Broken op task) else None

-- from old, by an entry of this kind, to new
abbrev pub StepOf : Settings → Machine → EventKind → Entry → Machine → Type 0
StepOf s old Start e new = MayStart s old e × (new ≡ copy_started s.plan old e)
StepOf s old Done e new = IsReport s.plan old e
    × (new ≡ copy_ended s.plan old e (done_now (state_at s.plan old e.op e.task)) None)
StepOf s old Failed e new =
    IsReport s.plan old e
    × (new ≡ copy_ended s.plan old e (failed_now (state_at s.plan old e.op e.task))
    (ending_after s.retries (state_at s.plan old e.op e.task).failures e.op e.task))
StepOf s old Halt e new =
    IsReport s.plan old e
    × ((fault : TaskFault) × Halts fault
    × (new ≡ copy_ended s.plan old e (one_copy_less (state_at s.plan old e.op e.task))
    (Some (Halted fault))))
StepOf s old Late e new = IsLateReport s.plan old e
    × (new ≡ copy_ended s.plan old e (one_copy_less (state_at s.plan old e.op e.task)) old.ended)

abbrev pub Step : Settings → Machine → Entry → Machine → Type 0
Step s old e new = StepOf s old e.kind e new

-- the entries, one step after another
abbrev pub Run : Settings → Machine → List Entry → Machine → Type 0
Run s old [] new = new ≡ old
Run s old (e ∷ es) new = (mid : Machine) × Step s old e mid × Run s mid es new

-- a history from the opening list of the tasks that are done, and the state that it leaves
abbrev pub Replays : Settings → List Bool → List Entry → Machine → Type 0
Replays s done history m = (length done ≡ task_count s.plan) × Run s (opening done) history m

abbrev pub Legal : Settings → List Bool → List Entry → Type 0
Legal s done history = (m : Machine) × Replays s done history m
