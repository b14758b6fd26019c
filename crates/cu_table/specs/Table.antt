-- What contracts see of a table, what a claim answers and what a report records. This project's own
-- rules.
use Rattle.std.specs.Prelude.{◌≡◌, ℕ, Bool, true, false, List, [], ◌∷◌, ◌++◌, sum_by, Option, Some, None, is_some, ◌||◌, Result, Ok, Err, if◌then◌else◌}
use Rattle.cu_store.specs.declared.faults.TaskFault.{TaskFault}
use Rattle.cu_store.specs.declared.faults.TaskFault.TheVariants.{Store}
use Rattle.cu_history.specs.declared.entry.Entry.{Entry}
use Rattle.cu_history.specs.declared.entry.EventKind.{EventKind}
use Rattle.cu_history.specs.declared.entry.EventKind.TheVariants.{Start, Done, Failed, Halt, Late}
use Rattle.cu_op.specs.PlanView.{PlanView}
use Rattle.cu_op.specs.Projection.{projection}
use Rattle.cu_table.specs.declared.claim.Claim.{Claim}
use Rattle.cu_table.specs.declared.claim.Claim.TheVariants as claim
use Rattle.cu_table.specs.declared.state.Ending.TheVariants.{Broken, Halted}
use Rattle.cu_table.specs.declared.state.TaskState.{TaskState}
use Rattle.cu_table.specs.declared.state.Ending.{Ending}
use Rattle.cu_table.specs.declared.state.TaskId.{TaskId}
use Rattle.cu_table.specs.Machine.{Machine, state_at, AllDone, NoneWaits, NoneSingle, done_now, failed_now, one_copy_less}
use Rattle.cu_table.specs.Step.{Settings, Step, ending_after}

pub record TableView : Type 0 where
  pub settings : Settings
  -- the tasks that were done at first
  pub done : List Bool
  pub history : List Entry
  pub state : Machine

-- ---- a call that changes the state

-- one entry more, by a step, and all else stays
pub record Goes (old new : TableView) (e : Entry) : Type 0 where
  pub settings : new.settings ≡ old.settings
  pub done : new.done ≡ old.done
  pub history : new.history ≡ old.history ++ e ∷ []
  pub step : Step old.settings old.state e new.state

-- ---- claims

abbrev pub start_event : PlanView → ℕ → ℕ → ℕ → Entry
start_event p worker op task =
    record { kind = Start; worker = worker; op = op; task = task; room = projection p op }

-- nothing can be started: no ready task waits, and no second copy may begin
abbrev pub NoneStarts : Settings → Machine → Type 0
NoneStarts s m = NoneWaits s.plan m × (s.backups ≡ true → NoneSingle s.plan m)

-- when each answer comes, and what it leaves
abbrev pub IsClaim : TableView → ℕ → Claim → TableView → Type 0
IsClaim old worker (claim.Run op task copy) new =
    Goes old new (start_event old.settings.plan worker op task)
    × (copy ≡ (state_at old.settings.plan old.state op task).copies)
IsClaim old worker claim.Idle new = (new ≡ old) × (old.state.ended ≡ None)
    × (AllDone old.settings.plan old.state → ⊥) × NoneStarts old.settings old.state
IsClaim old worker claim.Finished new = (new ≡ old) × (old.state.ended ≡ None)
    × AllDone old.settings.plan old.state
IsClaim old worker (claim.Broken op task) new = (new ≡ old)
    × (old.state.ended ≡ Some (Broken op task))
IsClaim old worker (claim.Halted fault) new = (new ≡ old) × (old.state.ended ≡ Some (Halted fault))

-- a claim would be told Idle, by any worker
abbrev pub IsIdle : TableView → Type 0
IsIdle t = (worker : ℕ) → IsClaim t worker claim.Idle t

-- what a machine that has ended answers
abbrev pub claim_of : Ending → Claim
claim_of (Broken op task) = claim.Broken op task
claim_of (Halted fault) = claim.Halted fault

-- ---- reports

-- whether the end of a copy is late
abbrev pub is_late : PlanView → Machine → ℕ → ℕ → Bool
is_late p m op task = (state_at p m op task).done || is_some m.ended

-- the entry that it makes
abbrev pub report_kind : Bool → Result (Unit {0}) TaskFault → EventKind
report_kind true result = Late
report_kind false (Ok x) = Done
report_kind false (Err Store) = Failed
report_kind false (Err fault) = Halt

abbrev pub end_of : EventKind → ℕ → ℕ → ℕ → Entry
end_of kind worker op task = record { kind = kind; worker = worker; op = op; task = task; room = 0 }

-- what a task is after the end of a copy
abbrev pub state_after : EventKind → TaskState → TaskState
state_after Done s = done_now s
state_after Failed s = failed_now s
state_after kind s = one_copy_less s

-- how the machine has ended after it, where it had `old` before and the task so many failures
abbrev pub ending_of : ℕ → TaskId → ℕ → Option Ending → Result (Unit {0}) TaskFault → EventKind
    → Option Ending
ending_of retries id failures old outcome Failed = ending_after retries failures id.op id.task
ending_of retries id failures old (Err fault) Halt = Some (Halted fault)
ending_of retries id failures old outcome kind = old

-- of a halt the state keeps the fault
abbrev pub KeepsFault : EventKind → Result (Unit {0}) TaskFault → Machine → Type 0
KeepsFault Halt (Err fault) m = m.ended ≡ Some (Halted fault)
KeepsFault kind result m = Unit {0}

-- a report makes one entry, by how the copy ended and whether this is late
abbrev pub IsReported : TableView → Entry → Result (Unit {0}) TaskFault → TableView → Type 0
IsReported old e result new = Goes old new e × KeepsFault e.kind result new.state

-- ---- the number of tasks that aren't done

abbrev pub undone_weight : TaskState → ℕ
undone_weight s = if s.done then 0 else 1

abbrev pub undone_among : List TaskState → ℕ
undone_among tasks = sum_by undone_weight tasks
