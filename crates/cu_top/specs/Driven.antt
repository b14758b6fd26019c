-- The tasks of an accepted plan: what their run is given, what it tells, and what it answers.
-- This project's own rules.
use Rattle.std.specs.Prelude.{◌≡◌, ◌⊎◌, Bool, IsTrue, ℕ, ◌+◌, ◌*◌, ◌<◌, List, length, Option, Result, Ok, Err, IfOk, IfErr}
use Rattle.cu_store.specs.Faults.{last_count, Rose}
use Rattle.cu_store.specs.Held.{Contents, IsHeldIn}
use Rattle.cu_store.specs.Steps.{Shown, Changes, NoChange, PutOf, Steps}
use Rattle.cu_op.specs.Elements.{Elements}
use Rattle.cu_op.specs.PlanView.{PlanView}
use Rattle.cu_op.specs.Within.{listed_number}
use Rattle.cu_history.specs.History.{is_start, is_failed, count_kind}
use Rattle.cu_history.specs.declared.entry.Entry.{Entry}
use Rattle.cu_lower.specs.declared.options.Options.{Options}
use Rattle.cu_run_law.specs.Left.{IsLeft, RunChange}
use Rattle.cu_run_law.specs.Pieces.{PlanRun, text_at, IsComplete}
use Rattle.cu_table.specs.Table.{TableView}
use Rattle.cu_work.specs.Calls.{missing_texts}
use Rattle.cu_work.specs.Drive.{IsBadChunk, IsInputKey}
use Rattle.cu_work.specs.Run.{IsRecordFirst, IsUnstored, HoldsTexts}
use Rattle.cu_work.specs.Shared.{opened_table, HasDriven, HoldsDone, AreCounted, IfBadChunk, IfComplete, IfLacked}
use Rattle.cu_work.specs.Starts.{IsOfWorkers, WithinHistory}
use Rattle.cu_work.specs.declared.options.RunOptions.{RunOptions}
use Rattle.cu_work.specs.declared.outcome.Outcome.{Outcome}
use Rattle.cu_work.specs.declared.outcome.Outcome.TheVariants as ended
use Rattle.cu_work.specs.declared.outcome.RunEnd.{RunEnd}
use Rattle.cu_work.specs.declared.run.HeldTexts.{HeldTexts}
use Rattle.cu_work.specs.declared.run.HeldTexts.TheVariants.{Neither, Record, Both}
use Rattle.cu_work.specs.declared.run.RunFault.{RunFault}
use Rattle.cu_work.specs.declared.run.RunFault.TheVariants as text
use Rattle.cu_command.specs.declared.status.Status.{Status}
use Rattle.cu_command.specs.declared.status.Status.TheVariants.{TaskFailed, BadChunk, DepotFailed, NoMemory}
use Rattle.cu_top.specs.Prepare.{job_plan, out_metadata}
use Rattle.cu_top.specs.Record.{record_text}
use Rattle.cu_top.specs.declared.drive.Ready.{Ready}
use Rattle.cu_top.specs.declared.report.RunCounts.{RunCounts}

-- how the tasks are run
abbrev pub run_options : Options → RunOptions
run_options o = record { workers = o.workers; retries = o.retries; backups = o.backups }

-- with the plan of its job, and its two texts
pub record HasPlanAndTexts (options : Options) (r : Ready) : Type 0 where
  pub plan_is : r.plan ≡ job_plan options r.job
  pub record_is : r.record_text.items ≡ record_text options r.job
  pub metadata_is : r.metadata_text.items ≡ out_metadata r.job

-- What the run of a plan's tasks is given: the options, the plan, which of its texts are held and
-- which tasks are done, and the depot when it begins and when it has ended, whose yards lack
-- memory or don't.
pub record DriveCase : Type 0 where
  pub options : Options
  pub run : PlanRun
  pub held : HeldTexts
  pub done : List Bool
  pub lack : Bool
  pub shown : Shown × Shown

abbrev pub drive_case : Options → PlanRun → HeldTexts → List Bool → Bool → Shown × Shown → DriveCase
drive_case options run held done lack shown = record {
  options = options;
  run = run;
  held = held;
  done = done;
  lack = lack;
  shown = shown;
}

-- where contents are told, these texts are held
abbrev pub AreHeld : HeldTexts → PlanRun → Option Contents → Type 0
AreHeld Neither r held = Unit {0}
AreHeld Record r held = IsHeldIn held (text_at r 0).0
AreHeld Both r held = IsHeldIn held (text_at r 0).0 × IsHeldIn held (text_at r 1).0

-- a text that isn't held is put
abbrev pub MissingPut : HeldTexts → PlanRun → Changes
MissingPut Neither r key value =
    PutOf (text_at r 0).0 (text_at r 0).1 key value ⊎ PutOf (text_at r 1).0 (text_at r 1).1 key value
MissingPut Record r key value = PutOf (text_at r 1).0 (text_at r 1).1 key value
MissingPut Both r key value = NoChange key value

-- the key of such a text
abbrev pub IsMissingText : HeldTexts → PlanRun → List ℕ → Type 0
IsMissingText Neither r key = (key ≡ (text_at r 0).0) ⊎ (key ≡ (text_at r 1).0)
IsMissingText Record r key = key ≡ (text_at r 1).0
IsMissingText Both r key = ⊥

-- why no task was run
abbrev pub IsUnrunBy : DriveCase → RunFault → Type 0
IsUnrunBy d (text.TextFailed key) =
    IsMissingText d.held d.run key × Rose (d.options.retries + 1) d.shown.0.faults d.shown.1.faults
IsUnrunBy d text.ShareFailed = Rose (d.options.retries + 1) d.shown.0.faults d.shown.1.faults
IsUnrunBy d text.NoMemory = IsTrue d.shown.1.lacks

-- No task was run: nothing but texts was put, for this cause.
pub record IsUnrun (d : DriveCase) (f : RunFault) : Type 0 where
  pub refused : Steps (MissingPut d.held d.run) 0 (3 * (d.options.retries + 1)) d.shown.0 d.shown.1
  pub unstored : (env : Elements) → IsLeft d.run env d.shown.0
      → IsUnstored d.run env (d.options.retries + 1) d.shown.0 d.shown.1 f
  pub cause : IsUnrunBy d f

-- the table before the first task
abbrev pub table_of : DriveCase → TableView
table_of d = opened_table d.run.plan (run_options d.options) d.done

-- The tasks were run, and ended so, with this table.
pub record HasEnded (d : DriveCase) (o : Outcome) (t : TableView) : Type 0 where
  pub driven : HasDriven (table_of d) t d.shown.0 d.shown.1 o
  pub workers : IsOfWorkers d.options.workers (table_of d).settings t.history
  pub counts : IfComplete o (AreCounted (table_of d) t)
  pub once : WithinHistory (missing_texts d.held + 1) d.run.plan t.history d.shown.0 d.shown.1
  pub texts : (env : Elements) → IsLeft d.run env d.shown.0 → HoldsTexts d.run env d.shown.1
  pub done : (env : Elements) → IsLeft d.run env d.shown.0 → HoldsDone d.run env t.state d.shown.1
  pub complete : (env : Elements) → IsLeft d.run env d.shown.0
      → IfComplete o (IsComplete d.run env d.shown.1)
  pub bad : IfBadChunk o (IsBadChunk d.run.plan d.shown.1)
  pub input : (env : Elements) → IsLeft d.run env d.shown.0
      → IfBadChunk o (λ key got want. IsInputKey d.run.plan key)
  pub lacked : IfLacked o (IsTrue d.lack)

-- What the run of the tasks came to. Nothing but values was put under the plan's keys, and the
-- record first.
pub record Driven (d : DriveCase) (result : Result RunEnd RunFault) : Type 0 where
  pub step : Steps (RunChange d.run d.shown.0) 0 last_count d.shown.0 d.shown.1
  pub first : (env : Elements) → IsLeft d.run env d.shown.0
      → IsRecordFirst d.run env last_count d.shown.0 d.shown.1
  pub ended : IfOk result (λ e. HasEnded d e.outcome e.table)
  pub unrun : IfErr result (IsUnrun d)

-- ---- the answer

-- how often tasks were started and failed
abbrev pub run_counts_in : List Entry → RunCounts
run_counts_in history =
    record { starts = count_kind is_start history; failures = count_kind is_failed history }

-- a task that ended the run is one of an operation of the plan
abbrev pub IsOfOps : PlanView → Outcome → Type 0
IsOfOps p (ended.Broken op task) = op < length p.ops
IsOfOps p o = Unit {0}

-- the counts, where all tasks are done; else what is answered, which calls an operation by its number
-- among those whose results are stored
abbrev pub outcome_answer : PlanView → Outcome → RunCounts → Result RunCounts Status
outcome_answer p ended.Complete counts = Ok counts
outcome_answer p (ended.Broken op task) counts = Err (TaskFailed (listed_number p op) task)
outcome_answer p (ended.BadChunk key got want) counts = Err (BadChunk key got want)
outcome_answer p ended.Lacked counts = Err NoMemory

-- what is answered where no task was run and the record has this key
abbrev pub fault_answer : List ℕ → RunFault → Status
fault_answer of_record (text.TextFailed key) = DepotFailed key
fault_answer of_record text.ShareFailed = DepotFailed of_record
fault_answer of_record text.NoMemory = NoMemory

abbrev pub drive_answer : List ℕ → PlanView → Result RunEnd RunFault → Result RunCounts Status
drive_answer of_record p (Ok e) = outcome_answer p e.outcome (run_counts_in e.table.history)
drive_answer of_record p (Err f) = Err (fault_answer of_record f)

-- the tasks were run, or not, and this is answered
abbrev pub WasDriven : DriveCase → Result RunCounts Status → Type 0
WasDriven d answer =
    (result : Result RunEnd RunFault) × Driven d result
    × (answer ≡ drive_answer (text_at d.run 0).0 d.run.plan result)
