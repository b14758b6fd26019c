-- What a run answers, and what it leaves. This project's own rules.
use Rattle.std.specs.Prelude.{◌≡◌, ◌⊎◌, Bool, false, IsTrue, ℕ, ◌+◌, ◌*◌, ◌<◌, ◌≤◌, List, [], length, All, Contains, Option, Some, None, Result, Ok, Err}
use Rattle.cu_shape.specs.Index.{IsInside}
use Rattle.cu_store.specs.Faults.{Rose}
use Rattle.cu_store.specs.Held.{Contents}
use Rattle.cu_store.specs.Steps.{Shown, Changes, NoChange, PutOf}
use Rattle.cu_zarr.specs.Key.{metadata_key_of}
use Rattle.cu_zarr.specs.Stored.{stored_element}
use Rattle.cu_name.specs.Keys.{record_key_of}
use Rattle.cu_op.specs.declared.cells.Cell.{Cell}
use Rattle.cu_op.specs.Cells.{tasks_of}
use Rattle.cu_op.specs.Layout.{layout_view}
use Rattle.cu_op.specs.PlanView.{PlanView}
use Rattle.cu_op.specs.Schedule.{op_of, key_of}
use Rattle.cu_op.specs.Sound.{Sound}
use Rattle.cu_op.specs.Elements.{Elements}
use Rattle.cu_op.specs.Value.{stored_inputs}
use Rattle.cu_op.specs.Walks.{written_chunks}
use Rattle.cu_op.specs.Within.{listed_number}
use Rattle.cu_semantics.specs.Argument.{shape_of_node}
use Rattle.cu_semantics.specs.Meaning.{meaning_of}
use Rattle.cu_lower.specs.declared.options.Options.{Options}
use Rattle.cu_run_law.specs.Pieces.{PlanRun, Text, KeysApart, HoldsPiece, IsComplete}
use Rattle.cu_run_law.specs.Left.{IsQuiet, IsLeft, RunChange}
use Rattle.cu_history.specs.History.{is_start, is_done, is_failed, count_kind, count_of_task}
use Rattle.cu_history.specs.declared.entry.Entry.{Entry}
use Rattle.cu_table.specs.declared.state.Ending.TheVariants.{Broken}
use Rattle.cu_table.specs.Machine.{Machine, AllDone}
use Rattle.cu_table.specs.Step.{Settings, Replays}
use Rattle.cu_work.specs.Drive.{IsBadChunk, IsInputKey}
use Rattle.cu_work.specs.Order.{IsFree}
use Rattle.cu_work.specs.Run.{HoldsTexts}
use Rattle.cu_work.specs.Shared.{none_done, HoldsDone}
use Rattle.cu_work.specs.Starts.{IsOfWorkers, WithinHistory}
use Rattle.cu_command.specs.Job.{IsJob, IsJobFault}
use Rattle.cu_command.specs.Seen.{Seen, Stream, Stepped, seen}
use Rattle.cu_command.specs.Streams.{WroteFront}
use Rattle.cu_command.specs.declared.job.Job.{Job}
use Rattle.cu_command.specs.declared.job.JobFault.{JobFault}
use Rattle.cu_command.specs.declared.job.JobFault.TheVariants as fault
use Rattle.cu_command.specs.declared.status.Status.{Status}
use Rattle.cu_command.specs.declared.status.Status.TheVariants.{Done, BadExpr, BadType, OverMemory, OverLimit, BadMeta, NoArray, Exists, TaskFailed, WriteFault, BadChunk, DepotFailed, NoMemory}
use Rattle.cu_top.specs.Ask.{IsFirstOf, IsInWay, IsOwnFirst}
use Rattle.cu_top.specs.Limits.{WithinStarts, run_keys, run_limits}
use Rattle.cu_top.specs.Prepare.{job_plan, asked_keys, out_layout, out_metadata, HasPlan, IsUnplanned, HasNoOwnInput, IsLentWithin}
use Rattle.cu_top.specs.Record.{record_text}
use Rattle.cu_top.specs.Quiet.{run_of_job}
use Rattle.cu_top.specs.Report.{report_line}
use Rattle.cu_top.specs.declared.report.RunCounts.{RunCounts}
use Rattle.cu_check.specs.Elements.{elements_of}
use Rattle.cu_table.specs.Numbers.{task_count}

-- what is seen of the outside at one moment: the source, the sink and the depot
pub record Scene : Type 0 where
  pub source : Stream
  pub sink : Stream
  pub depot : Shown

abbrev pub scene : Stream → Stream → Shown → Scene
scene source sink depot = record { source = source; sink = sink; depot = depot }

-- the sink and the depot
abbrev pub seen_in : Scene → Seen
seen_in s = seen s.sink s.depot

-- a run: its options, the text of its expression, and what is seen when it begins and when it ends
pub record RunCase : Type 0 where
  pub options : Options
  pub text : List ℕ
  pub old : Scene
  pub new : Scene

abbrev pub case : Options → List ℕ → Scene → Scene → RunCase
case options text old new = record { options = options; text = text; old = old; new = new }

-- ---- the plan of an accepted job

abbrev pub plan_in : RunCase → Job → PlanView
plan_in c job = job_plan c.options job

-- the plan and its two texts, the record and the output's metadata
abbrev pub job_run : RunCase → Job → PlanRun
job_run c job = run_of_job c.options job

-- the elements of the inputs, by what the depot held when the run began
abbrev pub env_of : RunCase → Job → Contents → Elements
env_of c job entry = stored_inputs (plan_in c job).arrays entry

-- The premise: no put that was late when the run began carries another value of the plan, or another content of a chunk of an input.
abbrev pub IsQuietEntry : RunCase → Job → Contents → Type 0
IsQuietEntry c job entry = IsQuiet (job_run c job) (env_of c job entry) entry c.old.depot.late

-- a fact of the elements of the inputs, where the depot told its contents and the premise holds
abbrev pub WhereQuiet : RunCase → Job → (Elements → Type 0) → Type 0
WhereQuiet c job fact = (entry : Contents) → c.old.depot.held ≡ Some entry → IsQuietEntry c job entry → fact (env_of c job entry)

-- the same where it was left by the plan: each key of it absent or with its one value, and what is late changes neither these nor an input
abbrev pub WhereLeft : RunCase → Job → (Elements → Type 0) → Type 0
WhereLeft c job fact = (entry : Contents) → c.old.depot.held ≡ Some entry → IsLeft (job_run c job) (env_of c job entry) c.old.depot → fact (env_of c job entry)

-- ---- before a run is started

-- nothing but puts that were late has landed
abbrev pub IsSpared : RunCase → Type 0
IsSpared c = Stepped NoChange c.old.depot c.new.depot

-- The job is that of the text.
abbrev pub IsAccepted : RunCase → Job → Type 0
IsAccepted c job = IsJob c.old.depot c.text job

-- a job that was accepted, with a fact of it
abbrev pub OfJob : RunCase → (Job → Type 0) → Type 0
OfJob c fact = (job : Job) × IsAccepted c job × fact job

-- one that has a plan
abbrev pub OfPlanned : RunCase → (Job → Type 0) → Type 0
OfPlanned c fact = OfJob c (λ job. HasPlan c.options job × fact job)

-- ---- a run that was started

-- the record is put
abbrev pub RecordPut : RunCase → Job → Changes
RecordPut c job = PutOf (record_key_of job.expr.store_as) (record_text c.options job)

-- The record is held, or nothing else of the plan was put.
abbrev pub IsRecordHeldFirst : RunCase → Job → Elements → Type 0
IsRecordHeldFirst c job env = HoldsPiece (job_run c job) env (Text 0) c.new.depot ⊎ Stepped (RecordPut c job) c.old.depot c.new.depot

-- It was accepted and has a plan, and its output is no input. No key that is asked for was held, nothing but values was put
-- under these keys, and each of them is absent or holds its one value.
pub record IsStarted (c : RunCase) (job : Job) : Type 0 where
  pub accepted : IsAccepted c job
  pub planned : HasPlan c.options job
  pub sound : Sound (plan_in c job)
  pub room : IsLentWithin (plan_in c job)
  pub own : HasNoOwnInput job.expr
  pub apart : KeysApart (job_run c job)
  pub free : (entry : Contents) → c.old.depot.held ≡ Some entry → All (IsFree entry) (asked_keys c.options job)
  pub step : Stepped (RunChange (job_run c job) c.old.depot) c.old.depot c.new.depot
  pub opens : WhereQuiet c job (λ env. IsLeft (job_run c job) env c.old.depot)
  pub left : WhereLeft c job (λ env. IsLeft (job_run c job) env c.new.depot)
  pub first : WhereLeft c job (IsRecordHeldFirst c job)

-- such a run, with a fact of its job
abbrev pub Started : RunCase → (Job → Type 0) → Type 0
Started c fact = (job : Job) × IsStarted c job × fact job

-- both texts are held
abbrev pub HoldsBoth : RunCase → Job → Type 0
HoldsBoth c job = WhereLeft c job (λ env. HoldsTexts (job_run c job) env c.new.depot)

-- ---- the output

-- Each stored element of the output is what the expression means there, over the elements that the inputs had.
abbrev pub IsMeant : Job → Contents → Contents → Type 0
IsMeant job entry now = (idx : List ℕ) → IsInside (shape_of_node job.types job.expr.out) idx
    → stored_element (layout_view (out_layout job)) job.expr.store_as now idx ≡ Some (meaning_of job.expr job.types (elements_of job entry) job.expr.out idx)

-- each key of the plan holds its one value, and the output is what the expression means
abbrev pub HoldsAll : RunCase → Job → Type 0
HoldsAll c job = WhereLeft c job (λ env. IsComplete (job_run c job) env c.new.depot)
    × ((entry now : Contents) → c.old.depot.held ≡ Some entry → IsLeft (job_run c job) (env_of c job entry) c.old.depot → c.new.depot.held ≡ Some now → IsMeant job entry now)

-- ---- the history

-- what the tasks go by: the plan, how often each is tried again, and whether second copies are run
abbrev pub settings_of : RunCase → Job → Settings
settings_of c job = record { plan = plan_in c job; retries = c.options.retries; backups = c.options.backups }

-- Workers whose numbers are below `--workers` ran tasks: from a state in which these were done, by a legal history, to one in which no
-- copy runs. No task was started more often than it is tried, and by several workers with second copies once more. The count of the
-- depot's faults rose by each failure of the history at least.
pub record IsHistory (c : RunCase) (job : Job) (done : List Bool) (history : List Entry) (m : Machine) : Type 0 where
  pub legal : Replays (settings_of c job) done history m
  pub resting : m.copies ≡ []
  pub workers : IsOfWorkers c.options.workers (settings_of c job) history
  pub rose : Rose (count_kind is_failed history) c.old.depot.faults c.new.depot.faults

-- such a history from a state in which none was done, and the state that it left, with a fact of both
abbrev pub WasRun : RunCase → Job → (List Entry → Machine → Type 0) → Type 0
WasRun c job fact = (history : List Entry) × (m : Machine) × IsHistory c job (none_done (plan_in c job)) history m × fact history m

-- All tasks are done: these are how often one was started and how often one failed. Each was started
-- once, and once more for each failure, or with second copies at least so often; at most as often as
-- it is tried, and once more; and it failed at most as often as it is tried again. Beside one call
-- for each of so many keys and those of the tasks that were started, by the same history, there are
-- no more than failed.
abbrev pub IsCounted : RunCase → Job → ℕ → RunCounts → Type 0
IsCounted c job keys n = WasRun c job (λ history m. AllDone (plan_in c job) m
    × (n.starts ≡ count_kind is_start history) × (n.failures ≡ count_kind is_failed history)
    × WithinHistory keys (plan_in c job) history c.old.depot c.new.depot)
    × (task_count (plan_in c job) + n.failures ≤ n.starts) × (c.options.backups ≡ false → n.starts ≡ task_count (plan_in c job) + n.failures)
    × (n.failures ≤ c.options.retries * task_count (plan_in c job)) × (n.starts ≤ (c.options.retries + 2) * task_count (plan_in c job))

-- The same of all keys of a run, with a fact of the line that reports it. The calls of the tasks
-- are at most those of the starts that it has, by the most chunks that a task reads and writes.
abbrev pub Counted : RunCase → Job → (List ℕ → Type 0) → Type 0
Counted c job fact = (n : RunCounts) × IsCounted c job (run_keys c.options c.text job) n
    × WithinStarts (run_limits c.options c.text job).begun (plan_in c job) n
    c.old.depot c.new.depot
    × fact (report_line (plan_in c job) n)

-- the first n bytes of the line were written
abbrev pub WroteTo : RunCase → List ℕ → ℕ → Type 0
WroteTo c line n = WroteFront c.old.sink.told c.new.sink.told line n

-- ---- the answers

-- 0: the output is complete, and the whole line was written
abbrev pub IsRunDone : RunCase → Type 0
IsRunDone c = Started c (λ job. HoldsAll c job × Counted c job (λ line. WroteTo c line (length line)))

-- 12: the output is complete, the sink failed, and a front of the line was written
abbrev pub IsUnreported : RunCase → Type 0
IsUnreported c = Rose 1 c.old.sink.faults c.new.sink.faults
    × Started c (λ job. HoldsAll c job × Counted c job (λ line. (n : ℕ) × (n ≤ length line) × WroteTo c line n))

-- one of the texts is put
abbrev pub TextPut : RunCase → Job → Changes
TextPut c job key value = RecordPut c job key value ⊎ PutOf (metadata_key_of job.expr.store_as) (out_metadata job) key value

-- The task ended the run: it failed once and again as often as it is tried again, and is not done. Where the contents were told and the premise
-- holds, each chunk of a task that is done is held.
abbrev pub HasBroken : RunCase → Job → ℕ → ℕ → List Entry → Machine → Type 0
HasBroken c job op task history m = (m.ended ≡ Some (Broken op task)) × (count_of_task is_failed op task history ≡ c.options.retries + 1) × (count_of_task is_done op task history ≡ 0)
    × WhereLeft c job (λ env. HoldsDone (job_run c job) env m c.new.depot)

-- 10: this task may be at fault, of the operation that has this number among those whose results are
-- stored. By a history of the run it ended the run; as many calls failed, by the count of faults, as
-- it is tried; and its chunks were absent when the run began. Where the contents were told and the
-- premise holds, the texts are held.
abbrev pub IsTaskFailed : RunCase → ℕ → ℕ → Type 0
IsTaskFailed c op task = Rose (c.options.retries + 1) c.old.depot.faults c.new.depot.faults
    × Started c (λ job. (k : ℕ) × (op ≡ listed_number (plan_in c job) k)
    × (k < length (plan_in c job).ops) × (task < tasks_of (plan_in c job).arrays (op_of (plan_in c job) k))
    × ((entry : Contents) (chunk : Cell) → c.old.depot.held ≡ Some entry → Contains (written_chunks (plan_in c job).arrays (op_of (plan_in c job) k) task) chunk
    → entry (key_of (plan_in c job).arrays chunk) ≡ None)
    × HoldsBoth c job × WasRun c job (HasBroken c job k task))

-- 13: this chunk, which a task reads, holds `got` bytes and not the `want` bytes of a chunk. Where the contents were told and the premise
-- holds, it is an input's, and the texts are held.
abbrev pub IsBadInput : RunCase → List ℕ → ℕ → ℕ → Type 0
IsBadInput c key got want = Started c (λ job. IsBadChunk (plan_in c job) c.new.depot key got want × HoldsBoth c job × WhereLeft c job (λ env. IsInputKey (plan_in c job) key))

-- Nothing but the texts was put. The calls for the record failed, and nothing but it was put; or those to share the keys did, which the record's
-- key stands for, and both texts are held; or those for the output's metadata did, and the record is held.
abbrev pub IsTextFailed : RunCase → Job → List ℕ → Type 0
IsTextFailed c job key = ((key ≡ record_key_of job.expr.store_as) ⊎ (key ≡ metadata_key_of job.expr.store_as)) × Stepped (TextPut c job) c.old.depot c.new.depot
    × WhereLeft c job (λ env. ((key ≡ record_key_of job.expr.store_as) × (Stepped (RecordPut c job) c.old.depot c.new.depot ⊎ HoldsTexts (job_run c job) env c.new.depot))
    ⊎ ((key ≡ metadata_key_of job.expr.store_as) × HoldsPiece (job_run c job) env (Text 0) c.new.depot))

-- reading the text, the inputs and the types ended so, and nothing was stored
abbrev pub HasNoJob : RunCase → JobFault → Type 0
HasNoJob c f = IsSpared c × IsJobFault (c.options.retries + 1) c.text c.old.depot c.new.depot f

-- 3 and 4: the text is no expression, or the expression has no types
abbrev pub IsBadExpr : RunCase → ℕ → ℕ → Type 0
IsBadExpr c code node = HasNoJob c (fault.Expression code node)

abbrev pub IsBadType : RunCase → ℕ → ℕ → Type 0
IsBadType c code node = HasNoJob c (fault.Typing code node)

-- 8 and 7: this input had no metadata when the run began, or metadata that is refused with this code
abbrev pub IsMissing : RunCase → List ℕ → Type 0
IsMissing c name = HasNoJob c (fault.NoArray name)

abbrev pub IsRefused : RunCase → List ℕ → ℕ → Type 0
IsRefused c name code = HasNoJob c (fault.BadMeta name code)

-- 16: as many calls failed as are made for one key, by the count of faults, and this key may be at
-- fault. Nothing was stored, and the key is that of an input's metadata in its turn, or one of the
-- plan's, before which the others were found absent; or the run was started, and the key is that of
-- one of its texts.
abbrev pub IsDepotFailed : RunCase → List ℕ → Type 0
IsDepotFailed c key = Rose (c.options.retries + 1) c.old.depot.faults c.new.depot.faults
    × (HasNoJob c (fault.DepotFailed key) ⊎ ((IsSpared c × OfPlanned c (λ job. IsFirstOf c.old.depot (asked_keys c.options job) key × IsOwnFirst job.expr key)) ⊎ Started c (λ job. IsTextFailed c job key)))

-- 5 and 6: the job has no plan
abbrev pub HasNoPlan : RunCase → Status → Type 0
HasNoPlan c status = IsSpared c × OfJob c (λ job. IsUnplanned c.options job status)

-- 9: this key of the plan is the first that is in the way
abbrev pub IsBlocked : RunCase → List ℕ → Type 0
IsBlocked c key = IsSpared c × OfPlanned c (λ job. IsFirstOf c.old.depot (asked_keys c.options job) key × IsInWay job.expr c.new.depot key × IsOwnFirst job.expr key)

-- 70: nothing was stored; or the run was started, and no chunk was put unless the depot's yards lack memory
abbrev pub IsWanting : Bool → RunCase → Type 0
IsWanting lack c = IsSpared c ⊎ Started c (λ job. Stepped (TextPut c job) c.old.depot c.new.depot ⊎ IsTrue lack)

-- 3 to 8: the text, the metadata of an input, the types or the plan was refused, and nothing was stored
abbrev pub WasRefused : RunCase → Status → Type 0
-- 3: it is no expression
WasRefused c (BadExpr code node) = IsBadExpr c code node
-- 4: the expression has no types
WasRefused c (BadType code node) = IsBadType c code node
-- 5: a live node needs more than is allowed
WasRefused c (OverMemory node need allowed) = HasNoPlan c (OverMemory node need allowed)
-- 6: the plan exceeds a limit
WasRefused c (OverLimit which count) = HasNoPlan c (OverLimit which count)
-- 7: the metadata of an input is refused
WasRefused c (BadMeta name code) = IsRefused c name code
-- 8: an input has none
WasRefused c (NoArray name) = IsMissing c name
WasRefused c status = ⊥

-- what a run answers, of a depot whose yards lack memory or don't
abbrev pub Ran : Bool → RunCase → Status → Type 0
-- 0: the output is complete and means the expression, and the whole report was written
Ran lack c Done = IsRunDone c
-- 12: the same, but the sink failed
Ran lack c WriteFault = IsUnreported c
-- 10: this task may be at fault. By the history of the run it failed as often as it is tried, and
-- ended the run; and the faults were counted
Ran lack c (TaskFailed op task) = IsTaskFailed c op task
-- 13: this chunk, which a task reads, has another length
Ran lack c (BadChunk key got want) = IsBadInput c key got want
-- 16: this key may be at fault. As many calls failed as are made for one key, by the count of faults
Ran lack c (DepotFailed key) = IsDepotFailed c key
-- 9: this key is in the way
Ran lack c (Exists key) = IsBlocked c key
-- 70: memory was wanted
Ran lack c NoMemory = IsWanting lack c
-- 3 to 8
Ran lack c status = WasRefused c status

-- nothing was printed but by the report
abbrev pub PrintsOnly : Status → Option (List ℕ) → Option (List ℕ) → Type 0
PrintsOnly Done old new = Unit {0}
PrintsOnly WriteFault old new = Unit {0}
PrintsOnly status old new = new ≡ old

-- ---- what the parts of a run rest on

-- The way is free: the job was accepted and has a plan, its output is no input, no key that is asked for is held, and nothing
-- was stored so far.
pub record IsCleared (options : Options) (text : List ℕ) (old start : Shown) (job : Job) : Type 0 where
  pub accepted : IsJob old text job
  pub planned : HasPlan options job
  pub own : HasNoOwnInput job.expr
  pub free : (entry : Contents) → old.held ≡ Some entry → All (IsFree entry) (asked_keys options job)
  pub spared : Stepped NoChange old start

-- what storing comes to: the counts of a run whose output is complete and that called for so many
-- keys beside those of its tasks, or what the run answers
abbrev pub Ended : Bool → RunCase → Job → ℕ → Result RunCounts Status → Type 0
Ended lack c job keys (Ok n) = IsStarted c job × HoldsAll c job × IsCounted c job keys n
Ended lack c job keys (Err status) = Ran lack c status

-- the answers of a run that was started and isn't complete
abbrev pub IsStop : Status → Type 0
IsStop (TaskFailed op task) = Unit {0}
IsStop (BadChunk key got want) = Unit {0}
IsStop (DepotFailed key) = Unit {0}
IsStop NoMemory = Unit {0}
IsStop status = ⊥
