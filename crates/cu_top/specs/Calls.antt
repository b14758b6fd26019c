-- How many calls of the depot the commands make at most that run the tasks of a plan or remove its keys. This project's own rules.
use Rattle.std.specs.Prelude.{◌≡◌, ◌⊎◌, ℕ, ◌+◌, ◌*◌, List, length}
use Rattle.cu_store.specs.Steps.{Shown}
use Rattle.cu_work.specs.Calls.{missing_texts}
use Rattle.cu_work.specs.declared.run.HeldTexts.{HeldTexts}
use Rattle.cu_command.specs.Seen.{WithinCalls}
use Rattle.cu_command.specs.declared.job.Job.{Job}
use Rattle.cu_command.specs.declared.status.Status.{Status}
use Rattle.cu_command.specs.declared.status.Status.TheVariants.{Done, TaskFailed, Exists, NoPlan, OtherPlan, WriteFault, BadChunk, DepotFailed, NoMemory}
use Rattle.cu_demo.specs.declared.input.DemoInput.TheVariants.{Rows, Columns}
use Rattle.cu_load.specs.Load.{chunks_in}
use Rattle.cu_lower.specs.declared.options.Options.{Options}
use Rattle.cu_top.specs.Call.{CameToRun}
use Rattle.cu_top.specs.Demo.{DemoCase, OfDemo, demo_array, result_key}
pub use Rattle.cu_top.specs.Limits.{CallLimits, run_limits, resume_limits}
use Rattle.cu_top.specs.Limits.{plan_calls, task_calls}
use Rattle.cu_top.specs.Prepare.{asked_keys, keys_of}
use Rattle.cu_top.specs.Run.{Scene, RunCase, OfPlanned}

-- ---- limits

-- the calls of tasks that were to be run, with this answer: where the calls for a key all failed, none was run
abbrev pub BegunWithin : ℕ → ℕ → Shown → Shown → Status → Type 0
BegunWithin begun all old new (DepotFailed key) = WithinCalls begun old new
BegunWithin begun all old new Done = WithinCalls all old new
BegunWithin begun all old new WriteFault = WithinCalls all old new
BegunWithin begun all old new (TaskFailed op task) = WithinCalls all old new
BegunWithin begun all old new (BadChunk key got want) = WithinCalls all old new
BegunWithin begun all old new NoMemory = WithinCalls all old new
BegunWithin begun all old new status = ⊥

-- the calls of a command with this answer: where a key is in the way or the record isn't held, nothing more was called for
abbrev pub CallsWithin : CallLimits → Shown → Shown → Status → Type 0
CallsWithin most old new (Exists key) = WithinCalls most.asked old new
CallsWithin most old new NoPlan = WithinCalls most.asked old new
CallsWithin most old new (OtherPlan place) = WithinCalls most.asked old new
CallsWithin most old new status = BegunWithin most.begun most.all old new status

-- the calls of planning the text alone; or the text has a job with a plan, which limits the calls so
abbrev pub TextWithin : (Job → CallLimits) → RunCase → Status → Type 0
TextWithin limits c status =
    WithinCalls (plan_calls (c.options.retries + 1) c.text) c.old.depot c.new.depot
    ⊎ OfPlanned c (λ job. CallsWithin (limits job) c.old.depot c.new.depot status)

-- ---- a run

abbrev pub RunWithin : RunCase → Status → Type 0
RunWithin c status = TextWithin (run_limits c.options c.text) c status

-- the same of the text that was read; where none was, no call was made
abbrev pub RunsWithin : Options → Scene → Scene → Status → Type 0
RunsWithin options old new status = WithinCalls 0 old.depot new.depot ⊎ CameToRun options old new (λ c. RunWithin c status)

-- ---- a run that goes on

abbrev pub ResumeWithin : RunCase → Status → Type 0
ResumeWithin c status = TextWithin (resume_limits c.options c.text) c status

abbrev pub ResumesWithin : Options → Scene → Scene → Status → Type 0
ResumesWithin options old new status = WithinCalls 0 old.depot new.depot ⊎ CameToRun options old new (λ c. ResumeWithin c status)

-- ---- a removal

-- the two keys of metadata of each input; the record, which is asked for; and each key of the plan, which is removed
abbrev pub drop_limits : Options → List ℕ → Job → CallLimits
drop_limits o text job =
    let tries = o.retries + 1 in
    let all = plan_calls tries text + (1 + length (keys_of o job)) * tries in
    record { asked = plan_calls tries text + tries; begun = all; all = all }

abbrev pub DropWithin : RunCase → Status → Type 0
DropWithin c status = TextWithin (drop_limits c.options c.text) c status

abbrev pub DropsWithin : Options → Scene → Scene → Status → Type 0
DropsWithin options old new status = WithinCalls 0 old.depot new.depot ⊎ CameToRun options old new (λ c. DropWithin c status)

-- ---- a demonstration

-- Three keys that are asked for of each input, and those that a run asks for; the chunks and the metadata of each input; the texts and sharing; and the chunk of
-- the result: so many calls for each. And those of the tasks.
abbrev pub demo_limits : Options → ℕ → Job → CallLimits
demo_limits o n job =
    let tries = o.retries + 1 in
    let asked = 6 + length (asked_keys o job) in
    let stored = (chunks_in (demo_array Rows n) + 1) + (chunks_in (demo_array Columns n) + 1) in
    record {
      asked = asked * tries;
      begun = (asked + stored + 3) * tries;
      all = (asked + stored + 3 + 1) * tries + task_calls o job;
    }

-- where the calls failed for a key, it is that of the result, or no task was run; and no call was made where there is no plan
abbrev pub DemosWithin : DemoCase → Status → Type 0
DemosWithin c (DepotFailed key) = OfDemo c (λ job.
    WithinCalls (demo_limits c.options c.size job).begun c.old.depot c.new.depot
    ⊎ ((key ≡ result_key) × WithinCalls (demo_limits c.options c.size job).all c.old.depot c.new.depot))
DemosWithin c status = WithinCalls 0 c.old.depot c.new.depot
    ⊎ OfDemo c (λ job. CallsWithin (demo_limits c.options c.size job) c.old.depot c.new.depot status)

-- ---- on the way

-- the calls of storing the texts that aren't held, of sharing and of the tasks
abbrev pub DriveWithin : Options → Job → HeldTexts → Shown → Shown → Status → Type 0
DriveWithin o job held old new status =
    BegunWithin ((missing_texts held + 1) * (o.retries + 1)) ((missing_texts held + 1) * (o.retries + 1) + task_calls o job) old new status

-- those of going on from a plan that was found again
abbrev pub GoneOnWithin : Options → Job → Shown → Shown → Status → Type 0
GoneOnWithin o job old new status =
    BegunWithin ((length (keys_of o job) + 1) * (o.retries + 1)) ((length (keys_of o job) + 1) * (o.retries + 1) + task_calls o job) old new status

-- the record isn't held, or wasn't told
abbrev pub IsRecordAnswer : Status → Type 0
IsRecordAnswer NoPlan = Unit {0}
IsRecordAnswer (OtherPlan place) = Unit {0}
IsRecordAnswer (DepotFailed key) = Unit {0}
IsRecordAnswer NoMemory = Unit {0}
IsRecordAnswer status = ⊥

-- a plan wasn't found again: the calls of planning the text alone, or of one key more, the record's
abbrev pub ReopenWithin : RunCase → Status → Type 0
ReopenWithin c status =
    WithinCalls (plan_calls (c.options.retries + 1) c.text) c.old.depot c.new.depot
    ⊎ OfPlanned c (λ job. IsRecordAnswer status × WithinCalls (plan_calls (c.options.retries + 1) c.text + (c.options.retries + 1)) c.old.depot c.new.depot)
