-- When a command is served: what its premises are, and what it then answers. What no command
-- answers where few calls fail. This project's own rules.
use Rattle.std.specs.Prelude.{◌≡◌, ◌⊎◌, ℕ, ◌+◌, ◌<◌, ◌≤◌, List, Contains, length, All, Some, None}
use Rattle.cu_store.specs.Faults.{last_count}
use Rattle.cu_store.specs.Held.{Contents, IsAmong}
use Rattle.cu_store.specs.Steps.{Shown}
use Rattle.cu_op.specs.declared.cells.Cell.{Cell}
use Rattle.cu_op.specs.Arrays.{chunk_room}
use Rattle.cu_op.specs.PlanView.{PlanView}
use Rattle.cu_op.specs.Schedule.{op_of, key_of}
use Rattle.cu_op.specs.Value.{stored_inputs}
use Rattle.cu_op.specs.Within.{fetched_chunks}
use Rattle.cu_name.specs.Keys.{record_key_of}
use Rattle.cu_run_law.specs.Left.{IsLeft}
use Rattle.cu_run_law.specs.Pieces.{IsInputChunk}
use Rattle.cu_work.specs.Drive.{IsInputKey}
use Rattle.cu_work.specs.Order.{IsFree}
use Rattle.cu_work.specs.Part.{HasInputs, IsInPart, IsPartOf, LacksChunk, LacksInput}
use Rattle.cu_work.specs.World.{IsStored}
use Rattle.cu_work.specs.declared.part.Part.{Part}
use Rattle.cu_command.specs.Job.{IsJob, IsTypable}
use Rattle.cu_command.specs.declared.job.Job.{Job}
use Rattle.cu_command.specs.declared.status.Status.{Status}
use Rattle.cu_command.specs.declared.status.Status.TheVariants.{Done, TaskFailed, ReadFault, WriteFault}
use Rattle.cu_command.specs.declared.status.Status.TheVariants.{BadChunk, DepotFailed, NoTasks, NotReady}
use Rattle.cu_command.specs.declared.status.Status.TheVariants.{NoMemory}
use Rattle.cu_lower.specs.declared.options.Options.{Options}
use Rattle.cu_plan.specs.Refusal.{refusal_of}
use Rattle.cu_top.specs.Held.{HasRecordOrLate}
use Rattle.cu_top.specs.Parts.{inner_number, inner_part, tasks_at}
use Rattle.cu_top.specs.Prepare.{job_plan, asked_keys, HasNoOwnInput}
use Rattle.cu_top.specs.Quiet.{run_of_job}
use Rattle.cu_top.specs.Record.{record_text}

-- each chunk of an input is absent or whole
abbrev pub AreWhole : PlanView → Contents → Type 0
AreWhole p entry = (k : Cell) (bytes : List ℕ) → IsInputChunk p.arrays k → entry (key_of p.arrays k) ≡ Some bytes → length bytes ≡ chunk_room p.arrays k.array

-- No live node needs more than is allowed, and the counts keep their limits. The output is no input.
-- No key of the plan is held, nor the output's metadata of version 2, and no put is late on one of
-- these keys.
pub record IsWayFree (options : Options) (job : Job) (entry : Contents) (old : Shown) : Type 0 where
  pub planned : refusal_of options job.expr job.types ≡ None
  pub own : HasNoOwnInput job.expr
  pub free : All (IsFree entry) (asked_keys options job)
  pub settled : All (λ key. (bytes : List ℕ) → IsAmong old.late key bytes → ⊥) (asked_keys options job)

-- The way is free, and each put that is late on a chunk of an input carries what is held there.
-- Each chunk of an input is absent or whole.
pub record IsAtRest (options : Options) (job : Job) (entry : Contents) (old : Shown) : Type 0 where
  pub way : IsWayFree options job entry old
  pub calm : (key bytes : List ℕ) → IsAmong old.late key bytes → IsInputKey (job_plan options job) key → entry key ≡ Some bytes
  pub whole : AreWhole (job_plan options job) entry

-- The text has a job, its inputs and types accepted, and all is at rest for the job. A text has at
-- most one.
pub record IsServable (options : Options) (text : List ℕ) (entry : Contents) (old : Shown)
    : Type 0 where
  pub typable : IsTypable old text
  pub rest : (job : Job) → IsJob old text job → IsAtRest options job entry old

-- The text has a job, its inputs and types accepted, and the way is free for the job.
pub record IsBeginnable (options : Options) (text : List ℕ) (entry : Contents) (old : Shown)
    : Type 0 where
  pub typable : IsTypable old text
  pub way : (job : Job) → IsJob old text job → IsWayFree options job entry old

-- The text has a job, its inputs and types accepted, and the job has a plan.
pub record IsPlannable (options : Options) (text : List ℕ) (old : Shown) : Type 0 where
  pub typable : IsTypable old text
  pub planned : (job : Job) → IsJob old text job → refusal_of options job.expr job.types ≡ None

-- the command was carried out, or memory was wanted
abbrev pub IsServed : Status → Type 0
IsServed Done = Unit {0}
IsServed NoMemory = Unit {0}
IsServed status = ⊥

-- ---- a run that goes on

-- The job has a plan, and its output is no input. Its record is held, and the contents are what the
-- plan left.
pub record IsLeftRecorded (options : Options) (job : Job) (entry : Contents) (old : Shown) : Type 0 where
  pub planned : refusal_of options job.expr job.types ≡ None
  pub own : HasNoOwnInput job.expr
  pub left : IsLeft (run_of_job options job) (stored_inputs (job_plan options job).arrays entry) old
  pub recorded : entry (record_key_of job.expr.store_as) ≡ Some (record_text options job)

-- The text has a job, its inputs and types accepted, and a run of it goes on from its record.
pub record IsResumable (options : Options) (text : List ℕ) (entry : Contents) (old : Shown)
    : Type 0 where
  pub typable : IsTypable old text
  pub rest : (job : Job) → IsJob old text job → IsLeftRecorded options job entry old

-- each chunk of an input of such a run is absent or whole
abbrev pub HasWholeInputs : Options → List ℕ → Contents → Shown → Type 0
HasWholeInputs options text entry old = (job : Job) → IsJob old text job → AreWhole (job_plan options job) entry

-- a run that goes on fails by one of these alone: a task or a chunk, the source, the sink, the depot
-- or want of memory
abbrev pub IsResumeCause : Status → Type 0
IsResumeCause Done = Unit {0}
IsResumeCause (TaskFailed op task) = Unit {0}
IsResumeCause ReadFault = Unit {0}
IsResumeCause WriteFault = Unit {0}
IsResumeCause (BadChunk key got want) = Unit {0}
IsResumeCause (DepotFailed key) = Unit {0}
IsResumeCause NoMemory = Unit {0}
IsResumeCause status = ⊥

-- ---- where the record isn't there

-- the record of the text's job isn't held, and no put of it is late
abbrev pub IsUnrecorded : Options → List ℕ → Contents → Shown → Type 0
IsUnrecorded options text entry old = (job : Job) → IsJob old text job
    → HasRecordOrLate (run_of_job options job) old entry → ⊥

-- nothing was answered that comes behind the record
abbrev pub IsTurnedBack : Status → Type 0
IsTurnedBack Done = ⊥
IsTurnedBack (TaskFailed op task) = ⊥
IsTurnedBack WriteFault = ⊥
IsTurnedBack (BadChunk key got want) = ⊥
IsTurnedBack (NoTasks op tasks) = ⊥
IsTurnedBack (NotReady op task) = ⊥
IsTurnedBack status = Unit {0}

-- ---- a part of a plan

-- no plan of the text's job has these tasks
abbrev pub HasNoSuchTasks : Options → Part → List ℕ → Shown → Type 0
HasNoSuchTasks options q text old = (job : Job) → IsJob old text job
    → IsPartOf (job_plan options job) (inner_part (job_plan options job) q) → ⊥

-- nothing was answered that comes behind the record, unless that the plan hasn't the tasks
abbrev pub RanNoPart : Status → Type 0
RanNoPart (NoTasks op tasks) = Unit {0}
RanNoPart status = IsTurnedBack status

-- the text has a job with this fact
abbrev pub OfText : Shown → List ℕ → (Job → Type 0) → Type 0
OfText old text fact = (job : Job) × IsJob old text job × fact job

-- the plan of the text's job has these tasks
abbrev pub HasTasks : Options → Part → List ℕ → Shown → Type 0
HasTasks options q text old =
    OfText old text (λ job. IsPartOf (job_plan options job) (inner_part (job_plan options job) q))

-- A part of a plan that is found again fails by one of these alone. The plan hasn't these tasks. Or
-- it has, and a task of the part lacked a chunk and a made input; or one failed that lacked a chunk;
-- or a chunk is bad; or the sink failed. Or it is the source, the depot or want of memory.
abbrev pub IsPartCause : Options → Part → List ℕ → Shown → Status → Type 0
IsPartCause options q text old (NoTasks op tasks) = OfText old text (λ job. (op ≡ q.op)
    × (tasks ≡ tasks_at (job_plan options job) (inner_number (job_plan options job) q.op))
    × (IsPartOf (job_plan options job) (inner_part (job_plan options job) q) → ⊥))
IsPartCause options q text old (NotReady op task) = OfText old text (λ job. (op ≡ q.op)
    × IsPartOf (job_plan options job) (inner_part (job_plan options job) q) × IsInPart q task
    × LacksChunk (job_plan options job) (inner_number (job_plan options job) q.op) task old
    × LacksInput (job_plan options job) (inner_number (job_plan options job) q.op) task old)
IsPartCause options q text old (TaskFailed op task) = OfText old text (λ job. (op ≡ q.op)
    × IsPartOf (job_plan options job) (inner_part (job_plan options job) q) × IsInPart q task
    × LacksChunk (job_plan options job) (inner_number (job_plan options job) q.op) task old)
IsPartCause options q text old (BadChunk key got want) = HasTasks options q text old
IsPartCause options q text old Done = HasTasks options q text old
IsPartCause options q text old WriteFault = HasTasks options q text old
IsPartCause options q text old ReadFault = Unit {0}
IsPartCause options q text old (DepotFailed key) = Unit {0}
IsPartCause options q text old NoMemory = Unit {0}
IsPartCause options q text old status = ⊥

-- The plan has these tasks. Of each of them all chunks that it writes are held, or all that it reads
-- and an operation makes. Each chunk of an input that one of them reads is absent or whole.
pub record IsPartReady (p : PlanView) (q : Part) (entry : Contents) : Type 0 where
  pub part : IsPartOf p q
  pub ready : (task : ℕ) → IsInPart q task
      → IsStored p entry q.op task ⊎ HasInputs p q.op task (Some entry)
  pub whole : (task : ℕ) (k : Cell) (bytes : List ℕ) → IsInPart q task
      → Contains (fetched_chunks p q.op task) k → IsInputChunk p.arrays k
      → entry (key_of p.arrays k) ≡ Some bytes → length bytes ≡ chunk_room p.arrays k.array

-- so it is of the plan of the text's job
abbrev pub HasPartReady : Options → Part → List ℕ → Contents → Shown → Type 0
HasPartReady options q text entry old = (job : Job) → IsJob old text job
    → IsPartReady (job_plan options job) (inner_part (job_plan options job) q) entry

-- ---- where few calls fail

-- at most so many calls of the depot failed, and the count doesn't stand at its last value
abbrev pub FewFailed : ℕ → Shown → Shown → Type 0
FewFailed most old new = (new.faults ≤ old.faults + most) × (new.faults < last_count)

-- neither a task nor a key was given up
abbrev pub IsNotGivenUp : Status → Type 0
IsNotGivenUp (TaskFailed op task) = ⊥
IsNotGivenUp (DepotFailed key) = ⊥
IsNotGivenUp status = Unit {0}
