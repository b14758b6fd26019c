-- What the command `part` answers, and what it leaves: it runs some tasks of one operation of a plan
-- that was begun. This project's own rules.
use Rattle.std.specs.Prelude.{◌≡◌, ◌⊎◌, ℕ, ◌+◌, ◌-◌, ◌*◌, ◌≤◌, Bool, IsTrue, nat_lt, if◌then◌else◌, List, [], ◌∷◌, ◌++◌, All, codes, length, get_or, Option, Some, None}
use Rattle.std.specs.Fmt.{decimal}
use Rattle.cu_store.specs.Faults.{Rose}
use Rattle.cu_op.specs.Cells.{tasks_of}
use Rattle.cu_op.specs.PlanView.{PlanView, operation_at}
use Rattle.cu_op.specs.Schedule.{op_of}
use Rattle.cu_run_law.specs.Left.{IsLeft}
use Rattle.cu_run_law.specs.Pieces.{Text, HoldsPiece}
use Rattle.cu_work.specs.Asked.{Asking, asking_of, AllDiffer, IsChosenAt, IsSoughtInput, IsUnstarted, own_chunks}
use Rattle.cu_work.specs.Ended.{IsPartDone, IsPartFault, count_of_part}
use Rattle.cu_work.specs.Part.{IsPartOf, LacksChunk, PartPut}
use Rattle.cu_work.specs.Tried.{chosen_calls}
use Rattle.cu_work.specs.declared.part.Part.{Part}
use Rattle.cu_work.specs.declared.part.PartCounts.{PartCounts}
use Rattle.cu_work.specs.declared.part.PartFault.{PartFault}
use Rattle.cu_work.specs.declared.part.PartFault.TheVariants as fault
use Rattle.cu_command.specs.Seen.{Stepped, WithinCalls}
use Rattle.cu_command.specs.declared.job.Job.{Job}
use Rattle.cu_command.specs.declared.status.Status.{Status}
use Rattle.cu_command.specs.declared.status.Status.TheVariants.{Done, TaskFailed, ReadFault, WriteFault, BadChunk, OtherPlan, NoPlan, DepotFailed, NoTasks, NotReady, NoMemory}
use Rattle.cu_lower.specs.declared.options.Options.{Options}
use Rattle.cu_plan.specs.Listed.{listed}
use Rattle.cu_top.specs.Call.{AreSpared, CameToRun, IsReadFault}
use Rattle.cu_top.specs.Held.{IsNotReopened, IsReopened, IsUnasked, WhereEntryTold}
use Rattle.cu_top.specs.Planned.{plan_calls}
use Rattle.cu_top.specs.Run.{Scene, RunCase, plan_in, job_run, IsSpared, OfPlanned, WroteTo}

-- ---- numbers

-- The number, among all operations of the plan, of the operation with this number among those whose
-- results are stored; where there is none, how many operations there are.
abbrev pub inner_number : PlanView → ℕ → ℕ
inner_number p op = get_or (listed p) op (length p.ops)

-- the part with that number of its operation
abbrev pub inner_part : PlanView → Part → Part
inner_part p q = record { op = inner_number p q.op; from = q.from; to = q.to }

-- ---- what is printed of a part, by the number among all operations

-- how many tasks an operation has, 0 where there is none of this number
abbrev pub tasks_at : PlanView → ℕ → ℕ
tasks_at p op = if nat_lt op (length p.ops) then tasks_of p.arrays (op_of p op) else 0

-- `ok ops=1 tasks=N starts=S failed=F peak=P`, with a line feed: the tasks of the part, and the bytes that
-- a task of its operation needs
unfoldable pub part_line : PlanView → Part → PartCounts → List ℕ
part_line p q n = codes "ok ops=1 tasks=" ++ decimal (count_of_part q) ++ codes " starts=" ++ decimal n.starts
    ++ codes " failed=" ++ decimal n.failures ++ codes " peak=" ++ decimal (operation_at p.ops q.op).projected ++ 10 ∷ []

-- ---- a part of a plan that was found again

-- The plan was found again, and has these tasks. Nothing was put but values of chunks that they write
-- and that lacked one: so no other key changed, nor the metadata. Where the contents were told the store
-- was left so by the plan when the command began, and is now, and the record is held.
pub record IsPartRun (c : RunCase) (job : Job) (q : Part) : Type 0 where
  pub reopened : IsReopened c job
  pub part : IsPartOf (plan_in c job) q
  pub opens : WhereEntryTold c job (λ env. IsLeft (job_run c job) env c.old.depot)
  pub step : Stepped (PartPut (plan_in c job) q c.old.depot) c.old.depot c.new.depot
  pub left : WhereEntryTold c job (λ env. IsLeft (job_run c job) env c.new.depot)
  pub recorded : WhereEntryTold c job (λ env. HoldsPiece (job_run c job) env (Text 0) c.new.depot)

-- such a part, with a fact of its job and of the part by the number among all operations
abbrev pub Parted : RunCase → Part → (Job → Part → Type 0) → Type 0
Parted c q fact = (job : Job) × IsPartRun c job (inner_part (plan_in c job) q)
    × fact job (inner_part (plan_in c job) q)

-- what was looked for, from the moment at which the command began
abbrev pub asking_in : RunCase → Job → Part → Asking
asking_in c job q = asking_of (plan_in c job) q (c.options.retries + 1) c.old.depot

-- Each task of the part holds its chunks. Those that lacked one were run: as often as they failed, and
-- once more each.
abbrev pub RanPart : RunCase → Job → Part → PartCounts → Type 0
RanPart c job q n = IsPartDone (asking_in c job q) c.new.depot n

-- what is answered where a part of this operation ended so
abbrev pub part_fault_answer : ℕ → PartFault → Status
part_fault_answer op (fault.Failed key) = DepotFailed key
part_fault_answer op (fault.NotReady task) = NotReady op task
part_fault_answer op (fault.Broken task) = TaskFailed op task
part_fault_answer op (fault.BadChunk key got want) = BadChunk key got want
part_fault_answer op fault.NoMemory = NoMemory

-- ---- the answers

-- 0: the part is done, and the whole line was written
abbrev pub IsPartedDone : RunCase → Part → Type 0
IsPartedDone c q = Parted c q (λ job part. (n : PartCounts) × RanPart c job part n
    × WroteTo c (part_line (plan_in c job) part n) (length (part_line (plan_in c job) part n)))

-- 12: the part is done, the sink failed, and a front of the line was written
abbrev pub IsPartedUnreported : RunCase → Part → Type 0
IsPartedUnreported c q = Rose 1 c.old.sink.faults c.new.sink.faults
    × Parted c q (λ job part. (n : PartCounts) × RanPart c job part n
    × ((k : ℕ) × (k ≤ length (part_line (plan_in c job) part n)) × WroteTo c (part_line (plan_in c job) part n) k))

-- 20: the plan was found again, and hasn't these tasks; nothing was stored
abbrev pub HasNoTasks : RunCase → Part → ℕ → ℕ → Type 0
HasNoTasks c q op tasks = IsSpared c × ((job : Job) × IsReopened c job × (op ≡ q.op)
    × (tasks ≡ tasks_at (plan_in c job) (inner_number (plan_in c job) q.op))
    × (IsPartOf (plan_in c job) (inner_part (plan_in c job) q) → ⊥))

-- 21: this task lacked a chunk when the command began, and an input that an operation makes; it is the
-- first of the part of which that is so, and nothing was stored
abbrev pub IsTooEarly : RunCase → Part → ℕ → ℕ → Type 0
IsTooEarly c q op task = IsSpared c × Parted c q (λ job part. (op ≡ q.op)
    × IsUnstarted (asking_in c job part) c.new.depot (fault.NotReady task))

-- 10: this task may be at fault. As many calls failed as it is tried, by the count of faults from the
-- choice of the tasks on. It was chosen, since it lacked a chunk when the command began and had the
-- made inputs that it reads.
abbrev pub IsPartedBroken : RunCase → Part → ℕ → ℕ → Type 0
IsPartedBroken c q op task = Parted c q (λ job part. (op ≡ q.op)
    × IsPartFault (asking_in c job part) c.new.depot (fault.Broken task))

-- 13: this chunk of an input, which a task of the part reads that was chosen so, holds `got` bytes and
-- not the `want` bytes of a chunk
abbrev pub IsPartedBad : RunCase → Part → List ℕ → ℕ → ℕ → Type 0
IsPartedBad c q key got want = Parted c q (λ job part.
    IsPartFault (asking_in c job part) c.new.depot (fault.BadChunk key got want))

-- 16: as many calls failed as are made for one key, by the count of faults, and nothing was stored. This
-- key may be at fault: the metadata's of an input in its turn, the record's, or that of a chunk that a
-- task of the part writes or reads.
abbrev pub IsPartFailed : RunCase → Part → List ℕ → Type 0
IsPartFailed c q key = IsUnasked c key
    ⊎ (IsSpared c × Parted c q (λ job part. IsUnstarted (asking_in c job part) c.new.depot (fault.Failed key)))

-- 70: nothing was stored; or the depot lacks memory
abbrev pub IsPartShort : RunCase → Part → Type 0
IsPartShort c q = IsSpared c ⊎ Parted c q (λ job part. IsTrue c.new.depot.lacks)

-- what a part answers, from the text on
abbrev pub WasParted : RunCase → Part → Status → Type 0
-- 0: each chunk of the part's tasks is held, and the whole report was written
WasParted c q Done = IsPartedDone c q
-- 12: the same, but the sink failed
WasParted c q WriteFault = IsPartedUnreported c q
-- 20: the plan hasn't these tasks
WasParted c q (NoTasks op tasks) = HasNoTasks c q op tasks
-- 21: this task was to start, and lacks a made chunk that it reads
WasParted c q (NotReady op task) = IsTooEarly c q op task
-- 10: this task may be at fault. It was started, and as many calls failed as it is tried
WasParted c q (TaskFailed op task) = IsPartedBroken c q op task
-- 13: this chunk, which a task reads that was started, has another length
WasParted c q (BadChunk key got want) = IsPartedBad c q key got want
-- 16: this key may be at fault. As many calls failed as are made for one key, by the count of faults
WasParted c q (DepotFailed key) = IsPartFailed c q key
-- 70: memory was wanted
WasParted c q NoMemory = IsPartShort c q
-- 14: the record is another plan's; 15: there is none; and 3 to 8
WasParted c q status = IsNotReopened c status

-- what the command `part` answers
abbrev pub PartTells : Options → Part → Scene → Scene → Status → Type 0
PartTells options q old new ReadFault = IsReadFault old new
PartTells options q old new NoMemory = AreSpared old new ⊎ CameToRun options old new (λ c. IsPartShort c q)
PartTells options q old new status = CameToRun options old new (λ c. WasParted c q status)

-- ---- calls

-- At most so many calls for each of these: two keys of metadata of each input; the record's; those of the
-- chunks that the part's tasks write; those of the made inputs of tasks that lacked a chunk, each key
-- once; and each chunk that such a task reads or writes.
pub record PartCalled (c : RunCase) (job : Job) (q : Part) : Type 0 where
  pub inputs : List (List ℕ)
  pub chosen : List Bool
  pub differ : AllDiffer inputs
  pub sought : All (IsSoughtInput (asking_in c job q)) inputs
  pub lacking : (i : ℕ) → IsChosenAt chosen i → LacksChunk (plan_in c job) q.op (q.from + i) c.old.depot
  pub calls : WithinCalls (plan_calls (c.options.retries + 1) c.text + (c.options.retries + 1)
      * (1 + own_chunks (plan_in c job) q (count_of_part q) + length inputs
      + chosen_calls (plan_in c job) q chosen (count_of_part q))) c.old.depot c.new.depot

-- one key more than planning the text asks for, the record's
abbrev pub WithinRecord : RunCase → Type 0
WithinRecord c = WithinCalls (plan_calls (c.options.retries + 1) c.text + (c.options.retries + 1)) c.old.depot c.new.depot

-- where the record isn't held, or the plan hasn't these tasks, nothing more was called for
abbrev pub PartCalls : RunCase → Job → Part → Status → Type 0
PartCalls c job q NoPlan = WithinRecord c
PartCalls c job q (OtherPlan place) = WithinRecord c
PartCalls c job q (NoTasks op tasks) = WithinRecord c
PartCalls c job q status = WithinRecord c ⊎ PartCalled c job q

abbrev pub PartWithin : RunCase → Part → Status → Type 0
PartWithin c q status = WithinCalls (plan_calls (c.options.retries + 1) c.text) c.old.depot c.new.depot
    ⊎ OfPlanned c (λ job. PartCalls c job (inner_part (plan_in c job) q) status)

-- the same of the text that was read; where none was, no call was made
abbrev pub PartsWithin : Options → Part → Scene → Scene → Status → Type 0
PartsWithin options q old new status =
    WithinCalls 0 old.depot new.depot ⊎ CameToRun options old new (λ c. PartWithin c q status)
