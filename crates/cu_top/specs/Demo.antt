-- What the command `demo` answers, and what it leaves. This project's own rules.
use Rattle.std.specs.Prelude.{◌≡◌, ◌≢◌, ◌⊎◌, Bool, ℕ, ◌+◌, ◌*◌, ◌≤◌, ℤ, List, [], ◌∷◌, ◌++◌, length, codes, decimal, All, Contains, Option, Some, None}
use Rattle.std.specs.Fmt.{signed_decimal}
use Rattle.cu_num.specs.declared.types.Dtype.TheVariants.{Int64}
use Rattle.cu_node.specs.Info.{info_of}
use Rattle.cu_store.specs.Faults.{Rose}
use Rattle.cu_store.specs.Held.{Contents, Write, IsAmong}
use Rattle.cu_store.specs.Steps.{Shown, Changes, OrLate, Lands, AllLateIn, OnceEach}
use Rattle.cu_name.specs.Keys.{record_key_of}
use Rattle.cu_zarr.specs.Key.{chunk_key_of, metadata_key_of, zarray_key_of}
use Rattle.cu_zarr.specs.Stored.{stored_element}
use Rattle.cu_op.specs.Layout.{layout_view}
use Rattle.cu_op.specs.Value.{stored_inputs}
use Rattle.cu_op.specs.declared.layout.Layout.{Layout}
use Rattle.cu_run_law.specs.Left.{IsQuiet}
use Rattle.cu_lower.specs.Parts.{made_layout}
use Rattle.cu_lower.specs.declared.options.Options.{Options}
use Rattle.cu_plan.specs.Refusal.{refusal_of}
use Rattle.cu_work.specs.Order.{IsFree}
use Rattle.cu_region.specs.Steady.{HoldsLength}
use Rattle.cu_command.specs.Seen.{Seen, Stepped, WroteNothing, stream}
use Rattle.cu_command.specs.Streams.{WroteFront}
use Rattle.cu_command.specs.declared.job.Job.{Job}
use Rattle.cu_command.specs.declared.status.Status.{Status}
use Rattle.cu_command.specs.declared.status.Status.TheVariants.{Done, OverMemory, OverLimit, Exists, TaskFailed, WriteFault, BadChunk, DepotFailed, NoMemory}
use Rattle.cu_load.specs.Keys.{AreFree, IsAskedFor, IsAskFault}
use Rattle.cu_load.specs.Load.{ArrayPut, IsArrayCalm, IsArrayKey, StoresGiven, chunks_in}
use Rattle.cu_load.specs.LoadForm.{GivenArray}
use Rattle.cu_demo.specs.Expression.{IsDemoJob, demo_text}
use Rattle.cu_demo.specs.Input.{demo_elements, demo_layout, demo_name}
use Rattle.cu_demo.specs.declared.input.DemoInput.{DemoInput}
use Rattle.cu_demo.specs.declared.input.DemoInput.TheVariants.{Rows, Columns}
use Rattle.cu_top.specs.Ask.{IsFirstOf}
use Rattle.cu_top.specs.Limits.{WithinStarts}
use Rattle.cu_top.specs.Prepare.{job_plan, asked_keys, HasPlan, IsUnplanned}
use Rattle.cu_top.specs.Quiet.{run_of_job}
use Rattle.cu_top.specs.Report.{report_line}
use Rattle.cu_top.specs.Run.{Scene, RunCase, scene, case, plan_in, IsStarted, HoldsAll, IsCounted, Ran, seen_in}
use Rattle.cu_top.specs.declared.report.RunCounts.{RunCounts}

-- ---- the inputs

-- an input of this size, as an array that is given
abbrev pub demo_array : DemoInput → ℕ → GivenArray
demo_array input n = record {
  name = demo_name input;
  layout = layout_view (demo_layout input n);
  elements = demo_elements input n;
}

-- a value of an input is put: its metadata or one of its chunks
abbrev pub InputsPut : ℕ → Changes
InputsPut n key value = ArrayPut (demo_array Rows n) key value ⊎ ArrayPut (demo_array Columns n) key value

-- a key of an input
abbrev pub IsInputsKey : ℕ → List ℕ → Type 0
IsInputsKey n key = IsArrayKey (demo_array Rows n) key ⊎ IsArrayKey (demo_array Columns n) key

-- both inputs are stored, with all of their elements
abbrev pub StoresDemoInputs : ℕ → Option Contents → Type 0
StoresDemoInputs n held = StoresGiven (demo_array Rows n) held × StoresGiven (demo_array Columns n) held

-- each put that is late on a key of an input carries its value
abbrev pub AreInputsCalm : ℕ → List Write → Type 0
AreInputsCalm n late = IsArrayCalm (demo_array Rows n) late × IsArrayCalm (demo_array Columns n) late

-- the keys that are asked for of the inputs were absent
abbrev pub AreInputsFree : Option Contents → Type 0
AreInputsFree held = AreFree (demo_name Rows) held × AreFree (demo_name Columns) held

-- ---- the premise

-- no put on the key of metadata of version 2 of an input is late, since none is made for it
abbrev pub HidesNone : List Write → Type 0
HidesNone late = (input : DemoInput) (bytes : List ℕ) → IsAmong late (zarray_key_of (demo_name input)) bytes → ⊥

-- No put that is late when the call begins carries another value of an input, or of the plan over the inputs.
pub record IsDemoCalm (options : Options) (n : ℕ) (old : Shown) : Type 0 where
  pub inputs : AreInputsCalm n old.late
  pub hidden : HidesNone old.late
  pub plan : (held : Contents) (job : Job) → StoresDemoInputs n (Some held) → IsDemoJob n job → HasPlan options job
      → IsQuiet (run_of_job options job) (stored_inputs (job_plan options job).arrays held) held old.late

-- the same where the contents are told
abbrev pub WhereTold : Option Contents → Type 0 → Type 0
WhereTold None fact = Unit {0}
WhereTold (Some held) fact = fact

-- ---- the call

-- a demonstration: its options, its size, and what is seen when it begins and when it ends
pub record DemoCase : Type 0 where
  pub options : Options
  pub size : ℕ
  pub old : Seen
  pub new : Seen

abbrev pub demo_case : Options → ℕ → Seen → Seen → DemoCase
demo_case options size old new = record { options = options; size = size; old = old; new = new }

-- between these two moments
abbrev pub demo_between : ℕ → Options → Scene → Scene → DemoCase
demo_between size options old new = demo_case options size (seen_in old) (seen_in new)

-- the job of the demonstration, with a fact of it
abbrev pub OfDemo : DemoCase → (Job → Type 0) → Type 0
OfDemo c fact = (job : Job) × IsDemoJob c.size job × fact job

-- nothing was printed
abbrev pub IsSilent : DemoCase → Type 0
IsSilent c = c.new.out.told ≡ c.old.out.told

-- ---- the plan

-- why there is none; want of memory has no reason
abbrev pub IsDemoRefused : Options → ℕ → Status → Type 0
IsDemoRefused options n NoMemory = Unit {0}
IsDemoRefused options n status = (job : Job) × IsDemoJob n job × IsUnplanned options job status

-- ---- the keys in the way

-- The key is asked for: one of the first input, one of the second where those were absent, or one of the plan where all of these were.
abbrev pub IsDemoKey : List (List ℕ) → Shown → List ℕ → Type 0
IsDemoKey keys old key = IsAskedFor (demo_name Rows) old.held key
    ⊎ (AreFree (demo_name Rows) old.held × IsAskedFor (demo_name Columns) old.held key)
    ⊎ (AreInputsFree old.held × IsFirstOf old keys key)

-- why asking for them ended
abbrev pub IsDemoAskEnd : ℕ → List (List ℕ) → Shown → Shown → Status → Type 0
IsDemoAskEnd tries keys old new status = IsAskFault tries (IsDemoKey keys old) old.faults new.faults new.held status

-- ---- storing the inputs

-- why storing under such keys ended: all calls for one of them failed, or memory was wanted
abbrev pub IsPutEnd : ℕ → (List ℕ → Type 0) → Shown → Shown → Status → Type 0
IsPutEnd tries listed old new (DepotFailed key) = Rose tries old.faults new.faults × listed key
IsPutEnd tries listed old new NoMemory = Unit {0}
IsPutEnd tries listed old new status = ⊥

-- the keys of one input, and those of both
abbrev pub IsInputPutEnd : ℕ → GivenArray → Shown → Shown → Status → Type 0
IsInputPutEnd tries a old new status = IsPutEnd tries (IsArrayKey a) old new status

abbrev pub IsInputsFault : ℕ → ℕ → Shown → Shown → Status → Type 0
IsInputsFault tries n old new status = IsPutEnd tries (IsInputsKey n) old new status

-- ---- the run

-- What its run finds: nothing has changed since the call began but that the inputs were stored.
pub record FoundByDemo (n : ℕ) (old found : Shown) : Type 0 where
  pub lands : Lands (OrLate (InputsPut n) old.late) old.held found.held
  pub late : AllLateIn found.late (OrLate (InputsPut n) old.late)
  pub stored : AreInputsCalm n old.late → StoresDemoInputs n found.held
  pub faults : old.faults ≤ found.faults

-- How many keys are called for before the run: three of each input that are asked for, and those
-- that a run asks for; and the chunks and the metadata of each input.
abbrev pub demo_before : Options → ℕ → Job → ℕ
demo_before o n job = 6 + length (asked_keys o job)
    + ((chunks_in (demo_array Rows n) + 1) + (chunks_in (demo_array Columns n) + 1))

-- The keys of the inputs and of the plan were absent when the call began, and this is what its run
-- found. Beside one call for each key that was called for until then there are no more than failed.
pub record IsDemoStarted (c : DemoCase) (job : Job) (found : Shown) : Type 0 where
  pub accepted : IsDemoJob c.size job
  pub inputs : AreInputsFree c.old.depot.held
  pub keys : (entry : Contents) → c.old.depot.held ≡ Some entry → All (IsFree entry) (asked_keys c.options job)
  pub entry : FoundByDemo c.size c.old.depot found
  pub once : OnceEach (demo_before c.options c.size job) c.old.depot found

-- the run from what it found to what is seen at the end
abbrev pub demo_run : DemoCase → Shown → RunCase
demo_run c found = case c.options demo_text (scene (stream None 0) (stream None 0) found) (scene (stream None 0) (stream None 0) c.new.depot)

-- such a run, with a fact of it and of its job
abbrev pub DemoRan : DemoCase → (RunCase → Job → Type 0) → Type 0
DemoRan c fact = (job : Job) × (found : Shown) × IsDemoStarted c job found × fact (demo_run c found) job

-- each key of the inputs holds its value at the end
abbrev pub KeepsInputs : DemoCase → Type 0
KeepsInputs c = AreInputsCalm c.size c.old.depot.late → StoresDemoInputs c.size c.new.depot.held

-- How many from then on, beside those of the tasks: the two texts, sharing the keys, and the chunk
-- of the result.
abbrev pub demo_behind : ℕ
demo_behind = 4

-- the calls by the starts that are counted
abbrev pub DemoWithinStarts : DemoCase → Job → RunCounts → Type 0
DemoWithinStarts c job n =
    let keys = demo_before c.options c.size job + demo_behind in
    WithinStarts (keys * (c.options.retries + 1)) (job_plan c.options job) n c.old.depot c.new.depot

-- the output is complete, and the inputs are kept
abbrev pub IsDemoComplete : DemoCase → (RunCase → Job → RunCounts → Type 0) → Type 0
IsDemoComplete c fact = KeepsInputs c × DemoRan c (λ r job. (n : RunCounts)
    × IsStarted r job × HoldsAll r job × IsCounted r job demo_behind n
    × DemoWithinStarts c job n × fact r job n)

-- ---- the result

abbrev pub result_layout : Layout
result_layout = made_layout (info_of Int64 [] [])

-- the key of the one chunk of the output
abbrev pub result_key : List ℕ
result_key = chunk_key_of (codes "demo_y") result_layout.encoding []

-- this is the one element of the output, where the contents are told
abbrev pub IsResult : Option Contents → ℤ → Type 0
IsResult None x = Unit {0}
IsResult (Some held) x = stored_element (layout_view result_layout) (codes "demo_y") held [] ≡ Some x

-- why reading it ended: all calls for the chunk failed, it has another length, or memory was wanted
abbrev pub IsResultUnread : ℕ → Shown → Shown → Status → Type 0
IsResultUnread tries old new (DepotFailed key) = (key ≡ result_key) × Rose tries old.faults new.faults
IsResultUnread tries old new (BadChunk key got want) = (key ≡ result_key) × (want ≡ 8) × (got ≢ want) × HoldsLength new.held key got
IsResultUnread tries old new NoMemory = Unit {0}
IsResultUnread tries old new status = ⊥

-- what reading the element and writing its text answers
abbrev pub ResultTells : ℕ → (ℤ → List ℕ) → Seen → Seen → Status → Type 0
ResultTells tries text old new Done = (x : ℤ) × IsResult new.depot.held x × WroteFront old.out.told new.out.told (text x) (length (text x))
ResultTells tries text old new WriteFault = Rose 1 old.out.faults new.out.faults
    × ((x : ℤ) × IsResult new.depot.held x × (front : ℕ) × (front ≤ length (text x)) × WroteFront old.out.told new.out.told (text x) front)
ResultTells tries text old new (BadChunk key got want) = (new.out.told ≡ old.out.told) × IsResultUnread tries old.depot new.depot (BadChunk key got want)
ResultTells tries text old new (DepotFailed key) = (new.out.told ≡ old.out.told) × IsResultUnread tries old.depot new.depot (DepotFailed key)
ResultTells tries text old new NoMemory = new.out.told ≡ old.out.told
ResultTells tries text old new status = ⊥

-- `demo N result=X`, with a line feed
unfoldable pub result_line : ℕ → ℤ → List ℕ
result_line n x = codes "demo " ++ decimal n ++ codes " result=" ++ signed_decimal x ++ 10 ∷ []

-- both lines
abbrev pub demo_lines : DemoCase → RunCase → Job → RunCounts → ℤ → List ℕ
demo_lines c r job n x = result_line c.size x ++ report_line (plan_in r job) n

-- the first so many bytes of both lines were written
abbrev pub WroteLines : DemoCase → List ℕ → ℕ → Type 0
WroteLines c lines front = WroteFront c.old.out.told c.new.out.told lines front

-- ---- the answers

-- 0: the output is complete, and both lines were written
abbrev pub IsDemoDone : DemoCase → Type 0
IsDemoDone c = IsDemoComplete c (λ r job n. (x : ℤ) × IsResult c.new.depot.held x
    × WroteLines c (demo_lines c r job n x) (length (demo_lines c r job n x)))

-- 12: the output is complete, the sink failed, and a front of the lines was written
abbrev pub IsDemoUnprinted : DemoCase → Type 0
IsDemoUnprinted c = Rose 1 c.old.out.faults c.new.out.faults × IsDemoComplete c (λ r job n. (x : ℤ) × IsResult c.new.depot.held x
    × (front : ℕ) × (front ≤ length (demo_lines c r job n x)) × WroteLines c (demo_lines c r job n x) front)

-- 5 and 6: there is no plan, and nothing was stored
abbrev pub IsDemoUnplanned : DemoCase → Status → Type 0
IsDemoUnplanned c status = WroteNothing c.old c.new × OfDemo c (λ job. IsUnplanned c.options job status)

-- asking for the keys ended so, and nothing was stored
abbrev pub IsDemoAsked : DemoCase → Status → Type 0
IsDemoAsked c status = WroteNothing c.old c.new
    × OfDemo c (λ job. IsDemoAskEnd (c.options.retries + 1) (asked_keys c.options job) c.old.depot c.new.depot status)

-- storing the inputs ended so: of all keys only theirs have changed, each to its value
abbrev pub IsDemoUnstored : DemoCase → Status → Type 0
IsDemoUnstored c status = IsSilent c × AreInputsFree c.old.depot.held × Stepped (InputsPut c.size) c.old.depot c.new.depot
    × IsInputsFault (c.options.retries + 1) c.size c.old.depot c.new.depot status

-- its run ended so
abbrev pub IsDemoStopped : Bool → DemoCase → Status → Type 0
IsDemoStopped lack c status = IsSilent c × DemoRan c (λ r job. Ran lack r status)

-- the output is complete, and reading its chunk ended so
abbrev pub IsDemoUnread : DemoCase → Status → Type 0
IsDemoUnread c status = IsSilent c × IsDemoComplete c (λ r job n. IsResultUnread (c.options.retries + 1) c.old.depot c.new.depot status)

-- 13: a chunk of an input or of the output has another length, which is so only where the contents aren't told
abbrev pub IsDemoBadChunk : Bool → DemoCase → List ℕ → ℕ → ℕ → Type 0
IsDemoBadChunk lack c key got want = (c.new.depot.held ≡ None) × (IsDemoStopped lack c (BadChunk key got want) ⊎ IsDemoUnread c (BadChunk key got want))

-- 10: its run ended at this task, and each key of the inputs holds its value
abbrev pub IsDemoTaskFailed : Bool → DemoCase → ℕ → ℕ → Type 0
IsDemoTaskFailed lack c op task = KeepsInputs c × IsDemoStopped lack c (TaskFailed op task)

-- 16: this key may be at fault, as many calls failed as are made for one: where the keys were asked
-- for, where the inputs were stored, in the run, or where the chunk of the output was read
abbrev pub IsDemoKeyFailed : Bool → DemoCase → List ℕ → Type 0
IsDemoKeyFailed lack c key = IsDemoAsked c (DepotFailed key) ⊎ IsDemoUnstored c (DepotFailed key)
    ⊎ IsDemoStopped lack c (DepotFailed key) ⊎ IsDemoUnread c (DepotFailed key)

-- 70: nothing was stored; or memory was wanted at one of these places
abbrev pub IsDemoShort : Bool → DemoCase → Type 0
IsDemoShort lack c = WroteNothing c.old c.new ⊎ IsDemoUnstored c NoMemory
    ⊎ IsDemoStopped lack c NoMemory ⊎ IsDemoUnread c NoMemory

-- what the command answers, of a depot whose yards lack memory or don't
abbrev pub DemoTells : Bool → DemoCase → Status → Type 0
-- 0: the output is complete and means the expression, and both lines were written
DemoTells lack c Done = IsDemoDone c
-- 12: the same, but the sink failed
DemoTells lack c WriteFault = IsDemoUnprinted c
-- 5: a live node needs more than is allowed
DemoTells lack c (OverMemory node need allowed) = IsDemoUnplanned c (OverMemory node need allowed)
-- 6: the plan exceeds a limit
DemoTells lack c (OverLimit which count) = IsDemoUnplanned c (OverLimit which count)
-- 9: this key is in the way
DemoTells lack c (Exists key) = IsDemoAsked c (Exists key)
-- 10: this task may be at fault. By the history of the run it failed as often as it is tried, and
-- ended the run; and the faults were counted
DemoTells lack c (TaskFailed op task) = IsDemoTaskFailed lack c op task
-- 13: only where the depot tells no contents
DemoTells lack c (BadChunk key got want) = IsDemoBadChunk lack c key got want
-- 16: this key may be at fault. As many calls failed as are made for one key, by the count of faults
DemoTells lack c (DepotFailed key) = IsDemoKeyFailed lack c key
-- 70: memory was wanted
DemoTells lack c NoMemory = IsDemoShort lack c
DemoTells lack c status = ⊥

-- ---- when a demonstration is served

-- the keys that are asked for of an array that is made
abbrev pub array_keys : List ℕ → List (List ℕ)
array_keys name = record_key_of name ∷ metadata_key_of name ∷ zarray_key_of name ∷ []

-- the key is one of those that the demonstration asks for
abbrev pub IsDemoAskedKey : Options → Job → List ℕ → Type 0
IsDemoAskedKey options job key =
    Contains (array_keys (demo_name Rows)) key ⊎ Contains (array_keys (demo_name Columns)) key ⊎ Contains (asked_keys options job) key

-- No live node needs more than is allowed, and the counts keep their limits. No key that is asked for is held, and no put on one is late.
pub record IsDemoAtRest (options : Options) (n : ℕ) (entry : Contents) (old : Shown) : Type 0 where
  pub planned : (job : Job) → IsDemoJob n job → refusal_of options job.expr job.types ≡ None
  pub free : (job : Job) (key : List ℕ) → IsDemoJob n job → IsDemoAskedKey options job key → entry key ≡ None
  pub settled : (job : Job) (key bytes : List ℕ) → IsDemoJob n job → IsDemoAskedKey options job key → IsAmong old.late key bytes → ⊥
