-- What the command `begin` answers, and what it leaves: all that a run does before its first task. This
-- project's own rules.
use Rattle.std.specs.Prelude.{◌≡◌, ◌⊎◌, ℕ, ◌+◌, ◌*◌, ◌≤◌, List, length, Result, Ok, Err}
use Rattle.cu_store.specs.Faults.{Rose}
use Rattle.cu_run_law.specs.Pieces.{Text, HoldsPiece}
use Rattle.cu_name.specs.Keys.{record_key_of}
use Rattle.cu_zarr.specs.Key.{metadata_key_of}
use Rattle.cu_command.specs.Seen.{Stepped, WithinCalls}
use Rattle.cu_command.specs.declared.job.Job.{Job}
use Rattle.cu_command.specs.declared.job.JobFault.TheVariants as fault
use Rattle.cu_command.specs.declared.status.Status.{Status}
use Rattle.cu_command.specs.declared.status.Status.TheVariants.{Done, ReadFault, WriteFault, Exists}
use Rattle.cu_command.specs.declared.status.Status.TheVariants.{DepotFailed, NoMemory}
use Rattle.cu_lower.specs.declared.options.Options.{Options}
use Rattle.cu_plan.specs.Text.{begun_text}
use Rattle.cu_work.specs.declared.run.RunFault.{RunFault}
use Rattle.cu_work.specs.declared.run.RunFault.TheVariants as text
use Rattle.cu_top.specs.Ask.{IsFirstOf, IsOwnFirst}
use Rattle.cu_top.specs.Call.{AreSpared, CameToRun, IsReadFault}
use Rattle.cu_top.specs.Calls.{CallLimits, TextWithin}
use Rattle.cu_top.specs.Planned.{plan_calls}
use Rattle.cu_top.specs.Prepare.{asked_keys}
use Rattle.cu_top.specs.Run.{Scene, RunCase, plan_in, job_run, HasNoJob, HoldsBoth, IsBlocked}
use Rattle.cu_top.specs.Run.{IsSpared, IsStarted, OfPlanned, RecordPut, TextPut, WasRefused}
use Rattle.cu_top.specs.Run.{WhereLeft, WroteTo}

-- A run was started, and nothing of its plan was put but its two texts.
pub record IsBegun (c : RunCase) (job : Job) : Type 0 where
  pub started : IsStarted c job
  pub texts : Stepped (TextPut c job) c.old.depot c.new.depot

-- such a run, with a fact of its job
abbrev pub BegunRun : RunCase → (Job → Type 0) → Type 0
BegunRun c fact = (job : Job) × IsBegun c job × fact job

-- The key is that of a text. Where contents were told and the premise holds, the calls for the record
-- failed, and nothing but it was put; or those for the output's metadata did, and the record is held.
abbrev pub IsTextUnput : RunCase → Job → List ℕ → Type 0
IsTextUnput c job key =
    ((key ≡ record_key_of job.expr.store_as) ⊎ (key ≡ metadata_key_of job.expr.store_as))
    × WhereLeft c job (λ env.
    ((key ≡ record_key_of job.expr.store_as) × Stepped (RecordPut c job) c.old.depot c.new.depot)
    ⊎ ((key ≡ metadata_key_of job.expr.store_as) × HoldsPiece (job_run c job) env (Text 0) c.new.depot))

-- ---- the answers

-- 0: both texts are held, and the whole text of the plan was written
abbrev pub IsBegunDone : RunCase → Type 0
IsBegunDone c = BegunRun c (λ job. HoldsBoth c job
    × WroteTo c (begun_text (plan_in c job)) (length (begun_text (plan_in c job))))

-- 12: both texts are held, the sink failed, and a front of the text of the plan was written
abbrev pub IsBegunUnprinted : RunCase → Type 0
IsBegunUnprinted c = Rose 1 c.old.sink.faults c.new.sink.faults × BegunRun c (λ job. HoldsBoth c job
    × ((n : ℕ) × (n ≤ length (begun_text (plan_in c job))) × WroteTo c (begun_text (plan_in c job)) n))

-- 16: as many calls failed as are made for one key, by the count of faults, and this key may be at
-- fault. Nothing was stored, and the key is that of an input's metadata in its turn, or one of the
-- plan's, before which the others were found absent; or it is that of a text.
abbrev pub IsBeginFailed : RunCase → List ℕ → Type 0
IsBeginFailed c key = Rose (c.options.retries + 1) c.old.depot.faults c.new.depot.faults
    × (HasNoJob c (fault.DepotFailed key)
    ⊎ (IsSpared c × OfPlanned c (λ job. IsFirstOf c.old.depot (asked_keys c.options job) key × IsOwnFirst job.expr key))
    ⊎ BegunRun c (λ job. IsTextUnput c job key))

-- 70: nothing was stored; or nothing but texts was put
abbrev pub IsBeginShort : RunCase → Type 0
IsBeginShort c = IsSpared c ⊎ BegunRun c (λ job. Unit {0})

-- what a run that is begun answers, from the text on
abbrev pub WasBegun : RunCase → Status → Type 0
-- 0: both texts are held, and the whole text of the plan was written
WasBegun c Done = IsBegunDone c
-- 12: the same, but the sink failed
WasBegun c WriteFault = IsBegunUnprinted c
-- 16: this key may be at fault. As many calls failed as are made for one key, by the count of faults
WasBegun c (DepotFailed key) = IsBeginFailed c key
-- 9: this key is in the way
WasBegun c (Exists key) = IsBlocked c key
-- 70: memory was wanted
WasBegun c NoMemory = IsBeginShort c
-- 3 to 8
WasBegun c status = WasRefused c status

-- what the command `begin` answers
abbrev pub BeginTells : Options → Scene → Scene → Status → Type 0
BeginTells options old new ReadFault = IsReadFault old new
BeginTells options old new NoMemory = AreSpared old new ⊎ CameToRun options old new IsBeginShort
BeginTells options old new status = CameToRun options old new (λ c. WasBegun c status)

-- ---- calls

-- the two keys of metadata of each input; the keys that are asked for; and the two texts: so many calls
-- for each
abbrev pub begin_limits : Options → List ℕ → Job → CallLimits
begin_limits o given job =
    let tries = o.retries + 1 in
    let asked = length (asked_keys o job) in
    record {
      asked = plan_calls tries given + asked * tries;
      begun = plan_calls tries given + (asked + 2) * tries;
      all = plan_calls tries given + (asked + 2) * tries;
    }

abbrev pub BeginWithin : RunCase → Status → Type 0
BeginWithin c status = TextWithin (begin_limits c.options c.text) c status

-- the same of the text that was read; where none was, no call was made
abbrev pub BeginsWithin : Options → Scene → Scene → Status → Type 0
BeginsWithin options old new status =
    WithinCalls 0 old.depot new.depot ⊎ CameToRun options old new (λ c. BeginWithin c status)

-- ---- on the way

-- what is answered where storing a text ended so
abbrev pub text_answer : RunFault → Status
text_answer (text.TextFailed key) = DepotFailed key
text_answer f = NoMemory

-- what storing the texts comes to
abbrev pub TextsEnded : RunCase → Job → Result (Unit {0}) Status → Type 0
TextsEnded c job (Ok x) = IsBegun c job × HoldsBoth c job
TextsEnded c job (Err status) = WasBegun c status

-- why they weren't stored: all calls for one failed, or memory was wanting
abbrev pub IsTextsAnswer : Status → Type 0
IsTextsAnswer (DepotFailed key) = Unit {0}
IsTextsAnswer NoMemory = Unit {0}
IsTextsAnswer status = ⊥
