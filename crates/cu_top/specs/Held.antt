-- The record that is held, beside that of a plan. This project's own rules.
use Rattle.std.specs.Prelude.{◌≡◌, ◌≢◌, ◌⊎◌, ℕ, ◌+◌, List, slice_get, take, Option, Some, None, Result, Ok, Err, true}
use Rattle.cu_store.specs.Faults.{Rose}
use Rattle.cu_store.specs.Held.{Contents, Holds, IsGone, IsAmong}
use Rattle.cu_store.specs.Steps.{Shown, NoChange}
use Rattle.cu_run_law.specs.Left.{IsLeft}
use Rattle.cu_run_law.specs.Pieces.{PlanRun, KeysApart, text_at}
use Rattle.cu_op.specs.Sound.{Sound}
use Rattle.cu_op.specs.Elements.{Elements}
use Rattle.cu_op.specs.Value.{stored_inputs}
use Rattle.cu_name.specs.Keys.{record_key_of}
use Rattle.cu_command.specs.Job.{IsJob}
use Rattle.cu_command.specs.Seen.{Stepped}
use Rattle.cu_command.specs.declared.job.Job.{Job}
use Rattle.cu_command.specs.declared.job.JobFault.TheVariants as fault
use Rattle.cu_command.specs.declared.status.Status.{Status}
use Rattle.cu_command.specs.declared.status.Status.TheVariants.{OtherPlan, NoPlan, DepotFailed, NoMemory}
use Rattle.cu_lower.specs.declared.options.Options.{Options}
use Rattle.cu_top.specs.Prepare.{HasPlan, HasNoOwnInput, IsLentWithin, is_own_input}
use Rattle.cu_top.specs.Quiet.{run_of_job}
use Rattle.cu_top.specs.Record.{record_text}
use Rattle.cu_top.specs.Run.{RunCase, plan_in, job_run, env_of, IsAccepted, HasNoJob, IsSpared, OfPlanned, WasRefused}
use Rattle.cu_top.specs.declared.held.RecordFault.{RecordFault}
use Rattle.cu_top.specs.declared.held.RecordFault.TheVariants as held

-- the texts agree before this byte, and differ there, or one of them ends there
abbrev pub TextsDifferAt : List ℕ → List ℕ → ℕ → Type 0
TextsDifferAt a b place = (take place a ≡ take place b) × (slice_get a place ≢ slice_get b place)

-- where contents are told, the key holds a text that differs from this one first at this byte
abbrev pub HoldsOther : Option Contents → List ℕ → List ℕ → ℕ → Type 0
HoldsOther None key text place = Unit {0}
HoldsOther (Some held) key text place =
    (bytes : List ℕ) × (held key ≡ Some bytes) × TextsDifferAt bytes text place

-- why a key doesn't hold this text: it is absent, it holds another, all calls for it failed, or
-- memory was wanting
abbrev pub IsRecordFault : ℕ → List ℕ → List ℕ → Shown × Shown → RecordFault → Type 0
IsRecordFault tries key text shown held.Absent = IsGone shown.1.held key
IsRecordFault tries key text shown (held.Other place) = HoldsOther shown.1.held key text place
IsRecordFault tries key text shown held.Failed = Rose tries shown.0.faults shown.1.faults
IsRecordFault tries key text shown held.NoMemory = Unit {0}

-- ---- the premise of the commands that go on from a held record

-- the plan's record is held, or a put of it is late
abbrev pub HasRecordOrLate : PlanRun → Shown → Contents → Type 0
HasRecordOrLate r shown held =
    (held (text_at r 0).0 ≡ Some (text_at r 0).1) ⊎ IsAmong shown.late (text_at r 0).0 (text_at r 0).1

-- Where the contents are told and the plan's record is held, or a put of it is late, the store was
-- left so by the plan, and no node of the expression reads the output.
abbrev pub IsLeftBy : PlanRun → Shown → Option Contents → Type 0 → Type 0
IsLeftBy r shown None own = Unit {0}
IsLeftBy r shown (Some held) own =
    HasRecordOrLate r shown held → IsLeft r (stored_inputs r.plan.arrays held) shown × own

-- the same for the job of a text, where it has a plan
abbrev pub IsLeftEntry : Options → List ℕ → Shown → Type 0
IsLeftEntry options text old = (job : Job) → IsJob old text job → HasPlan options job
    → IsLeftBy (run_of_job options job) old old.held (HasNoOwnInput job.expr)

-- ---- what both commands refuse, before they change anything

-- 14: the record that is held differs from this plan's, first at this byte
abbrev pub IsOtherPlan : RunCase → ℕ → Type 0
IsOtherPlan c place = IsSpared c × OfPlanned c (λ job.
    HoldsOther c.new.depot.held (record_key_of job.expr.store_as) (record_text c.options job) place)

-- where the contents were told, the record's key was absent when the command began
abbrev pub WasUnrecorded : RunCase → Job → Type 0
WasUnrecorded c job = (entry : Contents) → c.old.depot.held ≡ Some entry
    → entry (record_key_of job.expr.store_as) ≡ None

-- where they were, the record was held when the command began, or a put of it was late
abbrev pub WasRecorded : RunCase → Job → Type 0
WasRecorded c job = (entry : Contents) → c.old.depot.held ≡ Some entry
    → HasRecordOrLate (job_run c job) c.old.depot entry

-- 15: there was no record when the command began; or there was, and a node reads the output
abbrev pub HasNoRecord : RunCase → Type 0
HasNoRecord c = IsSpared c × OfPlanned c (λ job. WasUnrecorded c job
    ⊎ ((is_own_input job.expr ≡ true) × WasRecorded c job))

-- 16: as many calls failed as are made for one key, by the count of faults. This key may be at fault:
-- that of an input's metadata in its turn, or the record's.
abbrev pub IsUnasked : RunCase → List ℕ → Type 0
IsUnasked c key = Rose (c.options.retries + 1) c.old.depot.faults c.new.depot.faults
    × (HasNoJob c (fault.DepotFailed key) ⊎ (IsSpared c × OfPlanned c (λ job. key ≡ record_key_of job.expr.store_as)))

-- why a plan isn't found again; nothing was changed
abbrev pub IsNotReopened : RunCase → Status → Type 0
IsNotReopened c (OtherPlan place) = IsOtherPlan c place
IsNotReopened c NoPlan = HasNoRecord c
IsNotReopened c (DepotFailed key) = IsUnasked c key
IsNotReopened c NoMemory = IsSpared c
IsNotReopened c status = WasRefused c status

-- what is answered where the record isn't held and has this key
abbrev pub record_answer : List ℕ → RecordFault → Status
record_answer key held.Absent = NoPlan
record_answer key (held.Other place) = OtherPlan place
record_answer key held.Failed = DepotFailed key
record_answer key held.NoMemory = NoMemory

-- ---- a plan that is found again

-- where contents are told when the command begins, a fact of the elements that the inputs then have
abbrev pub WhereEntryTold : RunCase → Job → (Elements → Type 0) → Type 0
WhereEntryTold c job fact = (entry : Contents) → c.old.depot.held ≡ Some entry → fact (env_of c job entry)

-- The job was accepted and has a plan, its output is no input, and its record was found: where the
-- contents were told, it was held when the command began, or a put of it was late.
pub record IsReopened (c : RunCase) (job : Job) : Type 0 where
  pub accepted : IsAccepted c job
  pub planned : HasPlan c.options job
  pub sound : Sound (plan_in c job)
  pub room : IsLentWithin (plan_in c job)
  pub own : HasNoOwnInput job.expr
  pub apart : KeysApart (job_run c job)
  pub had_record : WasRecorded c job

-- ---- what is seen of a record

-- what a text tells beside this plan's: it is the same, or differs first at this byte
abbrev pub IsCompared : List ℕ → List ℕ → Result (Unit {0}) RecordFault → Type 0
IsCompared found text (Ok x) = found ≡ text
IsCompared found text (Err (held.Other place)) = TextsDifferAt found text place
IsCompared found text (Err f) = ⊥

-- The plan of a text is found again: the job was accepted and has a plan, its output is no input,
-- its record is held, and nothing was changed so far.
pub record IsFoundAgain (options : Options) (text : List ℕ) (old start : Shown) (job : Job) : Type 0 where
  pub accepted : IsJob old text job
  pub planned : HasPlan options job
  pub own : HasNoOwnInput job.expr
  pub record_held : Holds start.held (record_key_of job.expr.store_as) (record_text options job)
  pub spared : Stepped NoChange old start
