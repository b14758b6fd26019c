-- What planning the expression of a text answers, and what it leaves: it stores nothing. This project's own rules.
use Rattle.std.specs.Prelude.{ℕ, ◌≤◌, ◌⊎◌, List, length}
use Rattle.cu_store.specs.Faults.{Rose}
use Rattle.cu_store.specs.Steps.{Shown, OnceEach}
use Rattle.cu_command.specs.Seen.{Stream, WithinCalls}
use Rattle.cu_command.specs.Streams.{ReadsAll}
use Rattle.cu_command.specs.declared.job.JobFault.TheVariants as fault
use Rattle.cu_command.specs.declared.status.Status.{Status}
use Rattle.cu_command.specs.declared.status.Status.TheVariants.{Done, ReadFault, WriteFault, DepotFailed, NoMemory}
use Rattle.cu_lower.specs.declared.options.Options.{Options}
use Rattle.cu_plan.specs.Text.{plan_text}
use Rattle.cu_top.specs.Call.{AreSpared, CameToRun, IsReadFault}
pub use Rattle.cu_top.specs.Limits.{plan_calls}
use Rattle.cu_top.specs.Run.{Scene, RunCase, plan_in, HasNoJob, IsSpared, WasRefused, OfPlanned, WroteTo}

-- Why a text has no plan, and nothing was stored. As many calls failed as are made for one key, and
-- that of an input's metadata in its turn may be at fault; or memory was wanted; or the text, the
-- metadata, the types or the plan was refused.
abbrev pub IsPlanRefused : RunCase → Status → Type 0
IsPlanRefused c (DepotFailed key) = HasNoJob c (fault.DepotFailed key)
IsPlanRefused c NoMemory = IsSpared c
IsPlanRefused c status = WasRefused c status

-- nothing was stored, and the job of the text has a plan, with a fact of what is written of it
abbrev pub OfPlanText : RunCase → (List ℕ → Type 0) → Type 0
OfPlanText c fact = IsSpared c × OfPlanned c (λ job. fact (plan_text (plan_in c job)))

-- 0: the whole text of the plan was written: a line for each operation whose result is stored
abbrev pub IsPrinted : RunCase → Type 0
IsPrinted c = OfPlanText c (λ text. WroteTo c text (length text))

-- 12: the sink failed, and a front of it was written
abbrev pub IsUnprinted : RunCase → Type 0
IsUnprinted c = Rose 1 c.old.sink.faults c.new.sink.faults × OfPlanText c (λ text. (n : ℕ) × (n ≤ length text) × WroteTo c text n)

-- what planning a text answers
abbrev pub Plans : RunCase → Status → Type 0
-- 0: a line for each operation whose result is stored was written, and the last line
Plans c Done = IsPrinted c
-- 12: the same, but the sink failed
Plans c WriteFault = IsUnprinted c
-- 16: the key of an input's metadata may be at fault; 70: memory was wanted; and 3 to 8
Plans c status = IsPlanRefused c status

-- what the command `plan` answers
abbrev pub PlanTells : Options → Scene → Scene → Status → Type 0
PlanTells options old new ReadFault = IsReadFault old new
PlanTells options old new NoMemory = AreSpared old new
PlanTells options old new status = CameToRun options old new (λ c. Plans c status)

-- the calls of planning the text that was read: one for each key at most, and beyond these no more than
-- failed; where none was, no call was made
abbrev pub PlansWithin : ℕ → Stream → Stream → Shown → Shown → Type 0
PlansWithin tries src next old new =
    WithinCalls 0 old new ⊎ ((text : List ℕ) × ReadsAll src.told next.told text
    × WithinCalls (plan_calls tries text) old new × OnceEach (plan_calls 1 text) old new)
