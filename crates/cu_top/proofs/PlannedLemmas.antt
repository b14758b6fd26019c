-- What the command `plan` answers, and what a run answers before it asks for its keys.
use Rattle.std.proofs.Common.{Bool, false, ◌≡◌, inl, ℕ, ◌+◌, ◌≤◌, List, length, Option, Some, None, Err, ◌∙◌, subst, arith}
use Rattle.cu_read.specs.Read.{expression_of}
use Rattle.cu_read.specs.declared.faults.ReadFault.{ReadFault as ExpressionFault}
use Rattle.cu_store.specs.Faults.{Rose}
use Rattle.cu_command.proofs.JobLemmas.{only_memory}
use Rattle.cu_command.specs.Job.{IsJob, IsJobFault, IsTypable, StoodStill, status_of}
use Rattle.cu_command.specs.Streams.{ReadsAll}
use Rattle.cu_command.specs.declared.job.Job.{Job}
use Rattle.cu_command.specs.declared.job.JobFault.{JobFault}
use Rattle.cu_command.specs.declared.job.JobFault.TheVariants as fault
use Rattle.cu_command.specs.declared.status.Status.{Status}
use Rattle.cu_command.specs.declared.status.Status.TheVariants.{Done, BadExpr, BadType, OverMemory, OverLimit, BadMeta, NoArray, ReadFault, WriteFault, DepotFailed, NoMemory}
use Rattle.cu_lower.specs.declared.options.Options.{Options}
use Rattle.cu_plan.specs.Refusal.{refusal_of, IsRefusal}
use Rattle.cu_plan.specs.Text.{plan_text}
use Rattle.cu_plan.specs.declared.fault.PlanFault.{PlanFault}
use Rattle.cu_plan.specs.declared.fault.PlanFault.TheVariants as refused
use Rattle.cu_top.proofs.CallLemmas.{same_expression, same_text, refused_run}
use Rattle.cu_top.proofs.Completeness.{none_rose, none_or_some}
use Rattle.cu_top.specs.Call.{AreSpared, CameToRun, IsExpressionRefused}
use Rattle.cu_top.specs.Complete.{IsPlannable, IsServed}
use Rattle.cu_top.specs.Planned.{IsPlanRefused, Plans, PlanTells}
use Rattle.cu_top.specs.Prepare.{unplanned_status, HasPlan}
use Rattle.cu_top.specs.Run.{Scene, RunCase, case, plan_in, IsAccepted, IsSpared, HasNoJob, WroteTo, Ran}

-- ---- why a text has no plan

-- the text, the inputs or the types were refused
pub job_refused : (c : RunCase) (f : JobFault) → IsSpared c → IsJobFault (c.options.retries + 1) c.text c.old.depot c.new.depot f → IsPlanRefused c (status_of f)
job_refused c (fault.Expression code node) spared why = (spared, why)
job_refused c (fault.DepotFailed key) spared why = (spared, why)
job_refused c (fault.NoArray name) spared why = (spared, why)
job_refused c (fault.BadMeta name code) spared why = (spared, why)
job_refused c (fault.Typing code node) spared why = (spared, why)
job_refused c fault.NoMemory spared why = spared

-- there is no plan
pub plan_refused : (c : RunCase) (job : Job) (f : PlanFault) → IsSpared c → IsAccepted c job → IsRefusal c.options job.expr job.types f → IsPlanRefused c (unplanned_status f)
plan_refused c job (refused.OverMemory node need allowed) spared accepted why = (spared, (job, accepted, why))
plan_refused c job (refused.OverLimit which count) spared accepted why = (spared, (job, accepted, why))
plan_refused c job refused.NoMemory spared accepted why = spared

-- a run is refused so too
pub refused_ran : (lack : Bool) (c : RunCase) (status : Status) → IsPlanRefused c status → Ran lack c status
refused_ran lack c (BadExpr code node) why = why
refused_ran lack c (DepotFailed key) why = (why.1.3, inl why)
refused_ran lack c (NoArray name) why = why
refused_ran lack c (BadMeta name code) why = why
refused_ran lack c (BadType code node) why = why
refused_ran lack c (OverMemory node need allowed) why = why
refused_ran lack c (OverLimit which count) why = why
refused_ran lack c NoMemory why = inl why
refused_ran lack c status why = absurd why

-- what wasn't planned is answered so
pub refused_plans : (c : RunCase) (status : Status) → IsPlanRefused c status → Plans c status
refused_plans c Done why = absurd why
refused_plans c WriteFault why = absurd why
refused_plans c status why = why

-- the text of the plan was written, or a front of it
pub plan_done : (c : RunCase) (job : Job) (lines : List ℕ) → IsSpared c → IsAccepted c job → HasPlan c.options job → lines ≡ plan_text (plan_in c job) → WroteTo c lines (length lines) → Plans c Done
plan_done c job lines spared accepted planned is wrote = (spared, (job, accepted, (planned, subst (λ (t : List ℕ). WroteTo c t (length t)) is wrote)))

pub plan_unwritten : (c : RunCase) (job : Job) (lines : List ℕ) → IsSpared c → IsAccepted c job → HasPlan c.options job → lines ≡ plan_text (plan_in c job) → Rose 1 c.old.sink.faults c.new.sink.faults
    → ((n : ℕ) × (n ≤ length lines) × WroteTo c lines n) → Plans c WriteFault
plan_unwritten c job lines spared accepted planned is rose wrote =
    (rose, (spared, (job, accepted, (planned, subst (λ (t : List ℕ). (n : ℕ) × (n ≤ length t) × WroteTo c t n) is wrote))))

-- ---- the command

module _ (options : Options) (old new : Scene) where
  -- what planning the text answers
  pub told_plan : (text : List ℕ) (status : Status) → ReadsAll old.source.told new.source.told text → Plans (case options text old new) status → PlanTells options old new status
  told_plan text ReadFault read why = absurd why
  told_plan text NoMemory read why = why
  told_plan text status read why = (text, read, why)

  -- nothing was stored
  pub plan_spared : (status : Status) → PlanTells options old new status → AreSpared old new
  plan_spared ReadFault tells = tells.1
  plan_spared NoMemory tells = tells
  plan_spared Done (text, read, why) = why.0
  plan_spared WriteFault (text, read, why) = why.1.0
  plan_spared (BadExpr code node) (text, read, why) = why.0
  plan_spared (BadType code node) (text, read, why) = why.0
  plan_spared (BadMeta name code) (text, read, why) = why.0
  plan_spared (NoArray name) (text, read, why) = why.0
  plan_spared (DepotFailed key) (text, read, why) = why.0
  plan_spared (OverMemory node need allowed) (text, read, why) = why.0
  plan_spared (OverLimit which count) (text, read, why) = why.0
  plan_spared status (text, read, why) = absurd why

-- ---- a text that is no expression

module _ (c : RunCase) (f : ExpressionFault) (err : expression_of c.text ≡ Err f) where
  no_expression : (job : Job) → IsJob c.old.depot c.text job → ⊥
  no_expression job is = let said = is.said in cc

  plans_refused : (status : Status) → Plans c status → IsExpressionRefused f status
  plans_refused Done (spared, (job, accepted, planned)) = no_expression job accepted
  plans_refused WriteFault (rose, (spared, (job, accepted, planned))) = no_expression job accepted
  plans_refused status why = refused_run c f err false status (refused_ran false c status why)

-- it is refused, or memory was wanted
pub plan_refused_text : (options : Options) (old new : Scene) (left : List ℕ) (f : ExpressionFault) (status : Status) → old.source.told ≡ Some left → expression_of left ≡ Err f → PlanTells options old new status
    → IsExpressionRefused f status
plan_refused_text options old new left f ReadFault told err tells = tt
plan_refused_text options old new left f NoMemory told err tells = tt
plan_refused_text options old new left f status told err (text, read, why) =
    plans_refused (case options text old new) f
    (same_expression left text new.source.told (subst (λ (o : Option (List ℕ)). ReadsAll o new.source.told text) told read) ∙ err) status why

-- ---- where nothing is refused

module _ (c : RunCase) (typable : IsTypable c.old.depot c.text) (depot : StoodStill c.old.depot.faults c.new.depot.faults) (sink : StoodStill c.old.sink.faults c.new.sink.faults)
    (planned : (job : Job) → IsJob c.old.depot c.text job → refusal_of c.options job.expr job.types ≡ None) where
  no_fault : (f : JobFault) → HasNoJob c f → f ≡ fault.NoMemory
  no_fault f unread = only_memory c.options.retries c.text c.old.depot c.new.depot f typable depot unread.1

  served_plan : (status : Status) → Plans c status → IsServed status
  served_plan Done why = tt
  served_plan NoMemory why = tt
  served_plan WriteFault why = none_rose 1 c.old.sink.faults c.new.sink.faults (omega arith) sink why.0
  served_plan (DepotFailed key) why = let e = no_fault (fault.DepotFailed key) why in cc
  served_plan (BadExpr code node) why = let e = no_fault (fault.Expression code node) why in cc
  served_plan (BadType code node) why = let e = no_fault (fault.Typing code node) why in cc
  served_plan (BadMeta name code) why = let e = no_fault (fault.BadMeta name code) why in cc
  served_plan (NoArray name) why = let e = no_fault (fault.NoArray name) why in cc
  served_plan (OverMemory node need allowed) (spared, (job, accepted, why)) = none_or_some _ _ (planned job accepted) why
  served_plan (OverLimit which count) (spared, (job, accepted, why)) = none_or_some _ _ (planned job accepted) why
  served_plan status why = absurd why

module _ (options : Options) (left : List ℕ) (old new : Scene) (told_left : old.source.told ≡ Some left) (premise : IsPlannable options left old.depot)
    (source : StoodStill old.source.faults new.source.faults) (sink : StoodStill old.sink.faults new.sink.faults) (depot : StoodStill old.depot.faults new.depot.faults) where
  came : (status : Status) → CameToRun options old new (λ c. Plans c status) → IsServed status
  came status (text, read, why) =
      let same : text ≡ left = same_text left text new.source.told premise.typable.expr (subst (λ (t : Option (List ℕ)). ReadsAll t new.source.told text) told_left read) premise.typable.said in
      served_plan (case options left old new) premise.typable depot sink premise.planned status (subst (λ (t : List ℕ). Plans (case options t old new) status) same why)

  -- Where all is accepted and no count of faults rises, the plan is printed, or memory is wanted.
  pub plan_served : (status : Status) → PlanTells options old new status → IsServed status
  plan_served ReadFault tells = none_rose 1 old.source.faults new.source.faults (omega arith) source tells.0
  plan_served NoMemory tells = tt
  plan_served status tells = came status tells
