-- What a run comes to that is begun.
use Rattle.std.proofs.Common.{◌≡◌, ◌⊎◌, inl, inr, ℕ, ◌+◌, ◌*◌, ◌<◌, ◌≤◌, false, List, length, Option, Some, None, Result, Ok, Err, IfErr, refl, sym, ◌∙◌, subst, arith}
use Rattle.std.specs.Prelude.{OnOk}
use Rattle.cu_store.specs.Faults.{last_count, Rose}
use Rattle.cu_store.specs.Held.{Contents}
use Rattle.cu_store.specs.Steps.{NoChange, Shown, Steps, Within}
use Rattle.cu_store.proofs.Steps.{steps_none, steps_wider}
use Rattle.cu_op.specs.PlanView.{PlanView}
use Rattle.cu_op.specs.Elements.{Elements}
use Rattle.cu_run_law.specs.Left.{IsLeft, RunChange}
use Rattle.cu_run_law.specs.Pieces.{PlanRun, Text, HoldsPiece}
use Rattle.cu_work.specs.Run.{HoldsTexts, IsRunFault, PutOfText, run_of as work_run, IsRecordFirst as IsTextFirst, IsUnstored as IsTextUnstored}
use Rattle.cu_work.specs.Shared.{none_done}
use Rattle.cu_work.specs.declared.run.HeldTexts.TheVariants as given
use Rattle.cu_work.specs.declared.run.RunFault.{RunFault}
use Rattle.cu_work.specs.declared.run.RunFault.TheVariants as text
use Rattle.cu_work.specs.declared.run.Texts.{Texts}
use Rattle.cu_name.specs.Keys.{record_key_of}
use Rattle.cu_zarr.specs.Key.{metadata_key_of}
use Rattle.cu_command.specs.Seen.{Stepped, WithinCalls}
use Rattle.cu_command.proofs.SeenLemmas.{stepped, stepped_then, stepped_wider, stepped_none}
use Rattle.cu_command.specs.declared.job.Job.{Job}
use Rattle.cu_command.specs.declared.status.Status.{Status}
use Rattle.cu_command.specs.declared.status.Status.TheVariants.{Done, BadExpr, BadType, OverMemory, OverLimit, BadMeta, NoArray, Exists, TaskFailed, WriteFault, BadChunk, DepotFailed, NoMemory}
use Rattle.cu_plan.specs.Text.{begun_text}
use Rattle.cu_work.specs.declared.way.WayFault.{WayFault}
use Rattle.cu_work.specs.declared.way.WayFault.TheVariants as way
use Rattle.cu_top.specs.Ask.{IsAskEnd, answer_of}
use Rattle.cu_top.specs.Begin.{BeginWithin, BegunRun, IsBegun, IsTextsAnswer, IsTextUnput, TextsEnded, WasBegun, begin_limits, text_answer}
use Rattle.cu_top.specs.Calls.{RunWithin, run_limits}
use Rattle.cu_top.specs.Driven.{IsMissingText, MissingPut}
use Rattle.cu_top.specs.Planned.{IsPlanRefused, plan_calls}
use Rattle.cu_top.specs.Prepare.{HasPlan, asked_keys}
use Rattle.cu_top.specs.Run.{RunCase, plan_in, job_run, env_of, HoldsBoth, IsAccepted, IsCleared, IsStarted, TextPut, WhereLeft, WroteTo}
use Rattle.cu_top.proofs.DriveLemmas.{PlanLaws, left_start, left_end, rose_since, run_step}
use Rattle.cu_top.proofs.PlanLemmas.{lent_within}
use Rattle.cu_top.proofs.RunLemmas.{first_of as first_absent, keys, left_old}

-- ---- what is told of the texts

-- the key of a text, of which all calls failed
abbrev pub IsTextCause : PlanRun → ℕ → Shown → Shown → RunFault → Type 0
IsTextCause r tries old new (text.TextFailed key) = IsMissingText given.Neither r key × Rose tries old.faults new.faults
IsTextCause r tries old new f = Unit {0}

-- the clauses of storing the texts, for the plan's run
pub record TextsTold (r : PlanRun) (tries : ℕ) (old new : Shown) (result : Result (Unit {0}) RunFault) : Type 0 where
  pub step : Steps (RunChange r old) 0 (2 * tries) old new
  pub own : Steps (MissingPut given.Neither r) 0 (2 * tries) old new
  pub stored : (env : Elements) → IsLeft r env old → OnOk result (HoldsTexts r env new)
  pub unstored : (env : Elements) → IsLeft r env old → IfErr result (IsTextUnstored r env tries old new)
  pub cause : IfErr result (IsTextCause r tries old new)

cause_of : (p : PlanView) (t : Texts) (tries : ℕ) (old new : Shown) (f : RunFault) → IsRunFault given.Neither tries t old new f → IsTextCause (work_run p t) tries old new f
cause_of p t tries old new (text.TextFailed key) why = why
cause_of p t tries old new text.ShareFailed why = tt
cause_of p t tries old new text.NoMemory why = tt

cause_if : (p : PlanView) (t : Texts) (tries : ℕ) (old new : Shown) (result : Result (Unit {0}) RunFault) → IfErr result (IsRunFault given.Neither tries t old new) → IfErr result (IsTextCause (work_run p t) tries old new)
cause_if p t tries old new (Ok x) why = tt
cause_if p t tries old new (Err f) why = cause_of p t tries old new f why

pub texts_told : (p : PlanView) (t : Texts) (r : PlanRun) (tries : ℕ) (old new : Shown) (result : Result (Unit {0}) RunFault) → work_run p t ≡ r
    → Steps (RunChange (work_run p t) old) 0 (2 * tries) old new → Steps (PutOfText t) 0 (2 * tries) old new
    → ((env : Elements) → IsLeft (work_run p t) env old → OnOk result (HoldsTexts (work_run p t) env new))
    → ((env : Elements) → IsLeft (work_run p t) env old → IfErr result (IsTextUnstored (work_run p t) env tries old new))
    → IfErr result (IsRunFault given.Neither tries t old new) → TextsTold r tries old new result
texts_told p t r tries old new result same step own stored unstored cause =
    let told : TextsTold (work_run p t) tries old new result = record {
      step = step;
      own = steps_wider (λ key value change. change) (omega arith) (omega arith) own;
      stored = stored;
      unstored = unstored;
      cause = cause_if p t tries old new result cause;
    } in
    subst (λ (x : PlanRun). TextsTold x tries old new result) same told

-- the record comes first
first_of : (r : PlanRun) (env : Elements) (tries : ℕ) (old new : Shown) (result : Result (Unit {0}) RunFault) → tries ≤ last_count → 0 < length r.texts
    → OnOk result (HoldsTexts r env new) → IfErr result (IsTextUnstored r env tries old new) → IsTextFirst r env last_count old new
first_of r env tries old new (Ok x) few some stored unstored = inr (stored 0 some)
first_of r env tries old new (Err (text.TextFailed key)) few some stored (inl (is, step)) = inl (steps_wider (λ k value change. change) (omega arith) (omega (arith, few)) step)
first_of r env tries old new (Err (text.TextFailed key)) few some stored (inr (is, holds)) = inr holds
first_of r env tries old new (Err text.ShareFailed) few some stored holds = inr (holds 0 some)
first_of r env tries old new (Err text.NoMemory) few some stored (inl step) = inl (steps_wider (λ k value change. change) (omega arith) (omega (arith, few)) step)
first_of r env tries old new (Err text.NoMemory) few some stored (inr holds) = inr holds

-- ---- a run that is begun

module _ (c : RunCase) (job : Job) (laws : PlanLaws c job) (start : Shown) (cleared : IsCleared c.options c.text c.old.depot start job) (few : c.options.retries ≤ 8)
    (result : Result (Unit {0}) RunFault) (told : TextsTold (job_run c job) (c.options.retries + 1) start c.new.depot result) where
  whole_step : Steps (RunChange (job_run c job) start) 0 last_count start c.new.depot
  whole_step = steps_wider (λ key value change. change) (omega arith) (omega (arith, few)) told.step

  pub begun_texts : Stepped (TextPut c job) c.old.depot c.new.depot
  begun_texts = stepped_then (stepped_none cleared.spared) (stepped_wider (λ key value change. change) (stepped told.own))

  pub begun_started : IsStarted c job
  begun_started = record {
    accepted = cleared.accepted;
    planned = cleared.planned;
    sound = laws.sound;
    room = lent_within (plan_in c job) laws.sound laws.needs;
    own = cleared.own;
    apart = keys c job laws start cleared;
    free = cleared.free;
    step = run_step c job laws start cleared.spared given.Neither (none_done (plan_in c job)) false whole_step;
    opens = left_old c job laws start cleared;
    left = left_end c job laws start cleared.spared given.Neither (none_done (plan_in c job)) false whole_step;
    first = λ entry is calm.
        let env = env_of c job entry in
        let left = left_start c job laws start cleared.spared entry is calm in
        elim (first_of (job_run c job) env (c.options.retries + 1) start c.new.depot result (omega (arith, few)) (omega arith) (told.stored env left) (told.unstored env left)) [
          | inl step ↦ inr (stepped_then (stepped_none cleared.spared) (stepped step))
          | inr holds ↦ inl holds
        ];
  }

  is_begun : IsBegun c job
  is_begun = record { started = begun_started; texts = begun_texts }

  pub begun_stored : result ≡ Ok tt → TextsEnded c job (Ok tt)
  begun_stored is = (
    is_begun,
    λ entry there calm.
        subst (λ (r : Result (Unit {0}) RunFault). OnOk r (HoldsTexts (job_run c job) (env_of c job entry) c.new.depot)) is
        (told.stored (env_of c job entry) (left_start c job laws start cleared.spared entry there calm)),
  )

  by_fault : (f : RunFault) → result ≡ Err f → WasBegun c (text_answer f)
  by_fault text.ShareFailed is = inr (job, is_begun, tt)
  by_fault text.NoMemory is = inr (job, is_begun, tt)
  by_fault (text.TextFailed key) is =
      let cause = subst (λ (r : Result (Unit {0}) RunFault). IfErr r (IsTextCause (job_run c job) (c.options.retries + 1) start c.new.depot)) is told.cause in (
        rose_since c job laws start cleared.spared (c.options.retries + 1) cause.1,
        inr (inr (
          job,
          is_begun,
          (
            cause.0,
            λ entry there calm.
                let env = env_of c job entry in
                elim (subst (λ (r : Result (Unit {0}) RunFault). IfErr r (IsTextUnstored (job_run c job) env (c.options.retries + 1) start c.new.depot)) is
                (told.unstored env (left_start c job laws start cleared.spared entry there calm))) [
                  | inl first ↦ inl (first.0, stepped_then (stepped_none cleared.spared) (stepped first.1))
                  | inr held ↦ inr held
                ],
          ),
        )),
      )

  pub begun_unput : (f : RunFault) → result ≡ Err f → TextsEnded c job (Err (text_answer f))
  begun_unput f is = by_fault f is

-- the answers where a text isn't stored
pub texts_stop : (f : RunFault) → IsTextsAnswer (text_answer f)
texts_stop (text.TextFailed key) = tt
texts_stop text.ShareFailed = tt
texts_stop text.NoMemory = tt

-- ---- what was refused

-- the text, its inputs, its types or its plan
pub refused_begins : (c : RunCase) (status : Status) → IsPlanRefused c status → WasBegun c status
refused_begins c (BadExpr code node) why = why
refused_begins c (DepotFailed key) why = (why.1.3, inl why)
refused_begins c (NoArray name) why = why
refused_begins c (BadMeta name code) why = why
refused_begins c (BadType code node) why = why
refused_begins c (OverMemory node need allowed) why = why
refused_begins c (OverLimit which count) why = why
refused_begins c NoMemory why = inl why
refused_begins c status why = absurd why

-- asking for the keys ended
pub ask_unbegun : (c : RunCase) (job : Job) (between : Shown) (f : WayFault) → IsAccepted c job → HasPlan c.options job
    → Stepped NoChange c.old.depot between → Stepped NoChange between c.new.depot → IsAskEnd (c.options.retries + 1) job.expr (asked_keys c.options job) between c.new.depot f → WasBegun c (answer_of f)
ask_unbegun c job between (way.Held key) accepted planned first second fault =
    (stepped_then first second, (job, accepted, (planned, (first_absent c.old.depot between (asked_keys c.options job) key first fault.0, fault.1, fault.2))))
ask_unbegun c job between (way.Failed key) accepted planned first second fault = (
  (let earlier = first.step.count in let rose = fault.1 in omega (arith, rose, earlier)),
  inr (inl (stepped_then first second, (job, accepted, (planned, (first_absent c.old.depot between (asked_keys c.options job) key first fault.0, fault.2))))),
)
ask_unbegun c job between way.NoMemory accepted planned first second fault = inl (stepped_then first second)

-- ---- calls

module _ (c : RunCase) (job : Job) (accepted : IsAccepted c job) (planned : HasPlan c.options job) where
  pub begin_asked_within : (fault : WayFault) → WithinCalls (begin_limits c.options c.text job).asked c.old.depot c.new.depot → BeginWithin c (answer_of fault)
  begin_asked_within (way.Held key) calls = inr (job, accepted, (planned, calls))
  begin_asked_within (way.Failed key) calls = inr (job, accepted, (planned, omega (arith, calls)))
  begin_asked_within way.NoMemory calls = inr (job, accepted, (planned, omega (arith, calls)))

  -- the texts were stored, or were to be
  module _ (mid : Shown) (first : WithinCalls (begin_limits c.options c.text job).asked c.old.depot mid) (second : WithinCalls (2 * (c.options.retries + 1)) mid c.new.depot) where
    all_begun : WithinCalls (begin_limits c.options c.text job).all c.old.depot c.new.depot
    all_begun = omega (arith, first, second)

    pub begun_done_within : BeginWithin c Done
    begun_done_within = inr (job, accepted, (planned, all_begun))

    pub begun_unprinted_within : BeginWithin c WriteFault
    begun_unprinted_within = inr (job, accepted, (planned, all_begun))

    pub begun_ended_within : (s : Status) → IsTextsAnswer s → BeginWithin c s
    begun_ended_within (DepotFailed key) is = inr (job, accepted, (planned, all_begun))
    begun_ended_within NoMemory is = inr (job, accepted, (planned, all_begun))
    begun_ended_within s is = absurd is

-- ---- what was printed

pub begun_done : (c : RunCase) (job : Job) (lines : List ℕ) → TextsEnded c job (Ok tt) → lines ≡ begun_text (plan_in c job) → WroteTo c lines (length lines) → WasBegun c Done
begun_done c job lines ended is wrote = (job, ended.0, (ended.1, subst (λ (t : List ℕ). WroteTo c t (length t)) is wrote))

pub begun_unwritten : (c : RunCase) (job : Job) (lines : List ℕ) → TextsEnded c job (Ok tt) → lines ≡ begun_text (plan_in c job) → Rose 1 c.old.sink.faults c.new.sink.faults
    → ((n : ℕ) × (n ≤ length lines) × WroteTo c lines n) → WasBegun c WriteFault
begun_unwritten c job lines ended is rose wrote =
    (rose, (job, ended.0, (ended.1, subst (λ (t : List ℕ). (n : ℕ) × (n ≤ length t) × WroteTo c t n) is wrote)))
