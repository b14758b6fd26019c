-- The calls of the commands that run tasks or remove keys, from the calls of their parts.
use Rattle.std.proofs.Common.{◌≡◌, inl, inr, ℕ, ◌+◌, ◌*◌, ◌≤◌, [], ◌∷◌, List, Result, Ok, Err, length, length-append, ap, subst, arith}
use Rattle.std.specs.Prelude.{IfOk}
use Rattle.cu_store.specs.Steps.{Shown, OnceEach}
use Rattle.cu_store.proofs.Once.{once_few}
use Rattle.cu_history.specs.declared.entry.Entry.{Entry}
use Rattle.cu_op.specs.PlanView.{PlanView}
use Rattle.cu_command.specs.Seen.{WithinCalls}
use Rattle.cu_command.specs.declared.job.Job.{Job}
use Rattle.cu_command.specs.declared.status.Status.{Status}
use Rattle.cu_command.specs.declared.status.Status.TheVariants.{Done, TaskFailed, Exists, NoPlan, OtherPlan, WriteFault, BadChunk, DepotFailed, NoMemory}
use Rattle.cu_lower.specs.declared.options.Options.{Options}
use Rattle.cu_work.specs.Calls.{missing_texts}
use Rattle.cu_work.specs.Order.{plan_keys}
use Rattle.cu_work.specs.Removal.{removed_keys}
use Rattle.cu_work.specs.Starts.{WithinHistory}
use Rattle.cu_work.specs.declared.removal.RemoveFault.{RemoveFault}
use Rattle.cu_work.specs.declared.removal.RemoveFault.TheVariants as remove
use Rattle.cu_work.specs.declared.run.HeldTexts.{HeldTexts}
use Rattle.cu_work.specs.declared.run.HeldTexts.TheVariants.{Neither, Record, Both}
use Rattle.cu_work.specs.declared.way.WayFault.{WayFault}
use Rattle.cu_work.specs.declared.way.WayFault.TheVariants as way
use Rattle.cu_top.specs.Ask.{answer_of}
use Rattle.cu_top.specs.Calls.{CallLimits, BegunWithin, CallsWithin, TextWithin, run_limits, RunWithin, resume_limits, ResumeWithin, drop_limits, DropWithin, DriveWithin, GoneOnWithin, IsRecordAnswer, ReopenWithin}
use Rattle.cu_top.specs.Drop.{remove_answer}
use Rattle.cu_top.specs.Held.{record_answer}
use Rattle.cu_top.specs.Limits.{plan_calls, task_calls, WithinStarts}
use Rattle.cu_top.specs.Prepare.{job_plan, asked_keys, keys_of, HasPlan}
use Rattle.cu_top.specs.Resume.{HasRecord, IsRestFault}
use Rattle.cu_top.specs.Run.{RunCase, IsAccepted}
use Rattle.cu_top.specs.declared.held.RecordFault.{RecordFault}
use Rattle.cu_top.specs.declared.report.RunCounts.{RunCounts}
use Rattle.cu_top.specs.declared.held.RecordFault.TheVariants as held

-- what follows of each value follows of an answer
pub if_ok : {T E : Type 0} {P Q : T → Type 0} (r : Result T E) → ((x : T) → P x → Q x) → IfOk r P → IfOk r Q
if_ok (Ok x) more fact = more x fact
if_ok (Err e) more fact = tt

-- ---- limits that grow

-- some calls came before
pub begun_then : (k begun all more most : ℕ) (a b c : Shown) → WithinCalls k a b → k + begun ≤ more → k + all ≤ most → (s : Status)
    → BegunWithin begun all b c s → BegunWithin more most a c s
begun_then k begun all more most a b c first small large (DepotFailed key) calls = omega (arith, first, small, calls)
begun_then k begun all more most a b c first small large Done calls = omega (arith, first, large, calls)
begun_then k begun all more most a b c first small large WriteFault calls = omega (arith, first, large, calls)
begun_then k begun all more most a b c first small large (TaskFailed op task) calls = omega (arith, first, large, calls)
begun_then k begun all more most a b c first small large (BadChunk key got want) calls = omega (arith, first, large, calls)
begun_then k begun all more most a b c first small large NoMemory calls = omega (arith, first, large, calls)
begun_then k begun all more most a b c first small large status calls = absurd calls

-- the same of the calls by starts
pub starts_then : (k begun more : ℕ) (p : PlanView) (n : RunCounts) (a b c : Shown) → WithinCalls k a b → k + begun ≤ more → WithinStarts begun p n b c
    → WithinStarts more p n a c
starts_then k begun more p n a b c first small calls = λ m task. sum_calls k begun more (n.starts * m) a.calls b.calls c.calls first small (calls m task)
  where
    sum_calls : (k begun more x a b c : ℕ) → b ≤ a + k → k + begun ≤ more → c ≤ b + (begun + x) → c ≤ a + (more + x)
    sum_calls k begun more x a b c first small rest = omega (arith, first, small, rest)

-- some calls came behind
pub starts_before : (begun more k : ℕ) (p : PlanView) (n : RunCounts) (a b c : Shown) → WithinStarts begun p n a b → WithinCalls k b c → begun + k ≤ more
    → WithinStarts more p n a c
starts_before begun more k p n a b c calls last small = λ m task. sum_calls begun more k (n.starts * m) a.calls b.calls c.calls (calls m task) last small
  where
    sum_calls : (begun more k x a b c : ℕ) → b ≤ a + (begun + x) → c ≤ b + k → begun + k ≤ more → c ≤ a + (more + x)
    sum_calls begun more k x a b c first last small = omega (arith, first, last, small)

-- the same of a history: some calls came behind
pub once_behind : (j k : ℕ) (p : PlanView) (history : List Entry) (a b c : Shown) → WithinHistory j p history a b → OnceEach k b c → WithinHistory (j + k) p history a c
once_behind j k p history a b c run last = omega (arith, run, last)

-- more keys
pub more_keys : (j k : ℕ) (p : PlanView) (history : List Entry) (a b : Shown) → j ≤ k → WithinHistory j p history a b → WithinHistory k p history a b
more_keys j k p history a b few run = omega (arith, few, run)

-- a command that came to its tasks
pub begun_within : (most : CallLimits) (old new : Shown) (s : Status) → BegunWithin most.begun most.all old new s → CallsWithin most old new s
begun_within most old new (Exists key) calls = absurd calls
begun_within most old new NoPlan calls = absurd calls
begun_within most old new (OtherPlan place) calls = absurd calls
begun_within most old new status calls = calls

-- ---- a run

-- the keys that a run asks for, each once
pub asked_once : (o : Options) (job : Job) (p : PlanView) (old new : Shown) → p ≡ job_plan o job
    → OnceEach (3 + length (plan_keys p (length p.ops))) old new → OnceEach (length (asked_keys o job)) old new
asked_once o job p old new same once =
    once_few (3 + length (plan_keys (job_plan o job) (length (job_plan o job).ops))) (length (asked_keys o job)) old new (omega arith)
    (subst (λ (q : PlanView). OnceEach (3 + length (plan_keys q (length q.ops))) old new) same once)

-- the keys that a run asks for
pub asked_all : (o : Options) (job : Job) (p : PlanView) (tries : ℕ) (old new : Shown) → p ≡ job_plan o job
    → WithinCalls (tries * (3 + length (plan_keys p (length p.ops)))) old new → WithinCalls (length (asked_keys o job) * tries) old new
asked_all o job p tries old new same calls =
    let few = subst (λ (q : PlanView). WithinCalls (tries * (3 + length (plan_keys q (length q.ops)))) old new) same calls in
    omega (arith, few)

module _ (c : RunCase) (job : Job) (accepted : IsAccepted c job) (planned : HasPlan c.options job) where
  -- asking for the keys ended
  pub asked_within : (fault : WayFault) → WithinCalls (run_limits c.options c.text job).asked c.old.depot c.new.depot → RunWithin c (answer_of fault)
  asked_within (way.Held key) calls = inr (job, accepted, (planned, calls))
  asked_within (way.Failed key) calls = inr (job, accepted, (planned, omega (arith, calls)))
  asked_within way.NoMemory calls = inr (job, accepted, (planned, omega (arith, calls)))

  -- the tasks were run, or were to be
  pub run_within : (mid : Shown) → WithinCalls (run_limits c.options c.text job).asked c.old.depot mid → (s : Status) → DriveWithin c.options job Neither mid c.new.depot s → RunWithin c s
  run_within mid first s calls =
      let tries = c.options.retries + 1 in
      let most = run_limits c.options c.text job in
      inr (
        job,
        accepted,
        (
          planned,
          begun_within most c.old.depot c.new.depot s
              (begun_then most.asked ((2 + 1) * tries) ((2 + 1) * tries + task_calls c.options job) most.begun most.all c.old.depot mid c.new.depot first (omega arith) (omega arith) s calls),
        ),
      )

-- ---- a plan that is found again

record_within : (k : ℕ) (most : CallLimits) (old new : Shown) → k ≤ most.asked → k ≤ most.begun → k ≤ most.all → WithinCalls k old new → (s : Status) → IsRecordAnswer s
    → CallsWithin most old new s
record_within k most old new asked begun all calls NoPlan is = omega (arith, asked, calls)
record_within k most old new asked begun all calls (OtherPlan place) is = omega (arith, asked, calls)
record_within k most old new asked begun all calls (DepotFailed key) is = omega (arith, begun, calls)
record_within k most old new asked begun all calls NoMemory is = omega (arith, all, calls)
record_within k most old new asked begun all calls status is = absurd is

module _ (c : RunCase) where
  -- the calls of planning, and for the record
  abbrev reopening : ℕ
  reopening = plan_calls (c.options.retries + 1) c.text + (c.options.retries + 1)

  -- it wasn't
  pub unfound_within : (job : Job) → IsAccepted c job → HasPlan c.options job → (key : List ℕ) (fault : RecordFault) → WithinCalls reopening c.old.depot c.new.depot → ReopenWithin c (record_answer key fault)
  unfound_within job accepted planned key held.Absent calls = inr (job, accepted, (planned, (tt, calls)))
  unfound_within job accepted planned key (held.Other place) calls = inr (job, accepted, (planned, (tt, calls)))
  unfound_within job accepted planned key held.Failed calls = inr (job, accepted, (planned, (tt, calls)))
  unfound_within job accepted planned key held.NoMemory calls = inr (job, accepted, (planned, (tt, calls)))

  refused_within : (limits : Job → CallLimits) → ((job : Job) → reopening ≤ (limits job).asked) → ((job : Job) → reopening ≤ (limits job).begun) → ((job : Job) → reopening ≤ (limits job).all)
      → (s : Status) → ReopenWithin c s → TextWithin limits c s
  refused_within limits asked begun all s (inl calls) = inl calls
  refused_within limits asked begun all s (inr (job, accepted, (planned, (is, calls)))) =
      inr (job, accepted, (planned, record_within reopening (limits job) c.old.depot c.new.depot (asked job) (begun job) (all job) calls s is))

  pub resume_refused : (s : Status) → ReopenWithin c s → ResumeWithin c s
  resume_refused = refused_within (resume_limits c.options c.text) (λ job. omega arith) (λ job. omega arith) (λ job. omega arith)

  pub drop_refused : (s : Status) → ReopenWithin c s → DropWithin c s
  drop_refused = refused_within (drop_limits c.options c.text) (λ job. omega arith) (λ job. omega arith) (λ job. omega arith)

-- ---- a run that goes on

-- what is left to do wasn't found
pub rest_stopped : (o : Options) (job : Job) (p : PlanView) (keys : List (List ℕ)) (old new : Shown) → p ≡ job_plan o job
    → WithinCalls ((1 + length (plan_keys p (length p.ops))) * (o.retries + 1)) old new → (s : Status) → IsRestFault (o.retries + 1) keys (old, new) s → GoneOnWithin o job old new s
rest_stopped o job p keys old new same calls s why = few s why
  where
    asked : WithinCalls ((1 + length (plan_keys (job_plan o job) (length (job_plan o job).ops))) * (o.retries + 1)) old new
    asked = subst (λ (q : PlanView). WithinCalls ((1 + length (plan_keys q (length q.ops))) * (o.retries + 1)) old new) same calls

    few : (s : Status) → IsRestFault (o.retries + 1) keys (old, new) s → GoneOnWithin o job old new s
    few (DepotFailed key) why = omega (arith, asked)
    few NoMemory why = omega (arith, asked)
    few status why = absurd why

-- it was found, and the tasks were run, or were to be
pub rest_driven : (o : Options) (job : Job) (p : PlanView) (a b c : Shown) → p ≡ job_plan o job → WithinCalls ((1 + length (plan_keys p (length p.ops))) * (o.retries + 1)) a b
    → (held : HeldTexts) → HasRecord held → (s : Status) → DriveWithin o job held b c s → GoneOnWithin o job a c s
rest_driven o job p a b c same calls held has s driven = go held has driven
  where
    asked : WithinCalls ((1 + length (plan_keys (job_plan o job) (length (job_plan o job).ops))) * (o.retries + 1)) a b
    asked = subst (λ (q : PlanView). WithinCalls ((1 + length (plan_keys q (length q.ops))) * (o.retries + 1)) a b) same calls

    go : (held : HeldTexts) → HasRecord held → DriveWithin o job held b c s → GoneOnWithin o job a c s
    go Neither has driven = absurd has
    go Record has driven =
        begun_then ((1 + length (plan_keys (job_plan o job) (length (job_plan o job).ops))) * (o.retries + 1)) ((1 + 1) * (o.retries + 1)) ((1 + 1) * (o.retries + 1) + task_calls o job)
        ((length (keys_of o job) + 1) * (o.retries + 1)) ((length (keys_of o job) + 1) * (o.retries + 1) + task_calls o job) a b c asked (omega arith) (omega arith) s driven
    go Both has driven =
        begun_then ((1 + length (plan_keys (job_plan o job) (length (job_plan o job).ops))) * (o.retries + 1)) ((0 + 1) * (o.retries + 1)) ((0 + 1) * (o.retries + 1) + task_calls o job)
        ((length (keys_of o job) + 1) * (o.retries + 1)) ((length (keys_of o job) + 1) * (o.retries + 1) + task_calls o job) a b c asked (omega arith) (omega arith) s driven

-- the same by starts
pub rest_starts : (o : Options) (job : Job) (p : PlanView) (n : RunCounts) (a b c : Shown) → p ≡ job_plan o job → WithinCalls ((1 + length (plan_keys p (length p.ops))) * (o.retries + 1)) a b
    → (held : HeldTexts) → HasRecord held → WithinStarts ((missing_texts held + 1) * (o.retries + 1)) (job_plan o job) n b c
    → WithinStarts ((length (keys_of o job) + 1) * (o.retries + 1)) (job_plan o job) n a c
rest_starts o job p n a b c same calls held has driven = go held has driven
  where
    asked : WithinCalls ((1 + length (plan_keys (job_plan o job) (length (job_plan o job).ops))) * (o.retries + 1)) a b
    asked = subst (λ (q : PlanView). WithinCalls ((1 + length (plan_keys q (length q.ops))) * (o.retries + 1)) a b) same calls

    go : (held : HeldTexts) → HasRecord held → WithinStarts ((missing_texts held + 1) * (o.retries + 1)) (job_plan o job) n b c
        → WithinStarts ((length (keys_of o job) + 1) * (o.retries + 1)) (job_plan o job) n a c
    go Neither has driven = absurd has
    go Record has driven =
        starts_then ((1 + length (plan_keys (job_plan o job) (length (job_plan o job).ops))) * (o.retries + 1)) ((1 + 1) * (o.retries + 1)) ((length (keys_of o job) + 1) * (o.retries + 1))
        (job_plan o job) n a b c asked (omega arith) driven
    go Both has driven =
        starts_then ((1 + length (plan_keys (job_plan o job) (length (job_plan o job).ops))) * (o.retries + 1)) ((0 + 1) * (o.retries + 1)) ((length (keys_of o job) + 1) * (o.retries + 1))
        (job_plan o job) n a b c asked (omega arith) driven

module _ (c : RunCase) (job : Job) (accepted : IsAccepted c job) (planned : HasPlan c.options job) (mid : Shown) (first : WithinCalls (reopening c) c.old.depot mid) where
  pub resume_within : (s : Status) → GoneOnWithin c.options job mid c.new.depot s → ResumeWithin c s
  resume_within s calls =
      let tries = c.options.retries + 1 in
      let most = resume_limits c.options c.text job in
      inr (
        job,
        accepted,
        (
          planned,
          begun_within most c.old.depot c.new.depot s
              (begun_then (reopening c) ((length (keys_of c.options job) + 1) * tries) ((length (keys_of c.options job) + 1) * tries + task_calls c.options job)
              most.begun most.all c.old.depot mid c.new.depot first (omega arith) (omega arith) s calls),
        ),
      )

  -- ---- a removal

  module _ (p : PlanView) (the_record metadata : List ℕ) (same : p ≡ job_plan c.options job)
      (calls : WithinCalls ((c.options.retries + 1) * length (removed_keys p the_record metadata)) mid c.new.depot) where
    all_calls : WithinCalls (drop_limits c.options c.text job).all c.old.depot c.new.depot
    all_calls =
        let long = length-append (metadata ∷ plan_keys (job_plan c.options job) (length (job_plan c.options job).ops)) (the_record ∷ []) in
        let keys = ap (λ (n : ℕ). (c.options.retries + 1) * n) long in
        let few = subst (λ (q : PlanView). WithinCalls ((c.options.retries + 1) * length (removed_keys q the_record metadata)) mid c.new.depot) same calls in
        omega (arith, first, few, keys)

    pub drop_done_within : DropWithin c Done
    drop_done_within = inr (job, accepted, (planned, all_calls))

    pub drop_unreported_within : DropWithin c WriteFault
    drop_unreported_within = inr (job, accepted, (planned, all_calls))

    pub drop_ended_within : (fault : RemoveFault) → DropWithin c (remove_answer fault)
    drop_ended_within (remove.Failed key) = inr (job, accepted, (planned, all_calls))
    drop_ended_within remove.NoMemory = inr (job, accepted, (planned, all_calls))
