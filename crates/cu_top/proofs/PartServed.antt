-- A part of a plan that is found again: each other answer has a cause that isn't there.
use Rattle.std.proofs.Common.{◌≡◌, ◌⊎◌, inl, inr, ℕ, ◌+◌, ◌<◌, Bool, true, false, List, Option}
use Rattle.std.proofs.Common.{Some, None, refl, sym, ap, ◌∙◌, subst, arith}
use Rattle.cu_store.specs.Faults.{Rose}
use Rattle.cu_store.specs.Held.{Contents}
use Rattle.cu_store.specs.Steps.{Shown}
use Rattle.cu_store.proofs.Steps.{steps_wider}
use Rattle.cu_name.specs.Keys.{record_key_of}
use Rattle.cu_op.specs.Cells.{tasks_of}
use Rattle.cu_op.specs.Schedule.{op_of, key_of}
use Rattle.cu_op.specs.Sound.{Sound}
use Rattle.cu_run_law.specs.Left.{RunChange}
use Rattle.cu_run_law.proofs.Keeping.{change_alone, left_alone}
use Rattle.cu_work.specs.Asked.{Asking}
use Rattle.cu_work.specs.Ended.{WasChosen, WereChosen}
use Rattle.cu_work.specs.Part.{IsInPart, IsPartOf, LacksChunk, LacksInput}
use Rattle.cu_work.specs.Tried.{IsBadOf, task_id}
use Rattle.cu_work.specs.declared.part.Part.{Part}
use Rattle.cu_work.proofs.TriedTasks.{named_below}
use Rattle.cu_command.proofs.SeenLemmas.{stepped}
use Rattle.cu_command.specs.Job.{IsJob, IsTypable, StoodStill}
use Rattle.cu_command.specs.Seen.{Stepped}
use Rattle.cu_command.specs.declared.job.Job.{Job}
use Rattle.cu_command.specs.declared.job.JobFault.TheVariants as fault
use Rattle.cu_command.specs.declared.status.Status.{Status}
use Rattle.cu_command.specs.declared.status.Status.TheVariants.{Done, BadExpr, BadType, OverMemory}
use Rattle.cu_command.specs.declared.status.Status.TheVariants.{OverLimit, BadMeta, NoArray}
use Rattle.cu_command.specs.declared.status.Status.TheVariants.{TaskFailed, ReadFault, WriteFault}
use Rattle.cu_command.specs.declared.status.Status.TheVariants.{BadChunk}
use Rattle.cu_command.specs.declared.status.Status.TheVariants.{OtherPlan, NoPlan, DepotFailed}
use Rattle.cu_command.specs.declared.status.Status.TheVariants.{NoTasks, NotReady, NoMemory}
use Rattle.cu_lower.specs.declared.options.Options.{Options}
use Rattle.cu_top.proofs.Completeness.{none_or_some, none_rose, of_that_text}
use Rattle.cu_top.proofs.PartsLemmas.{parts_run}
use Rattle.cu_top.proofs.ResumeServed.{absent_or, never_bad, never_other, never_unread, some_same}
use Rattle.cu_top.specs.Answered.{NothingFailed}
use Rattle.cu_top.specs.Complete.{HasPartReady, IsLeftRecorded, IsPartCause, IsPartReady}
use Rattle.cu_top.specs.Complete.{IsResumable, IsServed}
use Rattle.cu_top.specs.Held.{IsNotReopened}
use Rattle.cu_top.specs.Parts.{IsPartRun, PartTells, WasParted, asking_in, inner_part}
use Rattle.cu_top.specs.Prepare.{is_own_input}
use Rattle.cu_top.specs.Record.{record_text}
use Rattle.cu_top.specs.Run.{Scene, RunCase, case, plan_in, job_run, env_of}

-- the depot failed, or memory was wanted
abbrev MayFail : Status → Type 0
MayFail (DepotFailed key) = Unit {0}
MayFail NoMemory = Unit {0}
MayFail status = ⊥

own_or_not : (b : Bool) → b ≡ true → b ≡ false → ⊥
own_or_not b holds fails = cc

-- ---- a task that was chosen

module _ (s : Asking) (now : Shown) (w : WereChosen s now) (task : ℕ)
    (was : WasChosen s w.chosen task) where
  chosen_inside : IsInPart s.part task
  chosen_inside =
      let (i, is, named) = was in
      let below = named_below w.chosen i named in
      let whole = w.whole in
      (omega (arith, is), omega (arith, is, below, whole))

  chosen_lacked : LacksChunk s.plan s.part.op task s.start
  chosen_lacked =
      let (i, is, named) = was in
      subst (λ (t : ℕ). LacksChunk s.plan s.part.op t s.start) (sym is) (w.tasks.lacking i named)

-- ---- the answers

module _ (c : RunCase) (q : Part) (entry : Contents) (told : c.old.depot.held ≡ Some entry)
    (typable : IsTypable c.old.depot c.text)
    (rest : (job : Job) → IsJob c.old.depot c.text job
    → IsLeftRecorded c.options job entry c.old.depot) where
  -- the part, by the number that its operation has among all
  abbrev inner : Job → Part
  inner job = inner_part (plan_in c job) q

  -- the plan is found again
  turned : (status : Status) → IsNotReopened c status → MayFail status
  turned (DepotFailed key) why = tt
  turned NoMemory why = tt
  turned (OtherPlan place) (spared, (job, accepted, (planned, other))) =
      never_other c job entry (rest job accepted) place spared other
  turned NoPlan (spared, (job, accepted, (planned, inl none))) =
      absent_or (entry (record_key_of job.expr.store_as)) (record_text c.options job)
      (none entry told) (rest job accepted).recorded
  turned NoPlan (spared, (job, accepted, (planned, inr (own, had)))) =
      own_or_not (is_own_input job.expr) own (rest job accepted).own
  turned (BadExpr code node) why =
      never_unread c entry told typable rest (fault.Expression code node) why (λ e. cc)
      (λ key e. cc)
  turned (BadType code node) why =
      never_unread c entry told typable rest (fault.Typing code node) why (λ e. cc) (λ key e. cc)
  turned (BadMeta name code) why =
      never_unread c entry told typable rest (fault.BadMeta name code) why (λ e. cc) (λ key e. cc)
  turned (NoArray name) why =
      never_unread c entry told typable rest (fault.NoArray name) why (λ e. cc) (λ key e. cc)
  turned (OverMemory node need allowed) (spared, (job, accepted, why)) =
      none_or_some _ _ (rest job accepted).planned why
  turned (OverLimit which count) (spared, (job, accepted, why)) =
      none_or_some _ _ (rest job accepted).planned why
  turned status why = absurd why

  part_cause : (status : Status) → WasParted c q status
      → IsPartCause c.options q c.text c.old.depot status
  part_cause Done (job, parted, more) = (job, parted.reopened.accepted, parted.part)
  part_cause WriteFault (rose, (job, parted, more)) = (job, parted.reopened.accepted, parted.part)
  part_cause (NoTasks op tasks) (spared, (job, back, same, count, none)) =
      (job, back.accepted, (same, count, none))
  part_cause (NotReady op task) (spared, (job, parted, (same, (within, lacks, wants, before)))) =
      (job, parted.reopened.accepted, (same, parted.part, within, lacks, wants))
  part_cause (TaskFailed op task) (job, parted, (same, (w, was, rose))) = (
    job,
    parted.reopened.accepted,
    (
      same,
      parted.part,
      chosen_inside (asking_in c job (inner job)) c.new.depot w task was,
      chosen_lacked (asking_in c job (inner job)) c.new.depot w task was,
    ),
  )
  part_cause (BadChunk key got want) (job, parted, why) =
      (job, parted.reopened.accepted, parted.part)
  part_cause ReadFault why = tt
  part_cause (DepotFailed key) why = tt
  part_cause NoMemory why = tt
  part_cause status why = absurd (turned status why)

  module _ (ready : (job : Job) → IsJob c.old.depot c.text job
      → IsPartReady (plan_in c job) (inner job) entry)
      (depot : StoodStill c.old.depot.faults c.new.depot.faults)
      (sink : StoodStill c.old.sink.faults c.new.sink.faults) where
    no_tries : Rose (c.options.retries + 1) c.old.depot.faults c.new.depot.faults → ⊥
    no_tries rose =
        none_rose (c.options.retries + 1) c.old.depot.faults c.new.depot.faults (omega arith) depot
        rose

    -- a task that lacks a chunk has each made chunk that it reads
    never_early : (job : Job) → IsPartRun c job (inner job) → (task : ℕ) → IsInPart q task
        → LacksChunk (plan_in c job) (inner job).op task c.old.depot
        → LacksInput (plan_in c job) (inner job).op task c.old.depot → ⊥
    never_early job parted task within lacks wants =
        elim ((ready job parted.reopened.accepted).ready task within) [
          | inl stored ↦ lacks entry told stored
          | inr has ↦
              let (key, made, none) = wants entry told in
              let (bytes, is) = has key made in
              none_or_some (entry key) bytes none is
        ]

    run_step : (job : Job) → IsPartRun c job (inner job)
        → Stepped (RunChange (job_run c job) c.old.depot) c.old.depot c.new.depot
    run_step job parted =
        let sound = parted.reopened.sound in
        let runs = parts_run (job_run c job).plan sound (inner job) parted.part c.old.depot in
        let calls = parted.step.calls in
        stepped (change_alone (job_run c job) c.old.depot 0 calls c.old.depot c.new.depot
        (steps_wider runs (omega arith) (omega arith) parted.step.step))

    -- a chunk that a task of the part reads isn't bad
    never_spoilt : (job : Job) → IsPartRun c job (inner job) → (key : List ℕ) (got want task : ℕ)
        → IsInPart q task
        → IsBadOf (plan_in c job) (task_id (inner job).op task) (c.old.depot, c.new.depot) key got want
        → ⊥
    never_spoilt job parted key got want task within (bad, input) =
        let back = parted.reopened in
        let left = (rest job back.accepted).left in
        let same : left.held ≡ entry = some_same left.held entry (sym left.told ∙ told) in
        let few = parted.part.few in
        let below = within.1 in
        never_bad c job entry told back.sound back.apart (run_step job parted)
        (λ k bytes chunk among.
        ap (λ (h : Contents). h (key_of (plan_in c job).arrays k)) (sym same)
        ∙ left.quiet.inputs k bytes chunk among)
        key got want (inner job).op task parted.part.operation (omega (arith, few, below)) bad
        (λ k listed chunk bytes is.
        (ready job back.accepted).whole task k bytes within listed chunk is)
        (input (env_of c job entry)
        (left_alone (job_run c job) (env_of c job entry) c.old.depot left))

    part_served : (status : Status) → WasParted c q status → IsServed status
    part_served Done why = tt
    part_served NoMemory why = tt
    part_served WriteFault why =
        none_rose 1 c.old.sink.faults c.new.sink.faults (omega arith) sink why.0
    part_served (NoTasks op tasks) (spared, (job, back, same, count, none)) =
        none (ready job back.accepted).part
    part_served (NotReady op task) (spared, (job, parted, (same, (within, lacks, wants, before)))) =
        never_early job parted task within lacks wants
    part_served (TaskFailed op task) (job, parted, (same, (w, was, rose))) =
        let earlier = w.first.count in
        no_tries (omega (arith, rose, earlier))
    part_served (BadChunk key got want) (job, parted, (w, task, was, bad)) =
        never_spoilt job parted key got want task
        (chosen_inside (asking_in c job (inner job)) c.new.depot w task was) bad
    part_served (DepotFailed key) (inl why) = no_tries why.0
    part_served (DepotFailed key) (inr (spared, (job, parted, why))) = no_tries why.0
    part_served status why = absurd (turned status why)

-- ---- the call

module _ (options : Options) (q : Part) (left : List ℕ) (entry : Contents) (old new : Scene)
    (told_left : old.source.told ≡ Some left) (told : old.depot.held ≡ Some entry)
    (premise : IsResumable options left entry old.depot) where
  -- a part of a plan that is found again fails by these causes alone
  pub part_caused : (status : Status) → PartTells options q old new status
      → IsPartCause options q left old.depot status
  part_caused ReadFault tells = tt
  part_caused NoMemory tells = tt
  part_caused status tells =
      part_cause (case options left old new) q entry told premise.typable premise.rest status
      (of_that_text options left old new told_left premise.typable (λ c. WasParted c q status)
      tells)

  module _ (ready : HasPartReady options q left entry old.depot) (still : NothingFailed old new)
    where
      -- where nothing fails, it is done, or memory is wanted
      pub part_done : (status : Status) → PartTells options q old new status → IsServed status
      part_done ReadFault tells =
          none_rose 1 old.source.faults new.source.faults (omega arith) still.source tells.0
      part_done NoMemory tells = tt
      part_done status tells =
          part_served (case options left old new) q entry told premise.typable premise.rest ready
          still.depot still.sink status
          (of_that_text options left old new told_left premise.typable
          (λ c. WasParted c q status) tells)
