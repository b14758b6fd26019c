-- What a part of a plan comes to that was found again.
use Rattle.std.proofs.Common.{◌≡◌, ◌⊎◌, inl, inr, ap, ℕ, ◌+◌, ◌*◌, ◌<◌, ◌≤◌, Bool, List, length, All, Option, Some, None, Result, Ok, Err, refl, sym, ◌∙◌, subst, arith}
use Rattle.std.proofs.lemmas.List.Elements.{All-weaker}
use Rattle.cu_store.specs.Faults.{last_count, Rose}
use Rattle.cu_store.specs.Held.{Contents, IsHeldIn}
use Rattle.cu_store.specs.Steps.{Shown, NoChange, Steps, Within}
use Rattle.cu_store.proofs.Steps.{steps_none, steps_then, steps_wider}
use Rattle.cu_name.specs.Keys.{record_key_of}
use Rattle.cu_op.specs.PlanView.{PlanView}
use Rattle.cu_op.specs.Within.{listed_number}
use Rattle.cu_op.specs.Sound.{Sound}
use Rattle.cu_op.specs.Elements.{Elements}
use Rattle.cu_run_law.specs.Left.{IsLeft, RunChange}
use Rattle.cu_run_law.specs.Pieces.{Text, HoldsPiece, chunks_alone}
use Rattle.cu_run_law.proofs.Keeping.{begun_since, change_alone, left_kept, piece_stays}
use Rattle.cu_work.specs.Asked.{asking_of, IsSoughtInput, IsUnstarted, own_chunks}
use Rattle.cu_work.specs.Ended.{HasCalled, IsPartDone, IsPartEnd, IsPartFault, WereChosen, count_of_part}
use Rattle.cu_work.specs.Part.{IsPartOf, LacksChunk, PartPut}
use Rattle.cu_work.specs.Tried.{chosen_calls}
use Rattle.cu_work.specs.declared.part.Part.{Part}
use Rattle.cu_work.specs.declared.part.PartCounts.{PartCounts}
use Rattle.cu_work.specs.declared.part.PartFault.{PartFault}
use Rattle.cu_work.specs.declared.part.PartFault.TheVariants as fault
use Rattle.cu_work.proofs.AskedKeys.{lacks_chunk_before, lacks_input_before, steps_ever}
use Rattle.cu_work.proofs.TriedTasks.{put_runs}
use Rattle.cu_command.specs.Seen.{Stepped, WithinCalls}
use Rattle.cu_command.proofs.SeenLemmas.{stepped, stepped_then, stepped_wider, stepped_none}
use Rattle.cu_command.specs.declared.job.Job.{Job}
use Rattle.cu_command.specs.declared.status.Status.{Status}
use Rattle.cu_command.specs.declared.status.Status.TheVariants.{Done, TaskFailed, WriteFault, BadChunk, OtherPlan, NoPlan, DepotFailed, NoTasks, NotReady, NoMemory}
use Rattle.cu_top.specs.Calls.{ReopenWithin}
use Rattle.cu_top.specs.Held.{IsNotReopened, IsReopened, WhereEntryTold}
use Rattle.cu_top.specs.Parts.{IsPartRun, PartCalled, PartWithin, WasParted, WithinRecord, inner_number, inner_part, part_fault_answer, part_line, asking_in, tasks_at}
use Rattle.cu_top.specs.Planned.{plan_calls}
use Rattle.cu_top.specs.Run.{RunCase, plan_in, job_run, env_of, IsSpared, WroteTo}
use Rattle.cu_top.proofs.DriveLemmas.{PlanLaws, kept}
use Rattle.cu_top.proofs.InnerNumbers.{number_of}
use Rattle.cu_top.proofs.ReopenLemmas.{text_held}

-- ---- from where the part begins back to where the command did

module _ (p : PlanView) (q : Part) (tries : ℕ) (old mid : Shown) (spared : Stepped NoChange old mid) where
  lacks_old : (k task : ℕ) → LacksChunk p k task mid → LacksChunk p k task old
  lacks_old k task lacks = lacks_chunk_before p k task 0 spared.calls old mid spared.step lacks

  left_mid : (env : Elements) → IsLeft (chunks_alone p) env old → IsLeft (chunks_alone p) env mid
  left_mid env left = left_kept (chunks_alone p) env old left 0 spared.calls mid (steps_none spared.step)

  sought_old : (key : List ℕ) → IsSoughtInput (asking_of p q tries mid) key → IsSoughtInput (asking_of p q tries old) key
  sought_old key (task, within, lacks, made) = (task, within, lacks_old q.op task lacks, made)

  put_old : Within (PartPut p q mid) (PartPut p q old)
  put_old key value (task, within, lacks, (c, bytes, listed, at, is, valued)) =
      (task, within, lacks_old q.op task lacks, (c, bytes, listed, at, is, λ env left. valued env (left_mid env left)))

  module _ (new : Shown) where
    rose_old : (n : ℕ) → Rose n mid.faults new.faults → Rose n old.faults new.faults
    rose_old n rose = let earlier = spared.step.count in omega (arith, rose, earlier)

    step_old : Steps NoChange 0 last_count mid new → Steps NoChange 0 last_count old new
    step_old step = steps_ever NoChange 0 (spared.calls + last_count) old new (steps_then spared.step step)

    unstarted_old : (f : PartFault) → IsUnstarted (asking_of p q tries mid) new f → IsUnstarted (asking_of p q tries old) new f
    unstarted_old (fault.Failed key) (rose, inl own) = (rose_old tries rose, inl own)
    unstarted_old (fault.Failed key) (rose, inr sought) = (rose_old tries rose, inr (sought_old key sought))
    unstarted_old (fault.NotReady task) (within, lacks, wants, ready) =
        (within, lacks_old q.op task lacks, lacks_input_before p q.op task 0 spared.calls old mid spared.step wants, ready)
    unstarted_old fault.NoMemory why = tt
    unstarted_old (fault.Broken task) why = absurd why
    unstarted_old (fault.BadChunk key got want) why = absurd why

    abbrev chosen_old : WereChosen (asking_of p q tries mid) new → WereChosen (asking_of p q tries old) new
    chosen_old w =
        let own = own_chunks p q (count_of_part q) in
        let first : Steps NoChange own (spared.calls + last_count) old w.asked = steps_wider (λ key value change. change) (omega arith) (omega arith) (steps_then spared.step w.first) in
        record {
          asked = w.asked;
          first = steps_ever NoChange own (spared.calls + last_count) old w.asked first;
          chosen = w.chosen;
          whole = w.whole;
          tasks = record { lacking = λ i named. lacks_old q.op (q.from + i) (w.tasks.lacking i named); ready = w.tasks.ready; stored = w.tasks.stored };
          later = w.later;
        }

    fault_old : (f : PartFault) → IsPartFault (asking_of p q tries mid) new f → IsPartFault (asking_of p q tries old) new f
    fault_old (fault.Failed key) (why, step) = (unstarted_old (fault.Failed key) why, step_old step)
    fault_old (fault.NotReady task) (why, step) = (unstarted_old (fault.NotReady task) why, step_old step)
    fault_old (fault.Broken task) (w, was, rose) = (chosen_old w, was, rose)
    fault_old (fault.BadChunk key got want) (w, task, was, (bad, input)) = (chosen_old w, task, was, (bad, λ env left. input env (left_mid env left)))
    fault_old fault.NoMemory (inl step) = inl (step_old step)
    fault_old fault.NoMemory (inr lacks) = inr lacks

    done_old : (n : PartCounts) → IsPartDone (asking_of p q tries mid) new n → IsPartDone (asking_of p q tries old) new n
    done_old n d = record {
      choice = chosen_old d.choice;
      starts = d.starts;
      held = λ env task left within. d.held env task (left_mid env left) within;
    }

    end_old : (result : Result PartCounts PartFault) → IsPartEnd (asking_of p q tries mid) new result → IsPartEnd (asking_of p q tries old) new result
    end_old (Ok n) done = done_old n done
    end_old (Err f) why = fault_old f why

-- ---- what it comes to

-- the clauses of running a part of a plan
pub record PartTold (p : PlanView) (q : Part) (tries : ℕ) (old new : Shown) (result : Result PartCounts PartFault) : Type 0 where
  pub part : IsPartOf p q
  pub end : IsPartEnd (asking_of p q tries old) new result
  pub step : Steps (PartPut p q old) 0 last_count old new
  pub calls : HasCalled (asking_of p q tries old) new

-- the same of the plan and the numbers that these are
pub part_told : (p r : PlanView) (own q : Part) (tries : ℕ) (old new : Shown) (result : Result PartCounts PartFault) → p ≡ r → own ≡ q → IsPartOf p own
    → IsPartEnd (asking_of p own tries old) new result → Steps (PartPut p own old) 0 last_count old new → HasCalled (asking_of p own tries old) new → PartTold r q tries old new result
part_told p r own q tries old new result same is part ended step calls =
    let told : PartTold p own tries old new result = record { part = part; end = ended; step = step; calls = calls } in
    subst (λ (x : PlanView). PartTold x q tries old new result) same (subst (λ (y : Part). PartTold p y tries old new result) is told)

module _ (p : PlanView) (sound : Sound p) (q : Part) (part : IsPartOf p q) (first : Shown) where
  pub parts_run : Within (PartPut p q first) (RunChange (chunks_alone p) first)
  parts_run key value (task, within, lacks, put) =
      let few = part.few in
      let below = within.1 in
      put_runs p sound q.op task part.operation (omega (arith, few, below)) first key value put

module _ (c : RunCase) (job : Job) (laws : PlanLaws c job) (mid : Shown) (spared : Stepped NoChange c.old.depot mid) (back : IsReopened c job)
    (opens_at : WhereEntryTold c job (λ env. IsLeft (job_run c job) env c.old.depot)) (known : IsHeldIn mid.held (record_key_of job.expr.store_as))
    (given : Part) (result : Result PartCounts PartFault) (told : PartTold (plan_in c job) (inner_part (plan_in c job) given) (c.options.retries + 1) mid c.new.depot result) where
  -- the part, by the number that its operation has among all
  abbrev q : Part
  q = inner_part (plan_in c job) given

  run_change : Steps (RunChange (job_run c job) mid) 0 last_count mid c.new.depot
  run_change =
      change_alone (job_run c job) mid 0 last_count mid c.new.depot
      (steps_wider (parts_run (plan_in c job) laws.sound q told.part mid) (omega arith) (omega arith) told.step)

  left_now : WhereEntryTold c job (λ env. IsLeft (job_run c job) env mid)
  left_now entry there = kept c job laws mid spared (env_of c job entry) (opens_at entry there)

  is_parted : IsPartRun c job q
  is_parted = record {
    reopened = back;
    part = told.part;
    opens = opens_at;
    step = stepped_then (stepped_none spared) (stepped_wider (put_old (plan_in c job) q (c.options.retries + 1) c.old.depot mid spared) (stepped told.step));
    left = λ entry there.
        let env = env_of c job entry in
        let left = left_now entry there in
        left_kept (job_run c job) env mid left 0 last_count c.new.depot (begun_since (job_run c job) env mid left 0 last_count c.new.depot run_change);
    recorded = λ entry there.
        let env = env_of c job entry in
        let left = left_now entry there in
        piece_stays (job_run c job) env mid left 0 last_count c.new.depot (begun_since (job_run c job) env mid left 0 last_count c.new.depot run_change) (Text 0) (omega arith)
        (text_held (job_run c job) env mid left (omega arith) known);
  }

  ends : IsPartEnd (asking_in c job q) c.new.depot result
  ends = end_old (plan_in c job) q (c.options.retries + 1) c.old.depot mid spared c.new.depot result told.end

  pub parted_done : (n : PartCounts) → result ≡ Ok n → WroteTo c (part_line (plan_in c job) q n) (length (part_line (plan_in c job) q n)) → WasParted c given Done
  parted_done n is wrote = (job, is_parted, (n, subst (IsPartEnd (asking_in c job q) c.new.depot) is ends, wrote))

  pub parted_unreported : (n : PartCounts) → result ≡ Ok n → Rose 1 c.old.sink.faults c.new.sink.faults
      → ((k : ℕ) × (k ≤ length (part_line (plan_in c job) q n)) × WroteTo c (part_line (plan_in c job) q n) k) → WasParted c given WriteFault
  parted_unreported n is rose wrote = (rose, (job, is_parted, (n, subst (IsPartEnd (asking_in c job q) c.new.depot) is ends, wrote)))

  by_fault : (f : PartFault) → IsPartFault (asking_in c job q) c.new.depot f → WasParted c given (part_fault_answer given.op f)
  by_fault (fault.Failed key) (why, step) = inr (stepped step, (job, is_parted, why))
  by_fault (fault.NotReady task) (why, step) = (stepped step, (job, is_parted, (refl, why)))
  by_fault (fault.Broken task) why = (job, is_parted, (refl, why))
  by_fault (fault.BadChunk key got want) why = (job, is_parted, why)
  by_fault fault.NoMemory (inl step) = inl (stepped step)
  by_fault fault.NoMemory (inr lacks) = inr (job, is_parted, lacks)

  pub parted_ended : (f : PartFault) → result ≡ Err f → WasParted c given (part_fault_answer given.op f)
  parted_ended f is = by_fault f (subst (IsPartEnd (asking_in c job q) c.new.depot) is ends)

  -- ---- calls

  part_called : WithinCalls (plan_calls (c.options.retries + 1) c.text + (c.options.retries + 1)) c.old.depot mid → PartCalled c job q
  part_called first = record {
    inputs = told.calls.inputs;
    chosen = told.calls.chosen;
    differ = told.calls.differ;
    sought = All-weaker (IsSoughtInput (asking_of (plan_in c job) q (c.options.retries + 1) mid)) (IsSoughtInput (asking_in c job q))
        (sought_old (plan_in c job) q (c.options.retries + 1) c.old.depot mid spared) told.calls.inputs told.calls.sought;
    lacking = λ i named. lacks_old (plan_in c job) q (c.options.retries + 1) c.old.depot mid spared q.op (q.from + i) (told.calls.lacking i named);
    calls = let more = told.calls.calls in omega (arith, first, more);
  }

  pub parted_within_done : WithinCalls (plan_calls (c.options.retries + 1) c.text + (c.options.retries + 1)) c.old.depot mid → PartWithin c given Done
  parted_within_done first = inr (job, back.accepted, (back.planned, inr (part_called first)))

  pub parted_within_unreported : WithinCalls (plan_calls (c.options.retries + 1) c.text + (c.options.retries + 1)) c.old.depot mid → PartWithin c given WriteFault
  parted_within_unreported first = inr (job, back.accepted, (back.planned, inr (part_called first)))

  pub parted_within_ended : WithinCalls (plan_calls (c.options.retries + 1) c.text + (c.options.retries + 1)) c.old.depot mid → (f : PartFault) → PartWithin c given (part_fault_answer given.op f)
  parted_within_ended first (fault.Failed key) = inr (job, back.accepted, (back.planned, inr (part_called first)))
  parted_within_ended first (fault.NotReady task) = inr (job, back.accepted, (back.planned, inr (part_called first)))
  parted_within_ended first (fault.Broken task) = inr (job, back.accepted, (back.planned, inr (part_called first)))
  parted_within_ended first (fault.BadChunk key got want) = inr (job, back.accepted, (back.planned, inr (part_called first)))
  parted_within_ended first fault.NoMemory = inr (job, back.accepted, (back.planned, inr (part_called first)))

-- ---- the numbers of a part

module _ (p r : PlanView) (own given : Part) (same : p ≡ r) where
  -- where the plan has a part, the number that was given is that of its operation among those whose results are stored
  pub own_number : own ≡ inner_part r given → IsPartOf p own → listed_number p own.op ≡ given.op
  own_number is part =
      let part_of : IsPartOf r (inner_part r given) = subst (λ (x : PlanView). IsPartOf x (inner_part r given)) same (subst (IsPartOf p) is part) in
      ap (λ (q : Part). listed_number p q.op) is ∙ ap (λ (x : PlanView). listed_number x (inner_number r given.op)) same
      ∙ (number_of r given.op part_of.operation).0

  module _ (is : own ≡ inner_part p given) where
    pub no_part_of : (IsPartOf p own → ⊥) → IsPartOf r (inner_part r given) → ⊥
    no_part_of none =
        subst (λ (x : PlanView). IsPartOf x (inner_part x given) → ⊥) same
        (subst (λ (q : Part). IsPartOf p q → ⊥) is none)

    pub tasks_inner : tasks_at p own.op ≡ tasks_at r (inner_number r given.op)
    tasks_inner = ap (λ (q : Part). tasks_at p q.op) is ∙ ap (λ (x : PlanView). tasks_at x (inner_number x given.op)) same

-- ---- a part that isn't one of the plan, and a plan that isn't found again

pub no_part : (c : RunCase) (job : Job) (q : Part) → IsSpared c → IsReopened c job → (IsPartOf (plan_in c job) (inner_part (plan_in c job) q) → ⊥)
    → WasParted c q (NoTasks q.op (tasks_at (plan_in c job) (inner_number (plan_in c job) q.op)))
no_part c job q spared back none = (spared, (job, back, refl, refl, none))

pub no_part_within : (c : RunCase) (job : Job) (q : Part) (op tasks : ℕ) → IsReopened c job → WithinRecord c → PartWithin c q (NoTasks op tasks)
no_part_within c job q op tasks back calls = inr (job, back.accepted, (back.planned, calls))

pub not_parted : (c : RunCase) (q : Part) (status : Status) → IsNotReopened c status → WasParted c q status
not_parted c q (DepotFailed key) why = inl why
not_parted c q NoMemory why = inl why
not_parted c q Done why = absurd why
not_parted c q WriteFault why = absurd why
not_parted c q (TaskFailed op task) why = absurd why
not_parted c q (BadChunk key got want) why = absurd why
not_parted c q (NoTasks op tasks) why = absurd why
not_parted c q (NotReady op task) why = absurd why
not_parted c q status why = why

pub not_parted_within : (c : RunCase) (q : Part) (s : Status) → ReopenWithin c s → PartWithin c q s
not_parted_within c q s (inl calls) = inl calls
not_parted_within c q NoPlan (inr (job, accepted, (planned, (is, calls)))) = inr (job, accepted, (planned, calls))
not_parted_within c q (OtherPlan place) (inr (job, accepted, (planned, (is, calls)))) = inr (job, accepted, (planned, calls))
not_parted_within c q (DepotFailed key) (inr (job, accepted, (planned, (is, calls)))) = inr (job, accepted, (planned, inl calls))
not_parted_within c q NoMemory (inr (job, accepted, (planned, (is, calls)))) = inr (job, accepted, (planned, inl calls))
not_parted_within c q s (inr (job, accepted, (planned, (is, calls)))) = absurd is
