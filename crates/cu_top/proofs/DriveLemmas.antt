-- The run of an accepted plan's tasks, whatever is done and held when it starts.
use Rattle.std.proofs.Common.{◌≡◌, ℕ, ◌+◌, ◌*◌, ◌<◌, ◌≤◌, List, [], ◌∷◌, length, Option, Some, None, Result, Ok, Err, IfOk, IfErr, refl, sym, ◌∙◌, subst, arith}
use Rattle.std.specs.Prelude.{Bool, true, false, ◌==◌, ◌&&◌, if◌then◌else◌, OnOk, OnErr, IsTrue}
use Rattle.cu_store.specs.Faults.{last_count, Rose}
use Rattle.cu_store.specs.Held.{Contents}
use Rattle.cu_store.specs.Steps.{Shown, Changes, NoChange, OrLate, Lands, Within, Steps}
use Rattle.cu_op.specs.PlanView.{PlanView, operation_at}
use Rattle.cu_op.specs.Sound.{Sound}
use Rattle.cu_op.specs.Elements.{Elements}
use Rattle.cu_op.specs.Value.{stored_inputs}
use Rattle.cu_history.specs.declared.entry.Entry.{Entry}
use Rattle.cu_history.specs.declared.entry.EventKind.{EventKind}
use Rattle.cu_history.specs.History.{is_start, is_done, is_failed, count_kind, count_of_task}
use Rattle.cu_lower.specs.Premises.{OutputDiffers}
use Rattle.cu_run_law.specs.Left.{IsQuiet, IsLeft, RunChange}
use Rattle.cu_run_law.specs.Names.{HasPlanNames}
use Rattle.cu_run_law.specs.Pieces.{PlanRun, Piece, IsPiece, piece_key, KeysApart, InputsApart, IsComplete}
use Rattle.cu_run_law.proofs.Keeping.{left_kept, begun_since}
use Rattle.cu_run_law.proofs.PlanNames.{keys_apart, inputs_apart}
use Rattle.cu_store.proofs.Steps.{steps_none, steps_wider}
use Rattle.cu_table.specs.declared.state.Ending.TheVariants.{Broken}
use Rattle.cu_table.specs.Machine.{Machine}
use Rattle.cu_table.specs.Numbers.{IsTask, task_count}
use Rattle.cu_table.specs.Step.{Settings, Replays}
use Rattle.cu_table.specs.Table.{TableView}
use Rattle.cu_work.proofs.FewFailures.{failures_few}
use Rattle.cu_work.proofs.Running.{left_stored}
use Rattle.cu_work.specs.Calls.{missing_texts}
use Rattle.cu_work.specs.Drive.{IsBadChunk, IsInputKey}
use Rattle.cu_work.specs.Run.{AreTextsHeld, HoldsTexts, IsMissingKey, IsRunFault, PutOfMissing, run_of as work_run, IsRecordFirst as IsTextFirst, IsUnstored as IsTextUnstored}
use Rattle.cu_work.specs.Shared.{IsOpen, IsOpenAs, HoldsDone, HasDriven, AreCounted, opened_table, IfBadChunk, IfComplete, IfLacked}
use Rattle.cu_work.specs.Starts.{IsOfWorkers, WithinHistory}
use Rattle.cu_work.specs.declared.options.RunOptions.{RunOptions}
use Rattle.cu_work.specs.declared.outcome.Outcome.{Outcome}
use Rattle.cu_work.specs.declared.outcome.Outcome.TheVariants as ended
use Rattle.cu_work.specs.declared.outcome.RunEnd.{RunEnd}
use Rattle.cu_work.specs.declared.run.HeldTexts.{HeldTexts}
use Rattle.cu_work.specs.declared.run.HeldTexts.TheVariants as given
use Rattle.cu_work.specs.declared.run.Texts.{Texts}
use Rattle.cu_work.specs.declared.run.RunFault.{RunFault}
use Rattle.cu_work.specs.declared.run.RunFault.TheVariants as text
use Rattle.cu_zarr.specs.Key.{metadata_key_of}
use Rattle.cu_name.specs.Keys.{record_key_of}
use Rattle.cu_lower.specs.declared.options.Options.{Options}
use Rattle.cu_command.specs.Seen.{Stepped}
use Rattle.cu_command.proofs.SeenLemmas.{stepped, stepped_then, stepped_wider, stepped_none}
use Rattle.cu_command.specs.declared.job.Job.{Job}
use Rattle.cu_top.specs.Driven.{DriveCase, drive_case, run_options, AreHeld, MissingPut, IsMissingText, IsOfOps, IsUnrunBy, IsUnrun, Driven, HasEnded}
use Rattle.cu_top.specs.Prepare.{HasNoOwnInput, job_plan, out_metadata}
use Rattle.cu_top.specs.Quiet.{run_of_job}
use Rattle.cu_top.specs.Record.{record_text}
use Rattle.cu_top.specs.Run.{RunCase, job_run, plan_in, env_of, IsMeant, HoldsAll, WhereLeft, IsHistory, HasBroken, settings_of}
use Rattle.cu_top.proofs.PlanLemmas.{differs}
use Rattle.cu_top.proofs.StartsFew.{starts_few}

-- a task that ended a history is one of the plan
abbrev pub TaskLaw : Type 0
TaskLaw = (s : Settings) (done : List Bool) (history : List Entry) (m : Machine) (op task : ℕ) → Replays s done history m
    → m.ended ≡ Some (Broken op task) → IsTask s.plan op task

-- the laws of histories that the report and the cause of a task rest on
pub record HistoryLaws : Type 0 where
  pub task : TaskLaw
  pub exactly : (s : Settings) (done : List Bool) (history : List Entry) (m : Machine) (op task : ℕ) → Replays s done history m
      → IsTask s.plan op task → m.ended ≡ Some (Broken op task) → count_of_task is_failed op task history ≡ s.retries + 1
  pub undone : (s : Settings) (done : List Bool) (history : List Entry) (m : Machine) (op task : ℕ) → Replays s done history m
      → m.ended ≡ Some (Broken op task) → count_of_task is_done op task history ≡ 0

-- the entries of a task among all
fewer : (a b d : Bool) → (if a && b && d then 1 else 0) ≤ (if a then 1 else 0)
fewer true true true = omega arith
fewer true true false = omega arith
fewer true false true = omega arith
fewer true false false = omega arith
fewer false b d = omega arith

few_of_task : (f : EventKind → Bool) (op task : ℕ) (history : List Entry) → count_of_task f op task history ≤ count_kind f history
few_of_task f op task [] = omega arith
few_of_task f op task (e ∷ es) =
    let rest = few_of_task f op task es in
    let one = fewer (f e.kind) (e.op == op) (e.task == task) in
    omega (arith, rest, one)

-- what was told after a step was told before it
pub told_before : (W : Changes) (a b : Option Contents) (now : Contents) → Lands W a b → b ≡ Some now → (held : Contents) × (a ≡ Some held)
told_before W None None now lands told = cc
told_before W None (Some b) now lands told = absurd lands
told_before W (Some a) b now lands told = (a, refl)

pub some_held : (a b : Contents) → ◌≡◌ {A = Option Contents} (Some a) (Some b) → a ≡ b
some_held a b e = cc

-- the law of what a run finds where no piece is held
abbrev pub LeftLaw : Type 0
LeftLaw = (r : PlanRun) (shown : Shown) (held : Contents) → Sound r.plan → KeysApart r → shown.held ≡ Some held
    → ((q : Piece) → IsPiece r q → held (piece_key r q) ≡ None) → IsQuiet r (stored_inputs r.plan.arrays held) held shown.late → IsLeft r (stored_inputs r.plan.arrays held) shown

-- the laws of a plan that a run rests on
pub record PlanLaws (c : RunCase) (job : Job) : Type 0 where
  pub sound : Sound (plan_in c job)
  pub needs : (j : ℕ) → j < length (plan_in c job).ops → (operation_at (plan_in c job).ops j).projected ≤ (plan_in c job).allowed
  pub names : OutputDiffers job.expr → HasPlanNames (job_run c job) job.expr.store_as (record_text c.options job) (out_metadata job)
  pub left : LeftLaw
  pub meant : (entry : Contents) (shown : Shown) (left : IsLeft (job_run c job) (env_of c job entry) shown) → IsComplete (job_run c job) (env_of c job entry) shown → IsMeant job entry left.held

-- what a step leads from was told
module _ (c : RunCase) (job : Job) (laws : PlanLaws c job) (own : HasNoOwnInput job.expr) where
  pub apart_run : KeysApart (job_run c job)
  apart_run = keys_apart (job_run c job) job.expr.store_as (record_text c.options job) (out_metadata job) laws.sound (laws.names (differs job.expr own))

  pub apart_inputs : InputsApart (job_run c job)
  apart_inputs = inputs_apart (job_run c job) job.expr.store_as (record_text c.options job) (out_metadata job) laws.sound (laws.names (differs job.expr own))

module _ (c : RunCase) (job : Job) (laws : PlanLaws c job) (start : Shown) (spared : Stepped NoChange c.old.depot start) where
  -- what was left so at first is left so where the run starts
  pub kept : (env : Elements) → IsLeft (job_run c job) env c.old.depot → IsLeft (job_run c job) env start
  kept env left = left_kept (job_run c job) env c.old.depot left 0 spared.calls start (steps_none spared.step)

  pub left_start : WhereLeft c job (λ env. IsLeft (job_run c job) env start)
  left_start entry told left = kept (env_of c job entry) left

  change_since : (key : List ℕ) (value : Option (List ℕ)) → RunChange (job_run c job) start key value → RunChange (job_run c job) c.old.depot key value
  change_since key value (q, bytes, piece, at, is, valued) = (q, bytes, piece, at, is, λ env left. valued env (kept env left))

  pub rose_since : (n : ℕ) → Rose n start.faults c.new.depot.faults → Rose n c.old.depot.faults c.new.depot.faults
  rose_since n rose = let earlier = spared.step.count in omega (arith, rose, earlier)

  -- the store is open for the run, where it was left so at first
  open_later : (now : Option Contents) → start.held ≡ now → ((entry : Contents) → c.old.depot.held ≡ Some entry → IsLeft (job_run c job) (env_of c job entry) c.old.depot)
      → IsOpenAs (job_run c job) now start
  open_later None told opens = tt
  open_later (Some now) told opens =
      let (entry, e) = told_before (OrLate NoChange c.old.depot.late) c.old.depot.held start.held now spared.step.lands told in
      let left = kept (env_of c job entry) (opens entry e) in
      subst (λ (h : Contents). IsLeft (job_run c job) (stored_inputs (plan_in c job).arrays h) start) (some_held left.held now (sym left.told ∙ told))
      (left_stored (job_run c job) (env_of c job entry) start left)

  pub open_start : ((entry : Contents) → c.old.depot.held ≡ Some entry → IsLeft (job_run c job) (env_of c job entry) c.old.depot) → IsOpen (job_run c job) start
  open_start opens = open_later start.held refl opens

  module _ (held : HeldTexts) (done : List Bool) (lack : Bool) where
    abbrev pub started_case : DriveCase
    started_case = drive_case c.options (job_run c job) held done lack (start, c.new.depot)

    module _ (step : Steps (RunChange (job_run c job) start) 0 last_count start c.new.depot) where
      pub run_step : Stepped (RunChange (job_run c job) c.old.depot) c.old.depot c.new.depot
      run_step = stepped_then (stepped_none spared) (stepped_wider change_since (stepped step))

      pub left_end : WhereLeft c job (λ env. IsLeft (job_run c job) env c.new.depot)
      left_end entry told left =
          let at = left_start entry told left in
          left_kept (job_run c job) (env_of c job entry) start at 0 last_count c.new.depot (begun_since (job_run c job) (env_of c job entry) start at 0 last_count c.new.depot step)

      -- the output of a run whose pieces are all held
      pub stored : WhereLeft c job (λ env. IsComplete (job_run c job) env c.new.depot) → HoldsAll c job
      stored complete = (
        complete,
        λ entry now is calm there.
            let left = left_end entry is calm in
            let same : left.held ≡ now = some_held left.held now (sym left.told ∙ there) in
            subst (IsMeant job entry) same (laws.meant entry c.new.depot left (complete entry is calm)),
      )

    module _ (o : Outcome) (t : TableView) (ends : HasEnded started_case o t) where
      -- the history of the tasks
      pub legal_of : Replays (settings_of c job) done t.history t.state
      legal_of =
          subst (λ (d : List Bool). Replays (settings_of c job) d t.history t.state) ends.driven.done
          (subst (λ (s : Settings). Replays s t.done t.history t.state) ends.driven.settings ends.driven.legal)

      pub history_of : IsHistory c job done t.history t.state
      history_of = record {
        legal = legal_of;
        resting = ends.driven.resting;
        workers = ends.workers;
        rose = rose_since (count_kind is_failed t.history) ends.driven.rose;
      }

      pub few_failures : t.state.ended ≡ None → count_kind is_failed t.history ≤ c.options.retries * task_count (plan_in c job)
      few_failures none = failures_few (settings_of c job) done t.history t.state legal_of none

      pub few_starts : count_kind is_start t.history ≤ (c.options.retries + 2) * task_count (plan_in c job)
      few_starts = starts_few (settings_of c job) done t.history t.state legal_of ends.driven.resting

      pub done_at_end : WhereLeft c job (λ env. HoldsDone (job_run c job) env t.state c.new.depot)
      done_at_end entry told left = ends.done (env_of c job entry) (left_start entry told left)

    module _ (histories : HistoryLaws) (t : TableView) (op task : ℕ) (ends : HasEnded started_case (ended.Broken op task) t) where
      pub broken_task : IsTask (plan_in c job) op task
      broken_task = histories.task (settings_of c job) done t.history t.state op task (legal_of (ended.Broken op task) t ends) ends.driven.decided

      failed_so : count_of_task is_failed op task t.history ≡ c.options.retries + 1
      failed_so = histories.exactly (settings_of c job) done t.history t.state op task (legal_of (ended.Broken op task) t ends) broken_task ends.driven.decided

      pub broken_by : HasBroken c job op task t.history t.state
      broken_by = (
        ends.driven.decided,
        failed_so,
        histories.undone (settings_of c job) done t.history t.state op task (legal_of (ended.Broken op task) t ends) ends.driven.decided,
        done_at_end (ended.Broken op task) t ends,
      )

      pub broken_rose : Rose (c.options.retries + 1) c.old.depot.faults c.new.depot.faults
      broken_rose =
          let exactly = failed_so in
          let few = few_of_task is_failed op task t.history in
          let rose = rose_since (count_kind is_failed t.history) ends.driven.rose in
          omega (arith, exactly, few, rose)

-- ---- a task that ended the run is one of an operation of the plan

of_table : TaskLaw → (first now : TableView) (old new : Shown) (o : Outcome) → HasDriven first now old new o → IsOfOps first.settings.plan o
of_table tasks first now old new ended.Complete d = tt
of_table tasks first now old new (ended.Broken op task) d =
    subst (λ (s : Settings). op < length s.plan.ops) d.settings
    (tasks now.settings now.done now.history now.state op task d.legal d.decided).operation
of_table tasks first now old new (ended.BadChunk key got want) d = tt
of_table tasks first now old new ended.Lacked d = tt

pub of_ops : TaskLaw → (p : PlanView) (first : TableView) (old new : Shown) (result : Result RunEnd RunFault) → first.settings.plan ≡ p
    → IfOk result (λ e. HasDriven first e.table old new e.outcome) → IfOk result (λ e. IsOfOps p e.outcome)
of_ops tasks p first old new (Ok e) same d = subst (λ (q : PlanView). IsOfOps q e.outcome) same (of_table tasks first e.table old new e.outcome d)
of_ops tasks p first old new (Err f) same d = tt

-- ---- what is told of the run

-- the run that the texts make of the plan
pub same_run : (options : Options) (job : Job) (p : PlanView) (t : Texts) → p ≡ job_plan options job → t.record_key ≡ record_key_of job.expr.store_as → t.record.now ≡ record_text options job
    → t.metadata_key ≡ metadata_key_of job.expr.store_as → t.metadata.now ≡ out_metadata job → work_run p t ≡ run_of_job options job
same_run options job p t plan record_key text metadata_key metadata = rw (plan, record_key, text, metadata_key, metadata) refl

-- the texts that are held, and those that aren't, of the plan's run
pub texts_held : (held : HeldTexts) (p : PlanView) (t : Texts) (h : Option Contents) → AreHeld held (work_run p t) h → AreTextsHeld held t h
texts_held given.Neither p t h there = tt
texts_held given.Record p t h there = there
texts_held given.Both p t h there = there

texts_put : (held : HeldTexts) (p : PlanView) (t : Texts) → Within (PutOfMissing held t) (MissingPut held (work_run p t))
texts_put given.Neither p t key value change = change
texts_put given.Record p t key value change = change
texts_put given.Both p t key value change = change

texts_missing : (held : HeldTexts) (p : PlanView) (t : Texts) (key : List ℕ) → IsMissingKey held t key → IsMissingText held (work_run p t) key
texts_missing given.Neither p t key missing = missing
texts_missing given.Record p t key missing = missing
texts_missing given.Both p t key missing = missing

-- the clauses of the run over the plan and its texts, as its caller reads them
pub record RunTold (how : RunOptions) (table : TableView) (t : Texts) (d : DriveCase) (result : Result RunEnd RunFault) : Type 0 where
  pub step : Steps (RunChange d.run d.shown.0) 0 last_count d.shown.0 d.shown.1
  pub texts : (env : Elements) → IsLeft d.run env d.shown.0 → OnOk result (HoldsTexts d.run env d.shown.1)
  pub first : (env : Elements) → IsLeft d.run env d.shown.0 → IsTextFirst d.run env last_count d.shown.0 d.shown.1
  pub unstored : (env : Elements) → IsLeft d.run env d.shown.0 → IfErr result (IsTextUnstored d.run env (how.retries + 1) d.shown.0 d.shown.1)
  pub refused : OnErr result (Steps (PutOfMissing d.held t) 0 (3 * (how.retries + 1)) d.shown.0 d.shown.1)
  pub cause : IfErr result (IsRunFault d.held (how.retries + 1) t d.shown.0 d.shown.1)
  pub driven : IfOk result (λ e. HasDriven table e.table d.shown.0 d.shown.1 e.outcome)
  pub workers : IfOk result (λ e. IsOfWorkers how.workers table.settings e.table.history)
  pub counts : IfOk result (λ e. IfComplete e.outcome (AreCounted table e.table))
  pub once : IfOk result (λ e. WithinHistory (missing_texts d.held + 1) d.run.plan e.table.history d.shown.0 d.shown.1)
  pub done : (env : Elements) → IsLeft d.run env d.shown.0 → IfOk result (λ e. HoldsDone d.run env e.table.state d.shown.1)
  pub complete : (env : Elements) → IsLeft d.run env d.shown.0 → IfOk result (λ e. IfComplete e.outcome (IsComplete d.run env d.shown.1))
  pub bad : IfOk result (λ e. IfBadChunk e.outcome (IsBadChunk d.run.plan d.shown.1))
  pub input : (env : Elements) → IsLeft d.run env d.shown.0 → IfOk result (λ e. IfBadChunk e.outcome (λ key got want. IsInputKey d.run.plan key))
  pub lacked : IfOk result (λ e. IfLacked e.outcome (IsTrue d.lack))

unrun_cause : (o : Options) (p : PlanView) (t : Texts) (held : HeldTexts) (done : List Bool) (lack : Bool) (shown : Shown × Shown) (f : RunFault) → IsRunFault held (o.retries + 1) t shown.0 shown.1 f
    → IsUnrunBy (drive_case o (work_run p t) held done lack shown) f
unrun_cause o p t held done lack shown (text.TextFailed key) why = (texts_missing held p t key why.0, why.1)
unrun_cause o p t held done lack shown text.ShareFailed why = why
unrun_cause o p t held done lack shown text.NoMemory why = why

module _ (o : Options) (p : PlanView) (t : Texts) (held : HeldTexts) (done : List Bool) (lack : Bool) (shown : Shown × Shown) where
  ended_told : (result : Result RunEnd RunFault) → RunTold (run_options o) (opened_table p (run_options o) done) t (drive_case o (work_run p t) held done lack shown) result
      → IfOk result (λ e. HasEnded (drive_case o (work_run p t) held done lack shown) e.outcome e.table)
  ended_told (Ok e) told = record {
    driven = told.driven;
    workers = told.workers;
    counts = told.counts;
    once = told.once;
    texts = told.texts;
    done = told.done;
    complete = told.complete;
    bad = told.bad;
    input = told.input;
    lacked = told.lacked;
  }
  ended_told (Err f) told = tt

  unrun_told : (result : Result RunEnd RunFault) → RunTold (run_options o) (opened_table p (run_options o) done) t (drive_case o (work_run p t) held done lack shown) result
      → IfErr result (IsUnrun (drive_case o (work_run p t) held done lack shown))
  unrun_told (Ok e) told = tt
  unrun_told (Err f) told = record {
    refused = steps_wider (texts_put held p t) (omega arith) (omega arith) told.refused;
    unstored = told.unstored;
    cause = unrun_cause o p t held done lack shown f told.cause;
  }

  pub all_told : (result : Result RunEnd RunFault) → RunTold (run_options o) (opened_table p (run_options o) done) t (drive_case o (work_run p t) held done lack shown) result → Driven (drive_case o (work_run p t) held done lack shown) result
  all_told result told = record {
    step = told.step;
    first = told.first;
    ended = ended_told result told;
    unrun = unrun_told result told;
  }
