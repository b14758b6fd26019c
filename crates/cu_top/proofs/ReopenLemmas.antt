-- A plan that is found again: what it was left as, what a run that goes on begins with and comes to.
use Rattle.std.proofs.Common.{◌≡◌, inl, inr, ℕ, suc, ◌+◌, ◌<◌, ◌≤◌, List, ◌∷◌, ◌++◌, length, Contains, Option, Some, None, Result, Ok, Err, refl, sym, ◌∙◌, subst, arith}
use Rattle.std.specs.Prelude.{Bool, true, false, ◌⊎◌, ◌↔◌, if◌then◌else◌}
use Rattle.std.proofs.lemmas.List.Elements.{Contains-append_right}
use Rattle.cu_store.specs.Faults.{last_count, Rose}
use Rattle.cu_store.specs.Held.{Contents, Holds, IsHeldIn}
use Rattle.cu_store.specs.Steps.{Shown, NoChange, OnceEach, OrLate, Lands, Within, Steps}
use Rattle.cu_zarr.specs.Key.{metadata_key_of}
use Rattle.cu_name.specs.Keys.{record_key_of}
use Rattle.cu_op.specs.PlanView.{PlanView}
use Rattle.cu_op.specs.Schedule.{key_of, op_of}
use Rattle.cu_op.specs.Walks.{written_chunks}
use Rattle.cu_op.specs.declared.cells.Cell.{Cell}
use Rattle.cu_op.specs.Elements.{Elements}
use Rattle.cu_history.specs.declared.entry.Entry.{Entry}
use Rattle.cu_history.specs.History.{is_start, count_of_task}
use Rattle.cu_run_law.specs.Left.{IsLeft, RunChange}
use Rattle.cu_run_law.specs.Pieces.{PlanRun, Text, piece_key, text_at, HoldsPiece}
use Rattle.cu_run_law.proofs.Keeping.{begun_since, piece_stays}
use Rattle.cu_table.specs.declared.state.Ending.TheVariants.{Broken}
use Rattle.cu_table.specs.Machine.{Machine, IsDone, opening, state_at}
use Rattle.cu_table.specs.Numbers.{IsTask, task_count}
use Rattle.cu_table.specs.Step.{Settings, Replays, Run}
use Rattle.cu_table.specs.Table.{TableView, undone_weight}
use Rattle.cu_work.proofs.Searching.{held_stays, told_then, told_first}
use Rattle.cu_work.specs.Order.{plan_keys}
use Rattle.cu_work.specs.Search.{NamesTask, NamesStored, IsSearchEnd}
use Rattle.cu_work.specs.declared.find.FindFault.{FindFault}
use Rattle.cu_work.specs.declared.find.FindFault.TheVariants as find
use Rattle.cu_work.specs.World.{IsFound, IsStored}
use Rattle.cu_work.specs.declared.outcome.Outcome.{Outcome}
use Rattle.cu_work.specs.declared.outcome.Outcome.TheVariants as ended
use Rattle.cu_work.specs.declared.outcome.RunEnd.{RunEnd}
use Rattle.cu_work.specs.declared.run.HeldTexts.{HeldTexts}
use Rattle.cu_work.specs.Calls.{missing_texts}
use Rattle.cu_work.specs.Starts.{WithinHistory}
use Rattle.cu_work.specs.declared.run.HeldTexts.TheVariants as given
use Rattle.cu_work.proofs.SharedCalls.{once_before}
use Rattle.cu_top.proofs.CallLimits.{more_keys}
use Rattle.cu_work.specs.declared.run.RunFault.{RunFault}
use Rattle.cu_work.specs.declared.run.RunFault.TheVariants as text
use Rattle.cu_command.specs.Seen.{Stepped}
use Rattle.cu_command.proofs.SeenLemmas.{stepped, stepped_then, stepped_wider, stepped_none}
use Rattle.cu_command.specs.declared.job.Job.{Job}
use Rattle.cu_command.specs.declared.status.Status.{Status}
use Rattle.cu_command.specs.declared.status.Status.TheVariants.{Done, TaskFailed, WriteFault, BadChunk, NoPlan, DepotFailed, NoMemory}
use Rattle.cu_command.specs.Keys.{IsKeyFault}
use Rattle.cu_lower.specs.declared.options.Options.{Options}
use Rattle.cu_top.proofs.AbsentTasks.{at_least_absent, at_most_absent, stored_by_test, tests_stored}
use Rattle.cu_top.specs.Absent.{is_stored}
use Rattle.cu_top.specs.Driven.{Driven, HasEnded, IsUnrun, MissingPut, IsMissingText, AreHeld, run_counts_in, outcome_answer, fault_answer, drive_answer}
use Rattle.cu_top.specs.Held.{IsFoundAgain, IsLeftBy, IsLeftEntry, IsNotReopened, IsReopened, WasRecorded, WasUnrecorded, WhereEntryTold}
use Rattle.cu_top.specs.Limits.{WithinStarts, resume_keys, resume_limits}
use Rattle.cu_top.specs.Prepare.{HasNoOwnInput, HasPlan, is_own_input, job_plan, keys_of}
use Rattle.cu_top.specs.Quiet.{run_of_job}
use Rattle.cu_top.specs.Report.{report_line}
use Rattle.cu_top.specs.Resume.{IsResumed, MetadataPut, HoldsTextsNow, AreFoundDone, HasGoneOn, IsCountedOn, HasRecord, IsRestFault, WasHeldOrLate, AreOfAbsent, NoChunkWasLate, find_answer, WasResumed, ResumeEnded}
use Rattle.cu_top.specs.Run.{RunCase, job_run, plan_in, env_of, IsAccepted, settings_of, WroteTo}
use Rattle.cu_top.specs.declared.report.RunCounts.{RunCounts}
use Rattle.cu_top.proofs.DriveLemmas.{HistoryLaws, PlanLaws, apart_run, left_start, kept, rose_since, started_case, run_step, left_end, stored, history_of, legal_of, few_failures, few_starts, broken_task, broken_by, broken_rose}
use Rattle.cu_top.proofs.HeldLemmas.{held_before}
use Rattle.cu_top.proofs.PlanLemmas.{lent_within}

-- ---- what is held stays held, where nothing but late puts lands

no_fill : (key : List ℕ) (value : Option (List ℕ)) → NoChange key value → (bytes : List ℕ) × (value ≡ Some bytes)
no_fill key value none = absurd none

pub still_held : (old new : Shown) (key : List ℕ) → Stepped NoChange old new → IsHeldIn old.held key → IsHeldIn new.held key
still_held old new key step held = held_stays NoChange no_fill 0 step.calls old new step.step key held

pub stored_later : (p : PlanView) (old new : Shown) (held now : Contents) (op task : ℕ) → Stepped NoChange old new → old.held ≡ Some held → new.held ≡ Some now → IsStored p held op task → IsStored p now op task
stored_later p old new held now op task step told later stored_all c listed =
    subst (λ (h : Option Contents). IsHeldIn h (key_of p.arrays c)) later
    (still_held old new (key_of p.arrays c) step (subst (λ (h : Option Contents). IsHeldIn h (key_of p.arrays c)) (sym told) (stored_all c listed)))

told_later : (old new : Shown) (held : Contents) → Stepped NoChange old new → old.held ≡ Some held → (now : Contents) × (new.held ≡ Some now)
told_later old new held step told = told_then NoChange 0 step.calls old new step.step held told

-- a key that is held later was held at first, or a put of it was late
held_or_late : (c : RunCase) (start : Shown) (entry : Contents) (key : List ℕ) → Stepped NoChange c.old.depot start → c.old.depot.held ≡ Some entry → IsHeldIn start.held key → WasHeldOrLate c entry key
held_or_late c start entry key step told held = from start.held (subst (λ (h : Option Contents). Lands (OrLate NoChange c.old.depot.late) h start.held) told step.step.lands) held
  where
    at : (v : Option (List ℕ)) (bytes : List ℕ) → (v ≡ entry key) ⊎ OrLate NoChange c.old.depot.late key v → v ≡ Some bytes → WasHeldOrLate c entry key
    at v bytes (inl same) is = inl (bytes, sym same ∙ is)
    at v bytes (inr (inl none)) is = absurd none
    at v bytes (inr (inr (own, there, among))) is = inr (own, among)

    from : (h : Option Contents) → Lands (OrLate NoChange c.old.depot.late) (Some entry) h → IsHeldIn h key → WasHeldOrLate c entry key
    from None lands there = absurd lands
    from (Some now) lands (bytes, is) = at (now key) bytes (lands key) is

-- ---- a plan that is found again

holds_in : (h : Option Contents) (key bytes : List ℕ) → Holds h key bytes → IsHeldIn h key
holds_in None key bytes holds = tt
holds_in (Some held) key bytes holds = (bytes, holds)

module _ (c : RunCase) (job : Job) (start : Shown) (found : IsFoundAgain c.options c.text c.old.depot start job) (premise : IsLeftEntry c.options c.text c.old.depot) where
  -- where the contents are told, the premise holds
  left_by : (entry : Contents) → c.old.depot.held ≡ Some entry → IsLeft (job_run c job) (env_of c job entry) c.old.depot × HasNoOwnInput job.expr
  left_by entry told =
      subst (λ (h : Option Contents). IsLeftBy (job_run c job) c.old.depot h (HasNoOwnInput job.expr)) told (premise job found.accepted found.planned)
      (held_before c.old.depot start _ _ entry found.spared told found.record_held)

  pub opens : WhereEntryTold c job (λ env. IsLeft (job_run c job) env c.old.depot)
  opens entry told = (left_by entry told).0

  pub record_in : IsHeldIn start.held (record_key_of job.expr.store_as)
  record_in = holds_in start.held _ _ found.record_held

pub reopened : (c : RunCase) (job : Job) (start : Shown) → IsFoundAgain c.options c.text c.old.depot start job → PlanLaws c job → IsReopened c job
reopened c job start found laws = record {
  accepted = found.accepted;
  planned = found.planned;
  sound = laws.sound;
  room = lent_within (plan_in c job) laws.sound laws.needs;
  own = found.own;
  apart = apart_run c job laws found.own;
  had_record = λ entry told. held_before c.old.depot start _ _ entry found.spared told found.record_held;
}

-- ---- what a run that goes on begins with

in_list : (front back : List (List ℕ)) (key : List ℕ) → Contains (front ++ key ∷ back) key
in_list front back key = Contains-append_right front (key ∷ back) key (0, omega arith, refl)

pub find_refused : (tries : ℕ) (keys all : List (List ℕ)) (first old new : Shown) (f : FindFault) → Stepped NoChange first old → IsSearchEnd tries keys (old, new) f
    → ((key : List ℕ) → Contains keys key → Contains all key) → IsRestFault tries all (first, new) (find_answer f)
find_refused tries keys all first old new (find.Failed key) step ends inside = (
  (let one = step.step.count in let two = ends.before.count in let rose = ends.cause.0 in omega (arith, one, two, rose)),
  inside key (subst (λ (ks : List (List ℕ)). Contains ks key) (sym ends.listed) (in_list ends.front ends.back key)),
)
find_refused tries keys all first old new find.NoMemory step ends inside = tt

pub ask_refused : (tries : ℕ) (all : List (List ℕ)) (old new : Shown) (key : List ℕ) (status : Status) → IsKeyFault tries old.faults new.faults new.lacks key status → Contains all key
    → IsRestFault tries all (old, new) status
ask_refused tries all old new key (DepotFailed failed) (same, rose) listed = (rose, subst (λ (k : List ℕ). Contains all k) (sym same) listed)
ask_refused tries all old new key NoMemory lacks listed = tt
ask_refused tries all old new key status none listed = absurd none

pub names_later : (p : PlanView) (old new : Shown) (done : List Bool) → Stepped NoChange old new → ((now : Contents) → new.held ≡ Some now → NamesStored p now done)
    → (held : Contents) → old.held ≡ Some held → NamesStored p held done
names_later p old new done step named held told op task is stored_all =
    let (now, later) = told_then NoChange 0 step.calls old new step.step held told in
    named now later op task is (stored_later p old new held now op task step told later stored_all)

-- the keys that may be asked for
pub metadata_listed : (options : Options) (job : Job) (key : List ℕ) → key ≡ metadata_key_of job.expr.store_as → Contains (keys_of options job) key
metadata_listed options job key is = (1, omega arith, sym is)

pub chunk_listed : (options : Options) (job : Job) (p : PlanView) → p ≡ job_plan options job → (key : List ℕ) → Contains (plan_keys p (length p.ops)) key → Contains (keys_of options job) key
chunk_listed options job p is key listed =
    let (i, below, e) = subst (λ (q : PlanView). Contains (plan_keys q (length q.ops)) key) is listed in
    (suc (suc i), omega (arith, below), e)

-- the texts that are held
module _ (options : Options) (job : Job) (old between new : Shown) (first : Stepped NoChange old between) (second : Stepped NoChange between new) (known : IsHeldIn old.held (record_key_of job.expr.store_as)) where
  record_later : IsHeldIn new.held (record_key_of job.expr.store_as)
  record_later = still_held between new (record_key_of job.expr.store_as) second (still_held old between (record_key_of job.expr.store_as) first known)

  pub texts_record : (held : HeldTexts) → held ≡ given.Record → AreHeld held (run_of_job options job) new.held
  texts_record held is = subst (λ (h : HeldTexts). AreHeld h (run_of_job options job) new.held) (sym is) record_later

  pub texts_both : (held : HeldTexts) (key : List ℕ) → held ≡ given.Both → key ≡ metadata_key_of job.expr.store_as → IsHeldIn between.held key → AreHeld held (run_of_job options job) new.held
  texts_both held key is key_is there =
      subst (λ (h : HeldTexts). AreHeld h (run_of_job options job) new.held) (sym is)
      (record_later, still_held between new (metadata_key_of job.expr.store_as) second (subst (λ (k : List ℕ). IsHeldIn between.held k) key_is there))

-- ---- what it comes to

-- the laws that going on rests on
pub record ResumeLaws : Type 0 where
  pub stays : (p : PlanView) (r : PlanRun) (first old new : Shown) (least most : ℕ) (held now : Contents) (done : List Bool) → Steps (RunChange r first) least most old new
      → old.held ≡ Some held → new.held ≡ Some now → IsFound p held done → IsFound p now done
  pub opened : (p : PlanView) (done : List Bool) (op task : ℕ) → (IsDone p (opening done) op task) ↔ (NamesTask p done op task)
  pub unstarted : (s : Settings) (done : List Bool) (history : List Entry) (m : Machine) (held : Contents) (op task : ℕ) → Replays s done history m → NamesStored s.plan held done
      → IsTask s.plan op task → IsStored s.plan held op task → count_of_task is_start op task history ≡ 0
  pub remains : (s : Settings) (old : Machine) (rest : List Entry) (new : Machine) (op task : ℕ) → Run s old rest new → IsDone s.plan old op task → IsDone s.plan new op task
  pub undone : (s : Settings) (done : List Bool) (history : List Entry) (m : Machine) (op task : ℕ) → Replays s done history m → m.ended ≡ Some (Broken op task)
      → IsDone s.plan m op task → ⊥

-- a piece that is held holds its value
pub text_held : (r : PlanRun) (env : Elements) (shown : Shown) → IsLeft r env shown → 0 < length r.texts → IsHeldIn shown.held (piece_key r (Text 0)) → HoldsPiece r env (Text 0) shown
text_held r env shown left some held =
    elim (left.pieces (Text 0) some) [
      | inl none ↦ absurd (let (bytes, is) = subst (λ (h : Option Contents). IsHeldIn h (piece_key r (Text 0))) left.told held in cc)
      | inr (value, has, v) ↦ (value, v, subst (λ (h : Option Contents). Holds h (piece_key r (Text 0)) value) (sym left.told) has)
    ]

record_of : (held : HeldTexts) (r : PlanRun) (h : Option Contents) → HasRecord held → AreHeld held r h → IsHeldIn h (text_at r 0).0
record_of given.Neither r h has there = absurd has
record_of given.Record r h has there = there
record_of given.Both r h has there = there.0

module _ (c : RunCase) (job : Job) where
  missing_put : (held : HeldTexts) → HasRecord held → Within (MissingPut held (job_run c job)) (MetadataPut c job)
  missing_put given.Neither has key value change = absurd has
  missing_put given.Record has key value change = change
  missing_put given.Both has key value change = absurd change

  missing_key : (held : HeldTexts) (key : List ℕ) → HasRecord held → IsMissingText held (job_run c job) key → key ≡ metadata_key_of job.expr.store_as
  missing_key given.Neither key has missing = absurd has
  missing_key given.Record key has missing = missing
  missing_key given.Both key has missing = absurd missing

  -- what was refused before the tasks
  pub rest_refused : (lack : Bool) (start : Shown) (status : Status) → IsReopened c job → Stepped NoChange c.old.depot start → Stepped NoChange start c.new.depot
      → IsRestFault (c.options.retries + 1) (keys_of c.options job) (start, c.new.depot) status → WasResumed lack c status
  rest_refused lack start (DepotFailed key) back first second (rose, listed) = inr (
    (let earlier = first.step.count in omega (arith, rose, earlier)),
    inl (stepped_then first second, (job, back, listed)),
  )
  rest_refused lack start NoMemory back first second none = inl (stepped_then first second)
  rest_refused lack start status back first second none = absurd none

-- one text isn't held at most
few_texts : (held : HeldTexts) → HasRecord held → missing_texts held ≤ 1
few_texts given.Neither has = absurd has
few_texts given.Record has = omega arith
few_texts given.Both has = omega arith

module _ (c : RunCase) (job : Job) (laws : PlanLaws c job) (start : Shown) (spared : Stepped NoChange c.old.depot start) (back : IsReopened c job)
    (opens_at : WhereEntryTold c job (λ env. IsLeft (job_run c job) env c.old.depot)) (held : HeldTexts) (has : HasRecord held) (done : List Bool) (lack : Bool) (goes : ResumeLaws) (histories : HistoryLaws)
    (asked : ℕ) (once : OnceEach asked c.old.depot start) where
  left_now : WhereEntryTold c job (λ env. IsLeft (job_run c job) env start)
  left_now entry told = kept c job laws start spared (env_of c job entry) (opens_at entry told)

  module _ (texts : AreHeld held (job_run c job) start.held) (found : (now : Contents) → start.held ≡ Some now → IsFound (plan_in c job) now done)
      (named : (entry : Contents) → c.old.depot.held ≡ Some entry → NamesStored (plan_in c job) entry done)
      (step : Steps (RunChange (job_run c job) start) 0 last_count start c.new.depot) where
    record_now : WhereEntryTold c job (λ env. HoldsPiece (job_run c job) env (Text 0) c.new.depot)
    record_now entry told =
        let env = env_of c job entry in
        let left = left_now entry told in
        piece_stays (job_run c job) env start left 0 last_count c.new.depot (begun_since (job_run c job) env start left 0 last_count c.new.depot step) (Text 0) (omega arith)
        (text_held (job_run c job) env start left (omega arith) (record_of held (job_run c job) start.held has texts))

    resumed : IsResumed c job
    resumed = record {
      reopened = back;
      opens = opens_at;
      step = run_step c job laws start spared held done lack step;
      left = λ entry told. left_end c job laws start spared held done lack step entry told (opens_at entry told);
      recorded = record_now;
    }

    opening_done : AreFoundDone c job done
    opening_done = record {
      stored = λ entry op task told is named_task k listed.
          let (first, e) = told_later c.old.depot start entry spared told in
          held_or_late c start entry (key_of (plan_in c job).arrays k) spared told
          (subst (λ (h : Option Contents). IsHeldIn h (key_of (plan_in c job).arrays k)) (sym e) ((found first e).stored op task is named_task k listed));
      found = λ now told.
          let (first, e) = told_first (RunChange (job_run c job) start) 0 last_count start c.new.depot step now told in
          goes.stays (plan_in c job) (job_run c job) start start c.new.depot 0 last_count first now done step e told (found first e);
      named = named;
    }

    module _ (o : Outcome) (t : TableView) (ends : HasEnded (started_case c job laws start spared held done lack) o t) where
      gone_on : HasGoneOn c job done t.history t.state
      gone_on = record {
        opening = opening_done;
        legal = history_of c job laws start spared held done lack o t ends;
        unstarted = λ entry op task told is all. goes.unstarted (settings_of c job) done t.history t.state entry op task
            (legal_of c job laws start spared held done lack o t ends) (named entry told) is all;
      }

      texts_now : HoldsTextsNow c job
      texts_now entry told = ends.texts (env_of c job entry) (left_now entry told)

    module _ (entry : Contents) (told : c.old.depot.held ≡ Some entry) where
      abbrev tasks_undone : ℕ → ℕ → ℕ
      tasks_undone op task = undone_weight (state_at (plan_in c job) (opening done) op task)

      long : length done ≡ task_count (plan_in c job)
      long = let (first, e) = told_later c.old.depot start entry spared told in (found first e).tasks

      most_here : (b d : Bool) → (b ≡ true → d ≡ true) → (if d then 0 else 1) ≤ (if b then 0 else 1)
      most_here true d so = rw (so refl) (omega arith)
      most_here false true so = omega arith
      most_here false false so = omega arith

      least_here : (b d : Bool) → (d ≡ true → b ≡ true) → (if b then 0 else 1) ≤ (if d then 0 else 1)
      least_here b true so = rw (so refl) (omega arith)
      least_here true false so = omega arith
      least_here false false so = omega arith

      undone_most : (op task : ℕ) → IsTask (plan_in c job) op task → tasks_undone op task ≤ (if is_stored (plan_in c job) entry op task then 0 else 1)
      undone_most op task is = most_here (is_stored (plan_in c job) entry op task) (state_at (plan_in c job) (opening done) op task).done
          (λ passes. (goes.opened (plan_in c job) done op task).1 (named entry told op task is (stored_by_test (plan_in c job) entry op task passes)))

      undone_least : NoChunkWasLate c job → (op task : ℕ) → IsTask (plan_in c job) op task → (if is_stored (plan_in c job) entry op task then 0 else 1) ≤ tasks_undone op task
      undone_least none op task is = least_here (is_stored (plan_in c job) entry op task) (state_at (plan_in c job) (opening done) op task).done
          (λ is_done. tests_stored (plan_in c job) entry op task (λ k listed.
          held_unless entry op task k is listed (opening_done.stored entry op task told is ((goes.opened (plan_in c job) done op task).0 is_done) k listed)))
        where
          held_unless : (e : Contents) (op task : ℕ) (k : Cell) → IsTask (plan_in c job) op task → Contains (written_chunks (plan_in c job).arrays (op_of (plan_in c job) op) task) k
              → WasHeldOrLate c e (key_of (plan_in c job).arrays k) → (bytes : List ℕ) × (e (key_of (plan_in c job).arrays k) ≡ Some bytes)
          held_unless e op task k is listed (inl held_there) = held_there
          held_unless e op task k is listed (inr (bytes, among)) = absurd (none op task k bytes is listed among)

      of_absent : (t : TableView) → HasEnded (started_case c job laws start spared held done lack) ended.Complete t → AreOfAbsent c job entry (run_counts_in t.history)
      of_absent t ends = record {
        most = λ alone. let whole = ends.counts.1 alone in let few = at_most_absent (plan_in c job) done long entry undone_most in omega (arith, whole, few);
        least = λ none. let some = ends.counts.0 in let many = at_least_absent (plan_in c job) done long entry (undone_least none) in omega (arith, some, many);
      }

    -- one text and sharing are called for beside what was asked for
    once_on : (t : TableView) → HasEnded (started_case c job laws start spared held done lack) ended.Complete t → WithinHistory (asked + 2) (plan_in c job) t.history c.old.depot c.new.depot
    once_on t ends =
        let few = few_texts held has in
        more_keys (asked + (missing_texts held + 1)) (asked + 2) (plan_in c job) t.history c.old.depot c.new.depot (omega (arith, few))
        (once_before asked (missing_texts held + 1) (plan_in c job) t.history c.old.depot start c.new.depot once ends.once)

    counted_on : (t : TableView) → HasEnded (started_case c job laws start spared held done lack) ended.Complete t → IsCountedOn c job (asked + 2) (run_counts_in t.history)
    counted_on t ends = (
      (done, t.history, t.state, gone_on ended.Complete t ends, (ends.driven.decided.1, refl, once_on t ends, ends.counts.0, ends.counts.1)),
      few_failures c job laws start spared held done lack ended.Complete t ends ends.driven.decided.0,
      few_starts c job laws start spared held done lack ended.Complete t ends,
      λ entry told. of_absent entry told t ends,
    )

    absent_at_first : (t : TableView) (op task : ℕ) → HasEnded (started_case c job laws start spared held done lack) (ended.Broken op task) t → (entry : Contents) → c.old.depot.held ≡ Some entry
        → IsStored (plan_in c job) entry op task → ⊥
    absent_at_first t op task ends entry told all =
        let legal = legal_of c job laws start spared held done lack (ended.Broken op task) t ends in
        let is = broken_task c job laws start spared held done lack histories t op task ends in
        let at_first = (goes.opened (plan_in c job) done op task).1 (named entry told op task is all) in
        goes.undone (settings_of c job) done t.history t.state op task legal ends.driven.decided (goes.remains (settings_of c job) (opening done) t.history t.state op task legal.1 at_first)

    resume_by : (o : Outcome) (t : TableView) → HasEnded (started_case c job laws start spared held done lack) o t → ResumeEnded lack c job (asked + 2) (outcome_answer (plan_in c job) o (run_counts_in t.history))
    resume_by ended.Complete t ends = (
      resumed,
      stored c job laws start spared held done lack step (λ entry told left. ends.complete (env_of c job entry) (left_start c job laws start spared entry told left)),
      counted_on t ends,
    )
    resume_by (ended.Broken op task) t ends =
        let is = broken_task c job laws start spared held done lack histories t op task ends in (
          broken_rose c job laws start spared held done lack histories t op task ends,
          (
            job,
            resumed,
            (
              op,
              refl,
              is.operation,
              is.number,
              absent_at_first t op task ends,
              texts_now (ended.Broken op task) t ends,
              (done, t.history, t.state, gone_on (ended.Broken op task) t ends, broken_by c job laws start spared held done lack histories t op task ends),
            ),
          ),
        )
    resume_by (ended.BadChunk key got want) t ends = (
      job,
      resumed,
      (ends.bad, texts_now (ended.BadChunk key got want) t ends, λ entry told. ends.input (env_of c job entry) (left_now entry told)),
    )
    resume_by ended.Lacked t ends = inr (job, resumed, inr ends.lacked)

    put_before : (f : RunFault) → IsUnrun (started_case c job laws start spared held done lack) f → Stepped (MetadataPut c job) c.old.depot c.new.depot
    put_before f unrun = stepped_then (stepped_none spared) (stepped_wider (missing_put c job held has) (stepped unrun.refused))

    unrun_resume : (f : RunFault) → IsUnrun (started_case c job laws start spared held done lack) f → WasResumed lack c (fault_answer (record_key_of job.expr.store_as) f)
    unrun_resume (text.TextFailed key) unrun = inr (
      rose_since c job laws start spared (c.options.retries + 1) unrun.cause.1,
      inr (job, resumed, (put_before (text.TextFailed key) unrun, inl (missing_key c job held key has unrun.cause.0))),
    )
    unrun_resume text.ShareFailed unrun = inr (
      rose_since c job laws start spared (c.options.retries + 1) unrun.cause,
      inr (job, resumed, (put_before text.ShareFailed unrun, inr (refl, λ entry told. unrun.unstored (env_of c job entry) (left_now entry told)))),
    )
    unrun_resume text.NoMemory unrun = inr (job, resumed, inl (put_before text.NoMemory unrun))

  -- what a run that goes on comes to
  pub resume_ended : AreHeld held (job_run c job) start.held → ((now : Contents) → start.held ≡ Some now → IsFound (plan_in c job) now done)
      → ((entry : Contents) → c.old.depot.held ≡ Some entry → NamesStored (plan_in c job) entry done) → (result : Result RunEnd RunFault)
      → Driven (started_case c job laws start spared held done lack) result → ResumeEnded lack c job (asked + 2) (drive_answer (record_key_of job.expr.store_as) (plan_in c job) result)
  resume_ended texts found named (Ok e) told = resume_by texts found named told.step e.outcome e.table told.ended
  resume_ended texts found named (Err f) told = unrun_resume texts found named told.step f told.unrun

-- ---- the report

pub resume_done : (lack : Bool) (c : RunCase) (job : Job) (n : RunCounts) → ResumeEnded lack c job (resume_keys c.options c.text job) (Ok n)
    → WithinStarts (resume_limits c.options c.text job).begun (plan_in c job) n c.old.depot c.new.depot
    → WroteTo c (report_line (plan_in c job) n) (length (report_line (plan_in c job) n)) → WasResumed lack c Done
resume_done lack c job n h calls wrote = (job, h.0, (h.1, (n, h.2, calls, wrote)))

pub resume_unreported : (lack : Bool) (c : RunCase) (job : Job) (n : RunCounts) → ResumeEnded lack c job (resume_keys c.options c.text job) (Ok n)
    → WithinStarts (resume_limits c.options c.text job).begun (plan_in c job) n c.old.depot c.new.depot → Rose 1 c.old.sink.faults c.new.sink.faults
    → ((k : ℕ) × (k ≤ length (report_line (plan_in c job) n)) × WroteTo c (report_line (plan_in c job) n) k) → WasResumed lack c WriteFault
resume_unreported lack c job n h calls rose wrote = (rose, (job, h.0, (h.1, (n, h.2, calls, wrote))))

-- what refused the plan
both_ways : (b : Bool) → b ≡ true → b ≡ false → ⊥
both_ways b holds fails = cc

module _ (lack : Bool) (c : RunCase) (premise : IsLeftEntry c.options c.text c.old.depot) where
  -- where the premise holds and the record was there, no node reads the output
  no_own : (job : Job) → IsAccepted c job → HasPlan c.options job → (is_own_input job.expr ≡ true) × WasRecorded c job → WasUnrecorded c job
  no_own job accepted planned (own, was) entry told =
      let left = subst (λ (h : Option Contents). IsLeftBy (job_run c job) c.old.depot h (HasNoOwnInput job.expr)) told (premise job accepted planned) (was entry told) in
      absurd (both_ways (is_own_input job.expr) own left.1)

  pub not_reopened : (status : Status) → IsNotReopened c status → WasResumed lack c status
  not_reopened NoPlan (spared, (job, accepted, (planned, inl none))) = (spared, (job, accepted, (planned, none)))
  not_reopened NoPlan (spared, (job, accepted, (planned, inr own))) = (spared, (job, accepted, (planned, no_own job accepted planned own)))
  not_reopened (DepotFailed key) why = inl why
  not_reopened NoMemory why = inl why
  not_reopened Done why = absurd why
  not_reopened WriteFault why = absurd why
  not_reopened (TaskFailed op task) why = absurd why
  not_reopened (BadChunk key got want) why = absurd why
  not_reopened status why = why
