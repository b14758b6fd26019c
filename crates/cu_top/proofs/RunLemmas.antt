-- A run: what clears its way, what it keeps once it is started, and how it ends.
use Rattle.std.proofs.Common.{◌≡◌, ◌⊎◌, inl, inr, ℕ, zero, suc, ◌+◌, ◌<◌, ◌≤◌, List, [], ◌∷◌, length, map, All, Contains, Option, Some, None, Result, Ok, Err, IfErr, refl, sym, ap, ◌∙◌, subst, arith, replicate}
use Rattle.std.specs.Prelude.{Bool, false}
use Rattle.std.proofs.lemmas.List.{get_or-replicate, length-replicate}
use Rattle.std.proofs.lemmas.Bool.{cases_lt}
use Rattle.std.proofs.lemmas.List.Elements.{All-weaker, All-contains, Contains-append_left, Contains-append_right}
use Rattle.cu_store.specs.Faults.{last_count, Rose}
use Rattle.cu_store.specs.Held.{Contents}
use Rattle.cu_store.specs.Steps.{Shown, NoChange, OnceEach, OrLate, Lands, Steps}
use Rattle.cu_zarr.specs.Key.{metadata_key_of, zarray_key_of}
use Rattle.cu_name.specs.Keys.{record_key_of}
use Rattle.cu_op.specs.declared.cells.Cell.{Cell}
use Rattle.cu_op.specs.Cells.{tasks_of}
use Rattle.cu_op.specs.PlanView.{PlanView}
use Rattle.cu_op.specs.Schedule.{op_of, key_of}
use Rattle.cu_op.specs.Sound.{Sound}
use Rattle.cu_op.specs.Elements.{Elements}
use Rattle.cu_op.specs.Walks.{written_chunks}
use Rattle.cu_op.proofs.TaskCells.{some_task}
use Rattle.cu_run_law.specs.Left.{IsLeft, RunChange}
use Rattle.cu_run_law.specs.Pieces.{Piece, Text, Chunk, IsPiece, piece_key, KeysApart}
use Rattle.cu_table.specs.Machine.{opening}
use Rattle.cu_table.specs.Table.{TableView, undone_among}
use Rattle.cu_work.specs.Order.{IsFree, IsFirst, plan_keys, operation_keys, task_keys}
use Rattle.cu_work.specs.Run.{IsRecordFirst as IsTextFirst}
use Rattle.cu_work.specs.Shared.{none_done, IsOpen}
use Rattle.cu_work.proofs.SharedCalls.{once_before}
use Rattle.cu_work.specs.declared.outcome.Outcome.{Outcome}
use Rattle.cu_work.specs.declared.outcome.Outcome.TheVariants as ended
use Rattle.cu_work.specs.declared.outcome.RunEnd.{RunEnd}
use Rattle.cu_work.specs.declared.run.HeldTexts.TheVariants.{Neither}
use Rattle.cu_work.specs.declared.run.RunFault.{RunFault}
use Rattle.cu_work.specs.declared.run.RunFault.TheVariants as text
use Rattle.cu_work.specs.declared.way.WayFault.{WayFault}
use Rattle.cu_work.specs.declared.way.WayFault.TheVariants as way
use Rattle.cu_command.specs.Seen.{Stepped}
use Rattle.cu_command.proofs.SeenLemmas.{stepped, stepped_then, stepped_wider, stepped_none}
use Rattle.cu_command.specs.declared.job.Job.{Job}
use Rattle.cu_command.specs.declared.status.Status.{Status}
use Rattle.cu_command.specs.declared.status.Status.TheVariants.{Done, WriteFault}
use Rattle.cu_top.specs.Ask.{IsFirstOf, IsAskEnd, answer_of}
use Rattle.cu_top.specs.Driven.{Driven, HasEnded, IsUnrun, run_counts_in, outcome_answer, fault_answer, drive_answer}
use Rattle.cu_top.specs.Limits.{WithinStarts, run_keys, run_limits}
use Rattle.cu_top.specs.Prepare.{HasPlan, asked_keys}
use Rattle.cu_top.specs.Quiet.{IsCalm, IsCalmFor}
use Rattle.cu_top.specs.Run.{RunCase, job_run, plan_in, env_of, IsAccepted, IsStarted, IsCleared, WhereQuiet, WroteTo, IsCounted, IsStop, TextPut, Ran, Ended, PrintsOnly}
use Rattle.cu_top.specs.Report.{report_line}
use Rattle.cu_top.specs.declared.report.RunCounts.{RunCounts}
use Rattle.cu_top.proofs.DriveLemmas.{HistoryLaws, PlanLaws, apart_run, open_start, left_start, rose_since, started_case, run_step, left_end, stored, history_of, few_failures, few_starts, broken_task, broken_by, broken_rose}
use Rattle.cu_top.proofs.PlanLemmas.{lent_within}
use Rattle.cu_table.specs.Numbers.{task_count}

-- ---- what is absent now was absent before

module _ (old new : Shown) (step : Stepped NoChange old new) (held : Contents) (told : old.held ≡ Some held) where
  pub free_before : (now : Contents) × (new.held ≡ Some now) × ((key : List ℕ) → IsFree now key → IsFree held key)
  free_before = from new.held refl (subst (λ (h : Option Contents). Lands (OrLate NoChange old.late) h new.held) told step.step.lands)
    where
      at : (now : Contents) (key : List ℕ) (v : Option (List ℕ)) → (v ≡ held key) ⊎ OrLate NoChange old.late key v → v ≡ None → held key ≡ None
      at now key v (inl same) free = sym same ∙ free
      at now key v (inr (inl none)) free = absurd none
      at now key v (inr (inr (bytes, is, among))) free = cc

      from : (h : Option Contents) → new.held ≡ h → Lands (OrLate NoChange old.late) (Some held) h → (now : Contents) × (new.held ≡ Some now) × ((key : List ℕ) → IsFree now key → IsFree held key)
      from None e lands = absurd lands
      from (Some now) e lands = (now, e, λ key. at now key (now key) (lands key))

  pub all_free : (keys : List (List ℕ)) → ((now : Contents) → new.held ≡ Some now → All (IsFree now) keys) → All (IsFree held) keys
  all_free keys free = let (now, is, before) = free_before in All-weaker (IsFree now) (IsFree held) before keys (free now is)

  pub first_free : (keys : List (List ℕ)) (key : List ℕ) → ((now : Contents) → new.held ≡ Some now → IsFirst now keys key) → IsFirst held keys key
  first_free keys key first =
      let (now, is, before) = free_before in
      let (front, back, split, free) = first now is in
      (front, back, split, All-weaker (IsFree now) (IsFree held) before front free)

pub first_of : (old new : Shown) (keys : List (List ℕ)) (key : List ℕ) → Stepped NoChange old new → IsFirstOf new keys key → IsFirstOf old keys key
first_of old new keys key step first = (first.0, λ held told. first_free old new step held told keys key first.1)

-- ---- before a run is started

-- asking for the keys ended
pub ask_refused : (lack : Bool) (c : RunCase) (job : Job) (between : Shown) (f : WayFault) → IsAccepted c job → HasPlan c.options job
    → Stepped NoChange c.old.depot between → Stepped NoChange between c.new.depot → IsAskEnd (c.options.retries + 1) job.expr (asked_keys c.options job) between c.new.depot f → Ran lack c (answer_of f)
ask_refused lack c job between (way.Held key) accepted planned first second fault =
    (stepped_then first second, (job, accepted, (planned, (first_of c.old.depot between (asked_keys c.options job) key first fault.0, fault.1, fault.2))))
ask_refused lack c job between (way.Failed key) accepted planned first second fault = (
  (let earlier = first.step.count in let rose = fault.1 in omega (arith, rose, earlier)),
  inr (inl (stepped_then first second, (job, accepted, (planned, (first_of c.old.depot between (asked_keys c.options job) key first fault.0, fault.2))))),
)
ask_refused lack c job between way.NoMemory accepted planned first second fault = inl (stepped_then first second)

-- ---- the keys of a plan

key_among : (f : Cell → List ℕ) (cs : List Cell) (k : Cell) → Contains cs k → Contains (map f cs) (f k)
key_among f [] k (i, below, e) = absurd (omega arith)
key_among f (x ∷ xs) k (zero, below, e) = (zero, omega arith, ap f e)
key_among f (x ∷ xs) k (suc i, below, e) = let (j, within, is) = key_among f xs k (i, omega arith, e) in (suc j, omega (arith, within), is)

in_operation : (p : PlanView) (op task n : ℕ) (k : Cell) → task < n → Contains (written_chunks p.arrays (op_of p op) task) k → Contains (operation_keys p op n) (key_of p.arrays k)
in_operation p op task zero k below listed = absurd (omega arith)
in_operation p op task (suc n) k below listed =
    elim (cases_lt task n) [
      | inl less ↦ Contains-append_left (operation_keys p op n) (task_keys p op n) (key_of p.arrays k) (in_operation p op task n k less listed)
      | inr least ↦ let last : task ≡ n = omega (arith, least, below) in Contains-append_right (operation_keys p op n) (task_keys p op n) (key_of p.arrays k)
          (subst (λ (m : ℕ). Contains (task_keys p op m) (key_of p.arrays k)) last (key_among (key_of p.arrays) (written_chunks p.arrays (op_of p op) task) k listed))
    ]

pub in_plan : (p : PlanView) (op task n : ℕ) (k : Cell) → op < n → task < tasks_of p.arrays (op_of p op) → Contains (written_chunks p.arrays (op_of p op) task) k → Contains (plan_keys p n) (key_of p.arrays k)
in_plan p op task zero k below number listed = absurd (omega arith)
in_plan p op task (suc n) k below number listed =
    elim (cases_lt op n) [
      | inl less ↦ Contains-append_left (plan_keys p n) (operation_keys p n (tasks_of p.arrays (op_of p n))) (key_of p.arrays k) (in_plan p op task n k less number listed)
      | inr least ↦ let last : op ≡ n = omega (arith, least, below) in Contains-append_right (plan_keys p n) (operation_keys p n (tasks_of p.arrays (op_of p n))) (key_of p.arrays k)
          (subst (λ (m : ℕ). Contains (operation_keys p m (tasks_of p.arrays (op_of p m))) (key_of p.arrays k)) last (in_operation p op task (tasks_of p.arrays (op_of p op)) k number listed))
    ]

behind : (x : List ℕ) (xs : List (List ℕ)) (key : List ℕ) → Contains xs key → Contains (x ∷ xs) key
behind x xs key (i, below, e) = (suc i, omega (arith, below), e)

-- the key of a chunk that a task writes
pub written_key : (c : RunCase) (job : Job) (op task : ℕ) (k : Cell) → op < length (plan_in c job).ops → task < tasks_of (plan_in c job).arrays (op_of (plan_in c job) op)
    → Contains (written_chunks (plan_in c job).arrays (op_of (plan_in c job) op) task) k → Contains (asked_keys c.options job) (key_of (plan_in c job).arrays k)
written_key c job op task k first number listed =
    let chunks = plan_keys (plan_in c job) (length (plan_in c job).ops) in
    let zarray = zarray_key_of job.expr.store_as in
    behind (record_key_of job.expr.store_as) (metadata_key_of job.expr.store_as ∷ zarray ∷ chunks) (key_of (plan_in c job).arrays k)
    (behind (metadata_key_of job.expr.store_as) (zarray ∷ chunks) (key_of (plan_in c job).arrays k)
    (behind zarray chunks (key_of (plan_in c job).arrays k) (in_plan (plan_in c job) op task (length (plan_in c job).ops) k first number listed)))

-- the key of a piece is one of them
pub piece_listed : (c : RunCase) (job : Job) (q : Piece) → Sound (plan_in c job) → IsPiece (job_run c job) q → Contains (asked_keys c.options job) (piece_key (job_run c job) q)
piece_listed c job (Text zero) sound piece = (zero, omega arith, refl)
piece_listed c job (Text (suc zero)) sound piece = (suc zero, omega arith, refl)
piece_listed c job (Text (suc (suc n))) sound piece = absurd (omega arith)
piece_listed c job (Chunk k) sound piece =
    let (op, task, w) = some_task (plan_in c job) sound k.array k.coord piece in
    written_key c job op task k w.operation w.number w.cell

-- ---- a run that was started

all_replicated : (n : ℕ) → All (λ (d : Bool). d ≡ false) (replicate n false)
all_replicated n k d below = get_or-replicate n k false d (let l = length-replicate n false in omega (arith, below, l))

-- how many tasks aren't done at first where none is
abbrev pub FreshLaw : Type 0
FreshLaw = (done : List Bool) → All (λ d. d ≡ false) done → undone_among (opening done).tasks ≡ length done

module _ (c : RunCase) (job : Job) (laws : PlanLaws c job) (start : Shown) (cleared : IsCleared c.options c.text c.old.depot start job) where
  pub keys : KeysApart (job_run c job)
  keys = apart_run c job laws cleared.own

  pub left_old : WhereQuiet c job (λ env. IsLeft (job_run c job) env c.old.depot)
  left_old entry told calm =
      laws.left (job_run c job) c.old.depot entry laws.sound keys told
      (λ q piece. All-contains (IsFree entry) (asked_keys c.options job) (piece_key (job_run c job) q) (cleared.free entry told) (piece_listed c job q laws.sound piece)) calm

  -- the store is open for the run, where nothing wrong was late when it began
  pub open_cleared : IsCalm c.options c.text c.old.depot → IsOpen (job_run c job) start
  open_cleared calm =
      open_start c job laws start cleared.spared
      (λ entry told. left_old entry told (subst (λ (h : Option Contents). IsCalmFor (job_run c job) h c.old.depot.late) told (calm job cleared.accepted cleared.planned)))

  module _ (lack : Bool) (histories : HistoryLaws) (fresh : FreshLaw) (asked : ℕ) (once : OnceEach asked c.old.depot start) where
    abbrev pub none : List Bool
    none = none_done (plan_in c job)

    module _ (step : Steps (RunChange (job_run c job) start) 0 last_count start c.new.depot)
        (first : (env : Elements) → IsLeft (job_run c job) env start → IsTextFirst (job_run c job) env last_count start c.new.depot) where
      run_started : IsStarted c job
      run_started = record {
        accepted = cleared.accepted;
        planned = cleared.planned;
        sound = laws.sound;
        room = lent_within (plan_in c job) laws.sound laws.needs;
        own = cleared.own;
        apart = keys;
        free = cleared.free;
        step = run_step c job laws start cleared.spared Neither none lack step;
        opens = left_old;
        left = left_end c job laws start cleared.spared Neither none lack step;
        first = λ entry is calm.
            elim (first (env_of c job entry) (left_start c job laws start cleared.spared entry is calm)) [
              | inl step ↦ inr (stepped_then (stepped_none cleared.spared) (stepped step))
              | inr holds ↦ inl holds
            ];
      }

      counted : (t : TableView) → HasEnded (started_case c job laws start cleared.spared Neither none lack) ended.Complete t → IsCounted c job (asked + 3) (run_counts_in t.history)
      counted t ends =
          let all = fresh none (all_replicated (task_count (plan_in c job))) in
          let length_is : length none ≡ task_count (plan_in c job) = length-replicate (task_count (plan_in c job)) false in
          let least = ends.counts.0 in (
            (
              t.history,
              t.state,
              history_of c job laws start cleared.spared Neither none lack ended.Complete t ends,
              (ends.driven.decided.1, refl, refl, once_before asked 3 (plan_in c job) t.history c.old.depot start c.new.depot once ends.once),
            ),
            omega (arith, least, all, length_is),
            λ alone. (let exactly = ends.counts.1 alone in omega (arith, exactly, all, length_is)),
            few_failures c job laws start cleared.spared Neither none lack ended.Complete t ends ends.driven.decided.0,
            few_starts c job laws start cleared.spared Neither none lack ended.Complete t ends,
          )

      -- what a run comes to whose tasks were run
      ended_by : (o : Outcome) (t : TableView) → HasEnded (started_case c job laws start cleared.spared Neither none lack) o t → Ended lack c job (asked + 3) (outcome_answer (plan_in c job) o (run_counts_in t.history))
      ended_by ended.Complete t ends = (
        run_started,
        stored c job laws start cleared.spared Neither none lack step (λ entry is calm. ends.complete (env_of c job entry) (left_start c job laws start cleared.spared entry is calm)),
        counted t ends,
      )
      ended_by (ended.Broken op task) t ends =
          let is = broken_task c job laws start cleared.spared Neither none lack histories t op task ends in (
            broken_rose c job laws start cleared.spared Neither none lack histories t op task ends,
            (
              job,
              run_started,
              (
                op,
                refl,
                is.operation,
                is.number,
                λ entry k held listed. All-contains (IsFree entry) (asked_keys c.options job) (key_of (plan_in c job).arrays k) (cleared.free entry held) (written_key c job op task k is.operation is.number listed),
                λ entry held calm. ends.texts (env_of c job entry) (left_start c job laws start cleared.spared entry held calm),
                (
                  t.history,
                  t.state,
                  history_of c job laws start cleared.spared Neither none lack (ended.Broken op task) t ends,
                  broken_by c job laws start cleared.spared Neither none lack histories t op task ends,
                ),
              ),
            ),
          )
      ended_by (ended.BadChunk key got want) t ends = (
        job,
        run_started,
        (
          ends.bad,
          λ entry is calm. ends.texts (env_of c job entry) (left_start c job laws start cleared.spared entry is calm),
          λ entry is calm. ends.input (env_of c job entry) (left_start c job laws start cleared.spared entry is calm),
        ),
      )
      ended_by ended.Lacked t ends = inr (job, run_started, inr ends.lacked)

      -- and where none was
      texts_put : (f : RunFault) → IsUnrun (started_case c job laws start cleared.spared Neither none lack) f → Stepped (TextPut c job) c.old.depot c.new.depot
      texts_put f unrun = stepped_then (stepped_none cleared.spared) (stepped_wider (λ key value change. change) (stepped unrun.refused))

      unrun_by : (f : RunFault) → IsUnrun (started_case c job laws start cleared.spared Neither none lack) f → Ran lack c (fault_answer (record_key_of job.expr.store_as) f)
      unrun_by (text.TextFailed key) unrun = (
        rose_since c job laws start cleared.spared (c.options.retries + 1) unrun.cause.1,
        inr (inr (
          job,
          run_started,
          (
            unrun.cause.0,
            texts_put (text.TextFailed key) unrun,
            λ entry is calm. elim (unrun.unstored (env_of c job entry) (left_start c job laws start cleared.spared entry is calm)) [
              | inl first ↦ inl (first.0, inl (stepped_then (stepped_none cleared.spared) (stepped first.1)))
              | inr held ↦ inr held
            ],
          ),
        )),
      )
      unrun_by text.ShareFailed unrun = (
        rose_since c job laws start cleared.spared (c.options.retries + 1) unrun.cause,
        inr (inr (
          job,
          run_started,
          (
            inl refl,
            texts_put text.ShareFailed unrun,
            λ entry is calm. inl (refl, inr (unrun.unstored (env_of c job entry) (left_start c job laws start cleared.spared entry is calm))),
          ),
        )),
      )
      unrun_by text.NoMemory unrun = inr (job, run_started, inl (texts_put text.NoMemory unrun))

    -- what a run comes to
    pub run_ended : (result : Result RunEnd RunFault) → Driven (started_case c job laws start cleared.spared Neither none lack) result
        → Ended lack c job (asked + 3) (drive_answer (record_key_of job.expr.store_as) (plan_in c job) result)
    run_ended (Ok e) told = ended_by told.step told.first e.outcome e.table told.ended
    run_ended (Err f) told = unrun_by told.step told.first f told.unrun

-- ---- the report

-- a run whose output is complete, and whose line was written
pub run_done : (lack : Bool) (c : RunCase) (job : Job) (n : RunCounts) → Ended lack c job (run_keys c.options c.text job) (Ok n)
    → WithinStarts (run_limits c.options c.text job).begun (plan_in c job) n c.old.depot c.new.depot
    → WroteTo c (report_line (plan_in c job) n) (length (report_line (plan_in c job) n)) → Ran lack c Done
run_done lack c job n h calls wrote = (job, h.0, (h.1, (n, h.2, calls, wrote)))

pub run_unreported : (lack : Bool) (c : RunCase) (job : Job) (n : RunCounts) → Ended lack c job (run_keys c.options c.text job) (Ok n)
    → WithinStarts (run_limits c.options c.text job).begun (plan_in c job) n c.old.depot c.new.depot → Rose 1 c.old.sink.faults c.new.sink.faults
    → ((k : ℕ) × (k ≤ length (report_line (plan_in c job) n)) × WroteTo c (report_line (plan_in c job) n) k) → Ran lack c WriteFault
run_unreported lack c job n h calls rose wrote = (rose, (job, h.0, (h.1, (n, h.2, calls, wrote))))

-- nothing was printed
pub prints_nothing : (status : Status) (written : Option (List ℕ)) → PrintsOnly status written written
prints_nothing Done written = tt
prints_nothing WriteFault written = tt
prints_nothing status written = refl

-- a run that was started and isn't complete ends by one of four answers
pub stopped_of : (key : List ℕ) (p : PlanView) (result : Result RunEnd RunFault) → IfErr (drive_answer key p result) IsStop
stopped_of key p (Ok e) = by_outcome e.outcome (run_counts_in e.table.history)
  where
    by_outcome : (o : Outcome) (counts : RunCounts) → IfErr (outcome_answer p o counts) IsStop
    by_outcome ended.Complete counts = tt
    by_outcome (ended.Broken op task) counts = tt
    by_outcome (ended.BadChunk key got want) counts = tt
    by_outcome ended.Lacked counts = tt
stopped_of key p (Err (text.TextFailed other)) = tt
stopped_of key p (Err text.ShareFailed) = tt
stopped_of key p (Err text.NoMemory) = tt
