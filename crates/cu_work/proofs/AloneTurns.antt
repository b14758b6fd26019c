-- One turn of a single worker: a claim, a try of the task, and its report.
use Rattle.std.proofs.Common.{◌≡◌, ◌≢◌, inl, inr, ℕ, ◌+◌, ◌-◌, ◌<◌, ◌≤◌, Bool, false, List, [], ◌∷◌, ◌++◌, length, All, Contains, Option, Some, None, Result, Ok, Err, refl, ap, sym, ◌∙◌, subst, arith}
use Rattle.std.specs.Prelude.{◌==◌, ◌||◌, is_some, if◌then◌else◌}
use Rattle.std.proofs.lemmas.Bool.{cases_Bool, cond-true, cond-false}
use Rattle.std.proofs.lemmas.List.{length_push}
use Rattle.cu_store.specs.Faults.{Rose}
use Rattle.cu_store.specs.Steps.{Shown}
use Rattle.cu_store.specs.Yard.{Served, Known, shown_by}
use Rattle.cu_store.specs.declared.yard.Spec.{Spec}
use Rattle.cu_store.specs.declared.faults.TaskFault.{TaskFault}
use Rattle.cu_store.specs.declared.faults.TaskFault.TheVariants as fault
use Rattle.cu_history.specs.declared.entry.Entry.{Entry}
use Rattle.cu_history.specs.declared.entry.EventKind.{EventKind}
use Rattle.cu_history.specs.declared.entry.EventKind.TheVariants.{Start, Done, Failed, Halt}
use Rattle.cu_history.specs.History.{is_start, is_failed, count_kind}
use Rattle.cu_work.specs.Starts.{started_calls}
use Rattle.cu_work.proofs.Started.{started_push}
use Rattle.cu_op.specs.Arrays.{maker_at}
use Rattle.cu_op.specs.PlanView.{PlanView}
use Rattle.cu_op.specs.Schedule.{op_of, key_of, task_at}
use Rattle.cu_op.specs.Sound.{Sound}
use Rattle.cu_op.proofs.TaskCells.{task_for, written_cell}
use Rattle.cu_region.specs.Passes.{IsLaterIn}
use Rattle.cu_task.specs.Serving.{ServesPlan, HasSeenInputs, HasSeenOutputs}
use Rattle.cu_task.specs.Calls.{calls_of}
use Rattle.cu_run_law.proofs.Reading.{input_or_made}
use Rattle.cu_table.specs.declared.state.RunningCopy.{RunningCopy}
use Rattle.cu_table.specs.declared.state.TaskState.{TaskState}
use Rattle.cu_table.specs.declared.state.Ending.{Ending}
use Rattle.cu_table.specs.declared.state.Ending.TheVariants.{Broken, Halted}
use Rattle.cu_table.specs.Numbers.{IsTask}
use Rattle.std.proofs.lemmas.List.Elements.{All-nil}
use Rattle.cu_table.specs.Machine.{Machine, opening, state_at, IsDone, AllDone, AreInputsDone, RunsNothing, copy_ended, without, one_copy_more, one_copy_less, done_now, failed_now}
use Rattle.cu_table.specs.Step.{Settings, Step, Run, StepOf, Replays, ending_after}
use Rattle.cu_table.specs.Table.{TableView, Goes, start_event, end_of, report_kind, is_late, KeepsFault}
use Rattle.cu_table.proofs.Copies.{a_copy, copies_of}
use Rattle.cu_table.proofs.Keeping.{Kept, state_same, step_kept, replay_kept}
use Rattle.cu_work.specs.Alone.{HasSeenDone, IsHaltOf, HasRun, IsDecided, Tried, halt_outcome}
use Rattle.cu_work.specs.declared.outcome.Outcome.{Outcome}
use Rattle.cu_work.specs.declared.outcome.Outcome.TheVariants as outcome
use Rattle.cu_work.proofs.StoredChunks.{as_input, read_cell}
use Rattle.cu_work.proofs.Worlds.{done_from}

-- ---- counts

pub count_push : (f : EventKind → Bool) (es : List Entry) (e : Entry) → count_kind f (es ++ e ∷ []) ≡ count_kind f es + (if f e.kind then 1 else 0)
count_push f [] e = omega arith
count_push f (d ∷ es) e = let h = count_push f es e in omega (arith, h)

two_counts : (f : EventKind → Bool) (a b c : List Entry) (d e : Entry) → b ≡ a ++ d ∷ [] → c ≡ b ++ e ∷ []
    → count_kind f c ≡ count_kind f a + (if f d.kind then 1 else 0) + (if f e.kind then 1 else 0)
two_counts f a b c d e first second =
    ap (count_kind f) second ∙ (count_push f b e ∙ ap (λ (n : ℕ). n + (if f e.kind then 1 else 0)) (ap (count_kind f) first ∙ count_push f a d))

rose_more : (n k a b c : ℕ) → Rose n a b → Rose k b c → Rose (n + 0 + k) a c
rose_more n k a b c first second = omega (arith, first, second)

rose_none : (a b : ℕ) → a ≤ b → Rose 0 a b
rose_none a b more = omega (arith, more)

later_then : {specs : List Spec} {a b c : Known} → IsLaterIn specs a b → IsLaterIn specs b c → IsLaterIn specs a c
later_then first second = record {
  yard = record { promise = second.yard.promise ∙ first.yard.promise; entries = second.yard.entries ∙ first.yard.entries; lacks = second.yard.lacks ∙ first.yard.lacks };
  seen = λ key made seen. second.seen key made (first.seen key made seen);
}

more_calls : (a b c s x t : ℕ) → b ≤ a + s → c ≤ b + x → t ≡ s + x + 0 → c ≤ a + t
more_calls a b c s x t first second all = omega (arith, first, second, all)

-- ---- a claim where no copy runs

module _ (g : Settings) (m n : Machine) (op task : ℕ) (kept : Kept g.plan g.retries m) (resting : m.copies ≡ []) (step : Step g m (start_event g.plan 0 op task) n) where
  pub claimed_task : IsTask g.plan op task
  claimed_task = step.0.task

  no_copy : (state_at g.plan m op task).copies ≡ 0
  no_copy = kept.counts op task claimed_task ∙ ap (copies_of op task) resting

  pub claimed_ready : AreInputsDone g.plan m op task
  claimed_ready = elim step.0.can [
    | inl waits ↦ waits.0
    | inr single ↦ absurd (let one = single.2.1 in omega (arith, no_copy, one))
  ]

  undone_before : (state_at g.plan m op task).done ≡ false
  undone_before = elim step.0.can [
    | inl waits ↦ waits.1.0
    | inr single ↦ single.2.0
  ]

  pub claimed_goes : n.ended ≡ None
  claimed_goes = ap (λ (x : Machine). x.ended) step.1 ∙ step.0.going

  undone_after : (state_at g.plan n op task).done ≡ false
  undone_after =
      ap (λ (x : Machine). (state_at g.plan x op task).done) step.1
      ∙ (ap (λ (s : TaskState). s.done) (state_same g.plan g.retries m kept op task claimed_task (one_copy_more (state_at g.plan m op task))) ∙ undone_before)

  pub not_late : is_late g.plan n op task ≡ false
  not_late = ap (λ (b : Bool). b || is_some n.ended) undone_after ∙ ap (λ (o : Option Ending). is_some o) claimed_goes

  pub one_copy : n.copies ≡ a_copy 0 op task ∷ []
  one_copy = ap (λ (x : Machine). x.copies) step.1 ∙ ap (λ (cs : List RunningCopy). cs ++ a_copy 0 op task ∷ []) resting

  pub claimed_runs : Contains n.copies (a_copy 0 op task)
  claimed_runs = subst (λ (cs : List RunningCopy). Contains cs (a_copy 0 op task)) (sym one_copy) (0, omega arith, refl)

  start_not_done : Start ≡ Done → ⊥
  start_not_done e = cc

  -- what was done after the claim was done before
  pub done_before : (l other : ℕ) → IsTask g.plan l other → IsDone g.plan n l other → IsDone g.plan m l other
  done_before l other is done = elim (done_from g m kept (start_event g.plan 0 op task) n Start step l other is done) [
    | inl was ↦ was
    | inr now ↦ absurd (start_not_done now.0)
  ]

  -- the made chunks that the task reads were seen
  pub seen_inputs : Sound g.plan → (seen : List ℕ → Bool) → HasSeenDone g.plan m seen → HasSeenInputs g.plan op task seen
  seen_inputs sound seen all c listed made =
      let p = g.plan in
      elim (input_or_made (maker_at p.arrays c.array)) [
        | inl given ↦ absurd (made given)
        | inr maker ↦
            let w = task_for p sound maker.0 c.array c.coord (read_cell p sound op task claimed_task c listed made) maker.1 in
            let number = task_at p.arrays (op_of p maker.0) c in
            all maker.0 number (record { operation = w.operation; number = w.number }) (claimed_ready maker.0 number (c, as_input p sound op task claimed_task c listed, w)) c w.cell
      ]

-- ---- the report of such a task

abbrev ended_entry : EventKind → ℕ → ℕ → Entry
ended_entry kind op task = end_of kind 0 op task

module _ (g : Settings) (yard : Served) (m n new : Machine) (op task : ℕ) (kept : Kept g.plan g.retries m) (resting : m.copies ≡ []) (start : Step g m (start_event g.plan 0 op task) n)
    (sound : Sound g.plan) (serves : ServesPlan g.plan yard) (ks : Known × Known) (later : IsLaterIn yard.specs ks.0 ks.1) (all : HasSeenDone g.plan m ks.0.seen) where
  kept_between : Kept g.plan g.retries n
  kept_between = (step_kept g m (start_event g.plan 0 op task) n kept start).0

  pub rests : (kind : EventKind) (s : TaskState) (ended : Option Ending) → new ≡ copy_ended g.plan n (ended_entry kind op task) s ended → new.copies ≡ []
  rests kind s ended is = ap (λ (x : Machine). x.copies) is ∙ ap (without 0) (one_copy g m n op task kept resting start)

  carried : (l other : ℕ) → IsTask g.plan l other → HasSeenOutputs g.plan l other ks.0.seen → HasSeenOutputs g.plan l other ks.1.seen
  carried l other is seen c listed =
      later.seen (key_of g.plan.arrays c) (serves.cells c (written_cell g.plan sound l other c.array c.coord (record { operation = is.operation; number = is.number; cell = listed }))) (seen c listed)

  pub seen_after : (kind : EventKind) → StepOf g n kind (ended_entry kind op task) new → (kind ≡ Done → HasSeenOutputs g.plan op task ks.1.seen) → HasSeenDone g.plan new ks.1.seen
  seen_after kind step own l other is done = elim (done_from g n kept_between (ended_entry kind op task) new kind step l other is done) [
    | inl was ↦ carried l other is (all l other is (done_before g m n op task kept resting start l other is was))
    | inr now ↦
        subst (λ (k : ℕ). HasSeenOutputs g.plan k other ks.1.seen) now.1
        (subst (λ (t : ℕ). HasSeenOutputs g.plan op t ks.1.seen) now.2 (own now.0))
  ]

-- ---- a turn

none_halted : (f : TaskFault) → None ≡ Some (Halted f) → ⊥
none_halted f e = cc

broken_halted : (k t : ℕ) (f : TaskFault) → Some (Broken k t) ≡ Some (Halted f) → ⊥
broken_halted k t f e = cc

same_fault : (a b : TaskFault) → Some (Halted a) ≡ Some (Halted b) → a ≡ b
same_fault a b e = cc

not_halted_after : (retries failures k t : ℕ) (f : TaskFault) → ending_after retries failures k t ≡ Some (Halted f) → ⊥
not_halted_after retries failures k t f e = elim (cases_Bool (failures == retries)) [
  | inl last ↦ broken_halted k t f (sym (cond-true (failures == retries) (Some (Broken k t)) None last) ∙ e)
  | inr more ↦ none_halted f (sym (cond-false (failures == retries) (Some (Broken k t)) None more) ∙ e)
]

module _ (yard : Served) (first t u v : TableView) (old : Known) (ks : Known × Known) (op task : ℕ)
    (sound : Sound first.settings.plan) (serves : ServesPlan first.settings.plan yard) (has : HasRun yard first t old ks.0)
    (goes : Goes t u (start_event t.settings.plan 0 op task)) where
  legal_before : Replays first.settings t.done t.history t.state
  legal_before = subst (λ (s : Settings). Replays s t.done t.history t.state) has.settings has.legal

  kept_before : Kept first.settings.plan first.settings.retries t.state
  kept_before = (replay_kept first.settings t.done t.history t.state legal_before).0

  start_step : Step first.settings t.state (start_event first.settings.plan 0 op task) u.state
  start_step = subst (λ (s : Settings). Step s t.state (start_event s.plan 0 op task) u.state) has.settings goes.step

  between : u.settings ≡ first.settings
  between = goes.settings ∙ has.settings

  pub turn_task : IsTask first.settings.plan op task
  turn_task = claimed_task first.settings t.state u.state op task kept_before has.resting start_step

  pub turn_inputs : HasSeenInputs first.settings.plan op task ks.0.seen
  turn_inputs = seen_inputs first.settings t.state u.state op task kept_before has.resting start_step sound ks.0.seen has.seen

  pub turn_runs : Contains u.state.copies (a_copy 0 op task)
  turn_runs = claimed_runs first.settings t.state u.state op task kept_before has.resting start_step

  pub turn_on_time : is_late u.settings.plan u.state op task ≡ false
  turn_on_time =
      ap (λ (s : Settings). is_late s.plan u.state op task) between
      ∙ not_late first.settings t.state u.state op task kept_before has.resting start_step

  module _ (legal : Replays v.settings v.done v.history v.state) where
    ended_step : (kind : EventKind) → Goes u v (end_of kind 0 op task) → StepOf first.settings u.state kind (ended_entry kind op task) v.state
    ended_step kind report = subst (λ (s : Settings). StepOf s u.state kind (ended_entry kind op task) v.state) between report.step

    starts : (kind : EventKind) → Goes u v (end_of kind 0 op task) → is_start kind ≡ false
        → started_calls first.settings.plan v.history ≡ started_calls first.settings.plan t.history + calls_of first.settings.plan op task + 0
    starts kind report end =
        let p = first.settings.plan in
        ap (started_calls p) report.history ∙ started_push p u.history (end_of kind 0 op task)
        ∙ ap (λ (b : Bool). started_calls p u.history + (if b then calls_of p op task else 0)) end
        ∙ ap (λ (n : ℕ). n + 0) (ap (started_calls p) goes.history ∙ started_push p t.history (start_event t.settings.plan 0 op task))

    failures : (kind : EventKind) → Goes u v (end_of kind 0 op task)
        → count_kind is_failed v.history ≡ count_kind is_failed t.history + 0 + (if is_failed kind then 1 else 0)
    failures kind report = two_counts is_failed t.history u.history v.history (start_event t.settings.plan 0 op task) (end_of kind 0 op task) goes.history report.history

    after : (kind : EventKind) → Goes u v (end_of kind 0 op task) → (r : Result (Unit {0}) TaskFault) → Tried first.settings.plan op task yard ks r
        → is_start kind ≡ false → v.state.copies ≡ [] → (kind ≡ Done → HasSeenOutputs first.settings.plan op task ks.1.seen)
        → Rose (if is_failed kind then 1 else 0) ks.0.faults ks.1.faults
        → ((f : TaskFault) → v.state.ended ≡ Some (Halted f) → IsHaltOf first.settings.plan yard (shown_by ks.1) f)
        → HasRun yard first v old ks.1
    after kind report r tried end rested own risen cause = record {
      settings = report.settings ∙ between;
      done = report.done ∙ (goes.done ∙ has.done);
      legal = legal;
      resting = rested;
      seen = seen_after first.settings yard t.state u.state v.state op task kept_before has.resting start_step sound serves ks tried.later has.seen kind (ended_step kind report) own;
      later = later_then has.later tried.later;
      rose = subst (λ (n : ℕ). Rose n old.faults ks.1.faults) (sym (failures kind report))
          (rose_more (count_kind is_failed t.history) (if is_failed kind then 1 else 0) old.faults ks.0.faults ks.1.faults has.rose risen);
      calls = more_calls old.calls ks.0.calls ks.1.calls (started_calls first.settings.plan t.history) (calls_of first.settings.plan op task)
          (started_calls first.settings.plan v.history) has.calls tried.step.calls.1 (starts kind report end);
      cause = cause;
    }

    pub turn_done : (r : Result (Unit {0}) TaskFault) → Tried first.settings.plan op task yard ks r → Goes u v (end_of (report_kind false r) 0 op task)
        → KeepsFault (report_kind false r) r v.state → HasRun yard first v old ks.1
    turn_done (Ok x) tried report keeps =
        let step = ended_step Done report in
        after Done report (Ok x) tried refl
        (rests first.settings yard t.state u.state v.state op task kept_before has.resting start_step sound serves ks tried.later has.seen Done (done_now (state_at first.settings.plan u.state op task)) None step.1)
        (λ e. tried.seen) (rose_none ks.0.faults ks.1.faults tried.step.count)
        (λ f e. absurd (none_halted f (sym (ap (λ (x : Machine). x.ended) step.1) ∙ e)))
    turn_done (Err fault.Store) tried report keeps =
        let step = ended_step Failed report in
        after Failed report (Err fault.Store) tried refl
        (rests first.settings yard t.state u.state v.state op task kept_before has.resting start_step sound serves ks tried.later has.seen Failed (failed_now (state_at first.settings.plan u.state op task))
        (ending_after first.settings.retries (state_at first.settings.plan u.state op task).failures op task) step.1)
        (λ e. cc) tried.cause
        (λ f e. absurd (not_halted_after first.settings.retries (state_at first.settings.plan u.state op task).failures op task f (sym (ap (λ (x : Machine). x.ended) step.1) ∙ e)))
    turn_done (Err (fault.BadChunk key got want)) tried report keeps =
        let step = ended_step Halt report in
        after Halt report (Err (fault.BadChunk key got want)) tried refl
        (rests first.settings yard t.state u.state v.state op task kept_before has.resting start_step sound serves ks tried.later has.seen Halt (one_copy_less (state_at first.settings.plan u.state op task)) (Some (Halted step.1.0)) step.1.2)
        (λ e. cc) (rose_none ks.0.faults ks.1.faults tried.step.count)
        (λ f e. subst (λ (x : TaskFault). IsHaltOf first.settings.plan yard (shown_by ks.1) x) (same_fault (fault.BadChunk key got want) f (sym keeps ∙ e))
        (let (cell, listed, at, size, other, held) = tried.cause in (op, task, cell, turn_task.operation, turn_task.number, listed, at, size, other, held), tried.bad))
    turn_done (Err fault.NoMemory) tried report keeps =
        let step = ended_step Halt report in
        after Halt report (Err fault.NoMemory) tried refl
        (rests first.settings yard t.state u.state v.state op task kept_before has.resting start_step sound serves ks tried.later has.seen Halt (one_copy_less (state_at first.settings.plan u.state op task)) (Some (Halted step.1.0)) step.1.2)
        (λ e. cc) (rose_none ks.0.faults ks.1.faults tried.step.count)
        (λ f e. subst (λ (x : TaskFault). IsHaltOf first.settings.plan yard (shown_by ks.1) x) (same_fault fault.NoMemory f (sym keeps ∙ e)) tried.cause)

-- ---- before the first turn, and after the last

no_more : (s : Settings) (m n : Machine) (es : List Entry) → es ≡ [] → Run s m es n → n ≡ m
no_more s m n es none run = subst (λ (fs : List Entry). Run s m fs n → n ≡ m) (sym none) (λ (same : n ≡ m). same) run

pub ran_first : (yard : Served) (t : TableView) (k : Known) → Replays t.settings t.done t.history t.state → t.history ≡ [] → HasSeenDone t.settings.plan t.state k.seen → HasRun yard t t k k
ran_first yard t k legal fresh seen =
    let opened : t.state ≡ opening t.done = no_more t.settings (opening t.done) t.state t.history fresh legal.1 in
    record {
      settings = refl;
      done = refl;
      legal = legal;
      resting = ap (λ (m : Machine). m.copies) opened;
      seen = seen;
      later = record { yard = record { promise = refl; entries = refl; lacks = refl }; seen = λ key made is. is };
      rose = let none = ap (count_kind is_failed) fresh in omega (arith, none);
      calls = omega arith;
      cause = λ f e. absurd (none_halted f (sym (ap (λ (m : Machine). m.ended) opened) ∙ e));
    }

-- nobody runs anything where no copy runs
pub nobody_runs : (m : Machine) (worker : ℕ) → m.copies ≡ [] → RunsNothing m worker
nobody_runs m worker resting = subst (λ (cs : List RunningCopy). All (λ c. c.worker ≢ worker) cs) (sym resting) (All-nil (λ (c : RunningCopy). c.worker ≢ worker))

-- the entries that may still come
pub fewer_left : (most : ℕ) (t u v : TableView) (e f : Entry) → Goes t u e → Goes u v f → length u.history ≤ most → most + 1 - length v.history < most + 1 - length t.history
fewer_left most t u v e f one two few =
    let l = ap length one.history ∙ length_push t.history e in
    let k = ap length two.history ∙ length_push u.history f in
    omega (arith, l, k, few)

-- ---- the outcome

pub finished_decided : (p : PlanView) (t u : TableView) → t.settings.plan ≡ p → u ≡ t → t.state.ended ≡ None → AllDone t.settings.plan t.state → IsDecided p u.state outcome.Complete
finished_decided p t u plan same going all =
    subst (λ (x : TableView). IsDecided p x.state outcome.Complete) (sym same) (going, subst (λ (q : PlanView). AllDone q t.state) plan all)

fault_decided : (p q : PlanView) (yard : Served) (shown : Shown) (m : Machine) (f : TaskFault) → IsHaltOf q yard shown f → m.ended ≡ Some (Halted f) → IsDecided p m (halt_outcome f)
fault_decided p q yard shown m fault.Store cause ended = absurd cause
fault_decided p q yard shown m (fault.BadChunk key got want) cause ended = ended
fault_decided p q yard shown m fault.NoMemory cause ended = ended

pub halted_decided : (p q : PlanView) (yard : Served) (shown : Shown) (t u : TableView) (f : TaskFault) (o : Outcome) → o ≡ halt_outcome f → u ≡ t → IsHaltOf q yard shown f
    → t.state.ended ≡ Some (Halted f) → IsDecided p u.state o
halted_decided p q yard shown t u f o is same cause ended =
    subst (λ (x : Outcome). IsDecided p u.state x) (sym is) (subst (λ (x : TableView). IsDecided p x.state (halt_outcome f)) (sym same) (fault_decided p q yard shown t.state f cause ended))
