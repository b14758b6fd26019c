-- What a table's claims and reports rest on.
use Rattle.std.proofs.Common.{◌≡◌, ◌≢◌, ◌↔◌, inl, inr, ℕ, ◌+◌, ◌*◌, ◌<◌, ◌≤◌, Bool, IsTrue, true, false, List, [], ◌∷◌, ◌++◌, length, get_or, All, cond, Option, Some, None, refl, ap, sym, ◌∙◌, subst, arith}
use Rattle.std.specs.Prelude.{◌==◌}
use Rattle.std.proofs.lemmas.Bool.{cases_Bool, cond-true, cond-false}
use Rattle.std.proofs.lemmas.List.{length_push, get_or_default}
use Rattle.std.proofs.lemmas.List.Elements.{All-contains}
use Rattle.std.proofs.lemmas.List.Sums.{sum_by-cons, sum_by-le, get_or-le-sum_by}
use Rattle.cu_history.specs.declared.entry.Entry.{Entry}
use Rattle.cu_op.specs.PlanView.{PlanView}
use Rattle.cu_op.specs.Sound.{Sound}
use Rattle.cu_table.specs.declared.claim.Claim.{Claim}
use Rattle.cu_table.specs.declared.line.Undone.{Undone}
use Rattle.cu_table.specs.declared.state.Ending.{Ending}
use Rattle.cu_table.specs.declared.state.Ending.TheVariants.{Broken, Halted}
use Rattle.cu_table.specs.declared.state.RunningCopy.{RunningCopy}
use Rattle.cu_table.specs.declared.state.TaskId.{TaskId}
use Rattle.cu_table.specs.declared.state.TaskState.{TaskState}
use Rattle.cu_table.specs.Numbers.{task_count, task_number}
use Rattle.cu_table.specs.Machine.{Machine, no_task, state_at, AllDone, IsSingleState, NoneWaits, NoneSingle, RunsNothing, opening, one_copy_more, copy_started, copy_of}
use Rattle.cu_table.specs.Step.{CanStart, Step, Replays}
use Rattle.cu_table.specs.Table.{TableView, IsClaim, IsIdle, claim_of, Goes, NoneStarts, start_event, undone_weight}
use Rattle.cu_table.specs.Queue.{Lined, times_in, of_tasks, IsLined, IsQueue, IsTable, IsNextTask, HasNext, HasNoNext}
use Rattle.cu_table.proofs.Numbers.{number_some}
use Rattle.cu_table.proofs.Copies.{a_copy, some_copy}
use Rattle.cu_table.proofs.Keeping.{Kept, inside, replay_kept, run_more, copies_few, history_few, step_kept}
use Rattle.cu_table.proofs.Chains.{one_same}
use Rattle.cu_table.proofs.Lining.{some_list}
use Rattle.cu_table.proofs.Changing.{blocks_ready, state_own}
use Rattle.cu_table.proofs.Queues.{taken_ready, queue_taken, queue_same, undone_same}

-- a truth value isn't both
false_is : false ≡ true → ⊥
false_is e = cc

-- the view after an entry
abbrev pub gone : TableView → Entry → Machine → TableView
gone v e m = record { settings = v.settings; done = v.done; history = v.history ++ e ∷ []; state = m }

-- ---- the ready waiting tasks

-- where none is listed none waits
pub none_waits : (p : PlanView) (tasks : List TaskState) → length tasks ≡ task_count p → (q : Lined) → IsQueue p (of_tasks tasks) q → q.waiting ≡ [] → NoneWaits p (of_tasks tasks)
none_waits p tasks long q queue none op task is ready waits =
    elim (queue.lined.all op task is waits) [
      | inr missing ↦ missing
      | inl has ↦
          let n = ap (times_in (task_number p op task)) none in
          let (x, some) = some_list (task_number p op task) q.watching (omega (arith, n, has)) in
          elim (queue.lined.watching_for x op task is some).1 [
            | inl blocks ↦ blocks_ready p tasks long x op task blocks ready
            | inr over ↦ (let e = ap (times_in (task_number p op task)) (queue.quiet x over) in omega (arith, e, some))
          ]
    ]

-- each that is listed is a task's number
pub waiting_small : (p : PlanView) (m : Machine) (missing : ℕ → Type 0) (q : Lined) → IsLined p m missing q → All (λ j. j < task_count p) q.waiting
waiting_small p m missing q lined k d l =
    lined.small (get_or q.waiting k d) (
    let a = get_or-le-sum_by (λ (i : ℕ). cond {A = ℕ} (i == get_or q.waiting k d) 1 0) q.waiting k d l in
    let s = one_same (get_or q.waiting k d) (get_or q.waiting k d) refl in
    omega (arith, a, s))

module _ (v : TableView) (u : Undone) (q : Lined) (table : IsTable v u q) where
  pub kept : Kept v.settings.plan v.settings.retries v.state
  kept = (replay_kept v.settings v.done v.history v.state table.replays).0

  weight_done : (s : TaskState) → undone_weight s ≤ 0 → s.done ≡ true
  weight_done s h =
      elim (cases_Bool s.done) [
        | inl is ↦ is
        | inr isnt ↦ absurd (let e = cond-false {A = ℕ} s.done 0 1 isnt in omega (arith, e, h))
      ]

  pub finished : u.left ≡ 0 → AllDone v.settings.plan v.state
  finished none op task is =
      let a = get_or-le-sum_by undone_weight v.state.tasks (task_number v.settings.plan op task) no_task (inside v.settings.plan v.settings.retries v.state kept op task is no_task) in
      let e = table.counts.left_is in
      weight_done (state_at v.settings.plan v.state op task) (omega (arith, a, e, none))

  pub not_finished : u.left ≢ 0 → AllDone v.settings.plan v.state → ⊥
  not_finished some all =
      let a = sum_by-le undone_weight 0 v.state.tasks (λ k d l. each k d l) in
      let e = table.counts.left_is in
      some (omega (arith, a, e))
    where
      each : (k : ℕ) (d : TaskState) → k < length v.state.tasks → undone_weight (get_or v.state.tasks k d) ≤ 0
      each k d l =
          let n = kept.tasks in
          let (op, task, is, e) = number_some v.settings.plan k (omega (arith, l, n)) in
          let here : (get_or v.state.tasks k d).done ≡ true = ap (λ (s : TaskState). s.done) (get_or_default v.state.tasks k d no_task l ∙ ap (λ (i : ℕ). get_or v.state.tasks i no_task) (sym e)) ∙ all op task is in
          rw (cond-true {A = ℕ} (get_or v.state.tasks k d).done 0 1 here) (omega arith)

  -- a claim doesn't answer Idle where the machine has ended
  pub has_ended : v.state.ended ≢ None → IsTrue false ↔ IsIdle v
  has_ended some = (λ is. absurd (false_is is), λ idle. absurd (some (idle 0).1))

  -- nor where all is done
  pub all_done : u.left ≡ 0 → IsTrue false ↔ IsIdle v
  all_done none = (λ is. absurd (false_is is), λ idle. absurd ((idle 0).2 (finished none)))

  -- ---- a step more

  module _ (e : Entry) (m : Machine) (step : Step v.settings v.state e m) where
    pub replays_more : Replays v.settings v.done (v.history ++ e ∷ []) m
    replays_more = (table.replays.0, run_more v.settings (opening v.done) v.history v.state e m table.replays.1 step)

    pub entry_room : length v.history < 2 * (v.settings.retries + 2) * task_count v.settings.plan
    entry_room =
        let a = history_few v.settings v.done (v.history ++ e ∷ []) (m, replays_more) in
        let l = length_push v.history e in
        omega (arith, a, l)

    pub kept_more : Kept v.settings.plan v.settings.retries m
    kept_more = (step_kept v.settings v.state e m kept step).0

    pub goes : Goes v (gone v e m) e
    goes = record { settings = refl; done = refl; history = refl; step = step }

  -- ---- what is started next

  module _ (going : v.state.ended ≡ None) where
    pub queue_now : IsQueue v.settings.plan (of_tasks v.state.tasks) q
    queue_now = table.queue going

    -- nothing can be started
    pub none_starts : (r : Lined) → HasNoNext v.settings.plan v.settings.backups v.state.tasks v.state.copies q r → NoneWaits v.settings.plan v.state × (v.settings.backups ≡ true → NoneSingle v.settings.plan v.state)
    none_starts r none = (
      none_waits v.settings.plan v.state.tasks kept.tasks q queue_now none.none,
      λ on op task is single.
          let n = kept.counts op task is in
          let one = single.1 in
          let (worker, has) = some_copy op task v.state.copies (omega (arith, n, one)) in
          All-contains (λ (c : RunningCopy). IsSingleState (get_or v.state.tasks (task_number v.settings.plan c.op c.task) no_task) → ⊥) v.state.copies (a_copy worker op task) (none.alone on) has single,
    )

    -- a ready task that waits can be started
    listed_starts : NoneStarts v.settings v.state → q.waiting ≡ []
    listed_starts none = at q.waiting refl
      where
        at : (waiting : List ℕ) → q.waiting ≡ waiting → q.waiting ≡ []
        at [] is = is
        at (x ∷ rest) is =
            let e = ap (times_in x) is in
            let c = sum_by-cons (λ (i : ℕ). cond {A = ℕ} (i == x) 1 0) x rest in
            let s = one_same x x refl in
            let (op, task, task_is, number_is) = number_some v.settings.plan x (queue_now.lined.small x (omega (arith, e, c, s))) in
            let can = queue_now.lined.ready op task task_is (subst (λ (n : ℕ). 1 ≤ times_in n q.waiting) (sym number_is) (omega (arith, e, c, s))) in
            absurd (none.0 op task task_is can.0 can.1)

    -- where nothing can be started there is no next task
    pub no_next : HasNext v.settings.plan v.settings.backups v.state.tasks q → NoneStarts v.settings v.state → ⊥
    no_next (inl waits) none = waits (listed_starts none)
    no_next (inr second) none = let (id, task_is, single) = second.1 in none.1 second.0 id.op id.task task_is single

    -- whether a claim would answer Idle
    pub is_idle : (b : Bool) → u.left ≢ 0 → (IsTrue b → HasNoNext v.settings.plan v.settings.backups v.state.tasks v.state.copies q q)
        → (b ≡ false → HasNext v.settings.plan v.settings.backups v.state.tasks q) → IsTrue b ↔ IsIdle v
    is_idle b some none next = (
      λ is worker. (refl, going, not_finished some, none_starts q (none is)),
      λ idle. elim (cases_Bool b) [
        | inl is ↦ is
        | inr isnt ↦ absurd (no_next (next isnt) (idle 0).3)
      ],
    )

    module _ (id : TaskId) (r : Lined) (next : IsNextTask v.settings.plan v.settings.backups v.state.tasks id q r) where
      can_start : CanStart v.settings v.state id.op id.task
      can_start = elim next.1 [
        | inl taken ↦ inl (taken_ready v.settings.plan (of_tasks v.state.tasks) id q r queue_now.lined taken next.0)
        | inr second ↦ inr (none_waits v.settings.plan v.state.tasks kept.tasks q queue_now second.none, second.on, second.single)
      ]

      pub next_few : (state_at v.settings.plan v.state id.op id.task).copies ≤ 1
      next_few = elim can_start [
        | inl can ↦ (let n = can.1.1 in omega (arith, n))
        | inr can ↦ (let n = can.2.1 in omega (arith, n))
      ]

      module _ (worker : ℕ) (free : RunsNothing v.state worker) where
        abbrev pub start_entry : Entry
        start_entry = start_event v.settings.plan worker id.op id.task

        abbrev pub start_machine : Machine
        start_machine = copy_started v.settings.plan v.state start_entry

        pub start_step : Step v.settings v.state start_entry start_machine
        start_step = (record { going = going; free = free; task = next.0; room = refl; can = can_start }, refl)

        pub start_room : length v.history < 2 * (v.settings.retries + 2) * task_count v.settings.plan
        start_room = entry_room start_entry start_machine start_step

        pub start_goes : Goes v (gone v start_entry start_machine) start_entry
        start_goes = goes start_entry start_machine start_step

        pub start_replays : Replays v.settings v.done (v.history ++ start_entry ∷ []) start_machine
        start_replays = replays_more start_entry start_machine start_step

        pub copy_room : length v.state.copies < 2 * task_count v.settings.plan
        copy_room =
            let a = copies_few v.settings.plan v.settings.retries start_machine (kept_more start_entry start_machine start_step) in
            let l = length_push v.state.copies (copy_of start_entry) in
            omega (arith, a, l)

        queue_started : IsQueue v.settings.plan (of_tasks start_machine.tasks) r
        queue_started = elim next.1 [
          | inl taken ↦ queue_taken v.settings.plan v.state.tasks start_machine.tasks kept.tasks id.op id.task next.0 (one_copy_more (state_at v.settings.plan v.state id.op id.task)) refl refl id q r queue_now taken refl refl
              (λ waits. let n = ap (λ (s : TaskState). s.copies) own in let i = waits.1 in omega (arith, n, i))
          | inr second ↦
              let single = second.single in
              subst (IsQueue v.settings.plan (of_tasks start_machine.tasks)) (sym second.same)
              (queue_same v.settings.plan v.state.tasks start_machine.tasks kept.tasks id.op id.task next.0 (one_copy_more (state_at v.settings.plan v.state id.op id.task)) refl refl q queue_now
              (λ waits. let n = single.1 in let i = waits.1 in omega (arith, n, i))
              (λ waits. let n = ap (λ (s : TaskState). s.copies) own in let i = waits.1 in omega (arith, n, i))
              (inl (queue_now.running id.op id.task next.0 single.0 (let n = single.1 in omega (arith, n)))))
        ]
          where
            own : state_at v.settings.plan (of_tasks start_machine.tasks) id.op id.task ≡ one_copy_more (state_at v.settings.plan v.state id.op id.task)
            own = state_own v.settings.plan v.state.tasks start_machine.tasks kept.tasks id.op id.task next.0 (one_copy_more (state_at v.settings.plan v.state id.op id.task)) refl

        pub start_table : IsTable (gone v start_entry start_machine) u r
        start_table = record {
          sound = table.sound;
          replays = replays_more start_entry start_machine start_step;
          counts = undone_same v.settings.plan v.state.tasks start_machine.tasks kept.tasks id.op id.task next.0 (one_copy_more (state_at v.settings.plan v.state id.op id.task)) refl refl u table.counts;
          queue = λ still. queue_started;
        }

-- ---- as the code has it

same_machine : (m n : Machine) → m.tasks ≡ n.tasks → m.copies ≡ n.copies → m.ended ≡ n.ended → m ≡ n
same_machine m n a b e =
    ap (λ (x : List TaskState). record { tasks = x; copies = m.copies; ended = m.ended }) a
    ∙ ap (λ (x : List RunningCopy). record { tasks = n.tasks; copies = x; ended = m.ended }) b
    ∙ ap (λ (x : Option Ending). record { tasks = n.tasks; copies = n.copies; ended = x }) e

-- the view after an entry, from its parts
pub gone_is : (v : TableView) (e : Entry) (m : Machine) (history : List Entry) (tasks : List TaskState) (copies : List RunningCopy) (ended : Option Ending)
    → history ≡ v.history ++ e ∷ [] → tasks ≡ m.tasks → copies ≡ m.copies → ended ≡ m.ended
    → ◌≡◌ {A = TableView} (record { settings = v.settings; done = v.done; history = history; state = record { tasks = tasks; copies = copies; ended = ended } }) (gone v e m)
gone_is v e m history tasks copies ended h a b c =
    ap (λ (x : List Entry). record { settings = v.settings; done = v.done; history = x; state = record { tasks = tasks; copies = copies; ended = ended } }) h
    ∙ ap (λ (s : Machine). record { settings = v.settings; done = v.done; history = v.history ++ e ∷ []; state = s }) (same_machine (record { tasks = tasks; copies = copies; ended = ended }) m a b c)

-- what a machine that has ended answers
pub ended_answer : (v : TableView) (worker : ℕ) (ending : Ending) (answer : Claim) → answer ≡ claim_of ending → v.state.ended ≡ Some ending → IsClaim v worker answer v
ended_answer v worker ending answer is ended = subst (λ (c : Claim). IsClaim v worker c v) (sym is) (by_kind ending ended)
  where
    by_kind : (e : Ending) → v.state.ended ≡ Some e → IsClaim v worker (claim_of e) v
    by_kind (Broken op task) so = (refl, so)
    by_kind (Halted fault) so = (refl, so)

pub legal_as : (v w : TableView) → v ≡ w → Replays v.settings v.done v.history v.state → Replays w.settings w.done w.history w.state
legal_as v w e legal = subst (λ (x : TableView). Replays x.settings x.done x.history x.state) e legal

pub sound_as : (v w : TableView) → v ≡ w → Sound v.settings.plan → Sound w.settings.plan
sound_as v w e sound = subst (λ (x : TableView). Sound x.settings.plan) e sound

-- a start as it is told
pub started_as : (v w x : TableView) (worker : ℕ) (id : TaskId) (copy : ℕ) (m : Machine) → v ≡ w → x ≡ gone v (start_event v.settings.plan worker id.op id.task) m
    → Goes v (gone v (start_event v.settings.plan worker id.op id.task) m) (start_event v.settings.plan worker id.op id.task) → copy ≡ (state_at v.settings.plan v.state id.op id.task).copies
    → Goes w x (start_event w.settings.plan worker id.op id.task) × (copy ≡ (state_at w.settings.plan w.state id.op id.task).copies)
started_as v w x worker id copy m e x_is went before =
    subst (λ (y : TableView). Goes y x (start_event y.settings.plan worker id.op id.task) × (copy ≡ (state_at y.settings.plan y.state id.op id.task).copies)) e
    (subst (λ (y : TableView). Goes v y (start_event v.settings.plan worker id.op id.task)) (sym x_is) went, before)
