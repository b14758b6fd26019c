-- What a report leaves: one step of the machine, by how the copy ended and whether that is late.
use Rattle.std.proofs.Common.{◌≡◌, ◌⊎◌, inl, inr, ℕ, zero, suc, ◌<◌, ◌≤◌, Bool, true, false, List, [], ◌∷◌, ◌++◌, length, get_or, set, Option, Some, None, Result, Ok, Err, refl, ap, sym, ◌∙◌, subst}
use Rattle.std.specs.Prelude.{is_some, ◌||◌}
use Rattle.std.proofs.lemmas.List.{get_or-set_same, length-set}
use Rattle.cu_store.specs.declared.faults.TaskFault.{TaskFault}
use Rattle.cu_store.specs.declared.faults.TaskFault.TheVariants.{Store, BadChunk, NoMemory}
use Rattle.cu_history.specs.declared.entry.Entry.{Entry}
use Rattle.cu_history.specs.declared.entry.EventKind.{EventKind}
use Rattle.cu_history.specs.declared.entry.EventKind.TheVariants.{Done, Late}
use Rattle.cu_table.specs.declared.end.End.{End}
use Rattle.cu_table.specs.declared.line.Undone.{Undone}
use Rattle.cu_table.specs.declared.state.Ending.{Ending}
use Rattle.cu_table.specs.declared.state.RunningCopy.{RunningCopy}
use Rattle.cu_table.specs.declared.state.TaskId.{TaskId}
use Rattle.cu_table.specs.declared.state.TaskState.{TaskState}
use Rattle.cu_table.specs.Numbers.{IsTask, task_count, task_number}
use Rattle.cu_table.specs.Machine.{Machine, no_task, state_at, Runs, without, copy_ended}
use Rattle.cu_table.specs.Step.{Step, Replays}
use Rattle.cu_table.specs.Table.{TableView, IsReported, end_of, report_kind, state_after, ending_of, KeepsFault, is_late}
use Rattle.cu_table.specs.Queue.{Lined, of_tasks, IsQueue, IsTable, AreUndone, LeavesBy}
use Rattle.cu_table.proofs.Keeping.{inside, counted, state_small}
use Rattle.cu_table.proofs.Tables.{kept, replays_more, goes, gone, gone_is}

module _ (v : TableView) (u : Undone) (q : Lined) (table : IsTable v u q) (worker op task : ℕ) (runs : Runs v.state worker op task) where
  abbrev was : TaskState
  was = state_at v.settings.plan v.state op task

  pub report_task : IsTask v.settings.plan op task
  report_task = (counted v.settings.plan v.settings.retries v.state (kept v u q table) worker op task runs).0

  pub report_copy : 1 ≤ was.copies
  report_copy = (counted v.settings.plan v.settings.retries v.state (kept v u q table) worker op task runs).1

  pub report_failures : v.state.ended ≡ None → was.done ≡ false → was.failures ≤ v.settings.retries
  report_failures going undone = (state_small v.settings.plan v.settings.retries v.state (kept v u q table) op task report_task).failures going undone

  late_why : (d : Bool) (o : Option Ending) → d || is_some o ≡ true → (d ≡ true) ⊎ ((ending : Ending) × (o ≡ Some ending))
  late_why true o late = inl refl
  late_why false None late = absurd (cc)
  late_why false (Some ending) late = inr (ending, refl)

  early_why : (d : Bool) (o : Option Ending) → d || is_some o ≡ false → (d ≡ false) × (o ≡ None)
  early_why true o late = absurd (cc)
  early_why false None late = (refl, refl)
  early_why false (Some ending) late = absurd (cc)

  abbrev id : TaskId
  id = record { op = op; task = task }

  -- what the end of the copy leaves, where it is so late and ended so
  abbrev machine_after : Bool → Result (Unit {0}) TaskFault → Machine
  machine_after late outcome =
      copy_ended v.settings.plan v.state (end_of (report_kind late outcome) worker op task) (state_after (report_kind late outcome) was)
      (ending_of v.settings.retries id was.failures v.state.ended outcome (report_kind late outcome))

  late_step : (late : (was.done ≡ true) ⊎ ((ending : Ending) × (v.state.ended ≡ Some ending))) (outcome : Result (Unit {0}) TaskFault) → Step v.settings v.state (end_of Late worker op task) (machine_after true outcome)
  late_step late (Ok x) = (record { runs = runs; late = late; room = refl }, refl)
  late_step late (Err Store) = (record { runs = runs; late = late; room = refl }, refl)
  late_step late (Err (BadChunk key got want)) = (record { runs = runs; late = late; room = refl }, refl)
  late_step late (Err NoMemory) = (record { runs = runs; late = late; room = refl }, refl)

  early_step : was.done ≡ false → v.state.ended ≡ None → (outcome : Result (Unit {0}) TaskFault) → Step v.settings v.state (end_of (report_kind false outcome) worker op task) (machine_after false outcome)
  early_step undone going (Ok x) =
      (record { going = going; runs = runs; undone = undone; room = refl }, ap (λ (o : Option Ending). copy_ended v.settings.plan v.state (end_of Done worker op task) (state_after Done was) o) going)
  early_step undone going (Err Store) = (record { going = going; runs = runs; undone = undone; room = refl }, refl)
  early_step undone going (Err (BadChunk key got want)) = (record { going = going; runs = runs; undone = undone; room = refl }, (BadChunk key got want, tt, refl))
  early_step undone going (Err NoMemory) = (record { going = going; runs = runs; undone = undone; room = refl }, (NoMemory, tt, refl))

  step_by : (late : Bool) → was.done || is_some v.state.ended ≡ late → (outcome : Result (Unit {0}) TaskFault) → Step v.settings v.state (end_of (report_kind late outcome) worker op task) (machine_after late outcome)
  step_by true is outcome = late_step (late_why was.done v.state.ended is) outcome
  step_by false is outcome = let (undone, going) = early_why was.done v.state.ended is in early_step undone going outcome

  abbrev pub report_entry : Result (Unit {0}) TaskFault → Entry
  report_entry outcome = end_of (report_kind (is_late v.settings.plan v.state op task) outcome) worker op task

  abbrev pub report_machine : Result (Unit {0}) TaskFault → Machine
  report_machine outcome = machine_after (is_late v.settings.plan v.state op task) outcome

  pub report_step : (outcome : Result (Unit {0}) TaskFault) → Step v.settings v.state (report_entry outcome) (report_machine outcome)
  report_step outcome = step_by (is_late v.settings.plan v.state op task) refl outcome

  keeps_by : (late : Bool) (outcome : Result (Unit {0}) TaskFault) → KeepsFault (report_kind late outcome) outcome (machine_after late outcome)
  keeps_by true outcome = tt
  keeps_by false (Ok x) = tt
  keeps_by false (Err Store) = tt
  keeps_by false (Err (BadChunk key got want)) = refl
  keeps_by false (Err NoMemory) = refl

  pub report_keeps : (outcome : Result (Unit {0}) TaskFault) → KeepsFault (report_entry outcome).kind outcome (report_machine outcome)
  report_keeps outcome = keeps_by (is_late v.settings.plan v.state op task) outcome

  -- what its task is left as
  late_done : (was.done ≡ true) ⊎ ((ending : Ending) × (v.state.ended ≡ Some ending)) → v.state.ended ≡ None → was.done ≡ true
  late_done (inl done) going = done
  late_done (inr (ending, is)) going = absurd (cc (is, going))

  leaves_by : (late : Bool) → was.done || is_some v.state.ended ≡ late → (outcome : Result (Unit {0}) TaskFault)
      → LeavesBy (report_kind late outcome) was (state_after (report_kind late outcome) was) (ending_of v.settings.retries id was.failures v.state.ended outcome (report_kind late outcome))
  leaves_by true is (Ok x) = (report_copy, late_done (late_why was.done v.state.ended is), refl)
  leaves_by true is (Err Store) = (report_copy, late_done (late_why was.done v.state.ended is), refl)
  leaves_by true is (Err (BadChunk key got want)) = (report_copy, late_done (late_why was.done v.state.ended is), refl)
  leaves_by true is (Err NoMemory) = (report_copy, late_done (late_why was.done v.state.ended is), refl)
  leaves_by false is (Ok x) = let (undone, going) = early_why was.done v.state.ended is in (report_copy, undone, refl, going)
  leaves_by false is (Err Store) = let (undone, going) = early_why was.done v.state.ended is in (report_copy, undone, refl)
  leaves_by false is (Err (BadChunk key got want)) = (report_copy, (λ e. absurd (cc)), refl)
  leaves_by false is (Err NoMemory) = (report_copy, (λ e. absurd (cc)), refl)

  pub report_leaves : (outcome : Result (Unit {0}) TaskFault)
      → LeavesBy (report_kind (is_late v.settings.plan v.state op task) outcome) was (state_after (report_kind (is_late v.settings.plan v.state op task) outcome) was)
      (ending_of v.settings.retries id was.failures v.state.ended outcome (report_kind (is_late v.settings.plan v.state op task) outcome))
  report_leaves outcome = leaves_by (is_late v.settings.plan v.state op task) refl outcome

  module _ (outcome : Result (Unit {0}) TaskFault) (now : Undone) (r : Lined) where
    pub report_table : AreUndone v.settings.plan (report_machine outcome).tasks now
        → ((report_machine outcome).ended ≡ None → IsQueue v.settings.plan (of_tasks (report_machine outcome).tasks) r) → IsTable (gone v (report_entry outcome) (report_machine outcome)) now r
    report_table counts queue = record {
      sound = table.sound;
      replays = replays_more v u q table (report_entry outcome) (report_machine outcome) (report_step outcome);
      counts = counts;
      queue = queue;
    }

  going_by : (late : Bool) → was.done || is_some v.state.ended ≡ late → (outcome : Result (Unit {0}) TaskFault)
      → ending_of v.settings.retries id was.failures v.state.ended outcome (report_kind late outcome) ≡ None → v.state.ended ≡ None
  going_by true is (Ok x) none = none
  going_by true is (Err Store) none = none
  going_by true is (Err (BadChunk key got want)) none = none
  going_by true is (Err NoMemory) none = none
  going_by false is outcome none = (early_why was.done v.state.ended is).1

  -- ---- as the code has it

  abbrev pub the_end : Result (Unit {0}) TaskFault → End
  the_end outcome = record {
    kind = report_kind (is_late v.settings.plan v.state op task) outcome;
    was = was;
    state = state_after (report_kind (is_late v.settings.plan v.state op task) outcome) was;
    ended = ending_of v.settings.retries id was.failures v.state.ended outcome (report_kind (is_late v.settings.plan v.state op task) outcome);
  }

  module _ (outcome : Result (Unit {0}) TaskFault) (number : ℕ) (number_is : number ≡ task_number v.settings.plan op task) (s : TaskState) (read : s ≡ get_or v.state.tasks number no_task) (e : End)
      (kind : e.kind ≡ report_kind (s.done || is_some v.state.ended) outcome) (e_was : e.was ≡ s) (state : e.state ≡ state_after e.kind s)
      (ended : e.ended ≡ ending_of v.settings.retries id s.failures v.state.ended outcome e.kind) where
    pub s_is : s ≡ was
    s_is = read ∙ ap (λ (n : ℕ). get_or v.state.tasks n no_task) number_is

    pub end_is : e ≡ the_end outcome
    end_is = same_end e (the_end outcome) kind_is (e_was ∙ s_is) (state ∙ ap (λ (k : EventKind). state_after k s) kind_is ∙ ap (state_after (the_end outcome).kind) s_is)
        (ended ∙ ap (λ (k : EventKind). ending_of v.settings.retries id s.failures v.state.ended outcome k) kind_is
        ∙ ap (λ (x : TaskState). ending_of v.settings.retries id x.failures v.state.ended outcome (the_end outcome).kind) s_is)
      where
        kind_is : e.kind ≡ (the_end outcome).kind
        kind_is = kind ∙ ap (λ (x : TaskState). report_kind (x.done || is_some v.state.ended) outcome) s_is

        same_end : (a b : End) → a.kind ≡ b.kind → a.was ≡ b.was → a.state ≡ b.state → a.ended ≡ b.ended → a ≡ b
        same_end a b k w t o =
            ap (λ (x : EventKind). record { kind = x; was = a.was; state = a.state; ended = a.ended }) k
            ∙ ap (λ (x : TaskState). record { kind = b.kind; was = x; state = a.state; ended = a.ended }) w
            ∙ ap (λ (x : TaskState). record { kind = b.kind; was = b.was; state = x; ended = a.ended }) t
            ∙ ap (λ (x : Option Ending). record { kind = b.kind; was = b.was; state = b.state; ended = x }) o

    module _ (states : List TaskState) (set_is : states ≡ set v.state.tasks number e.state) where
      number_in : task_number v.settings.plan op task < length v.state.tasks
      number_in = inside v.settings.plan v.settings.retries v.state (kept v u q table) op task report_task no_task

      states_are : states ≡ set v.state.tasks (task_number v.settings.plan op task) e.state
      states_are = set_is ∙ ap (λ (n : ℕ). set v.state.tasks n e.state) number_is

      pub line_states : length states ≡ task_count v.settings.plan
      line_states = ap length states_are ∙ length-set v.state.tasks (task_number v.settings.plan op task) e.state ∙ (kept v u q table).tasks

      pub line_state : get_or states (task_number v.settings.plan op task) no_task ≡ e.state
      line_state = ap (λ (ts : List TaskState). get_or ts (task_number v.settings.plan op task) no_task) states_are ∙ get_or-set_same v.state.tasks (task_number v.settings.plan op task) e.state no_task number_in

      pub line_leaves : LeavesBy e.kind e.was e.state e.ended
      line_leaves = subst (λ (x : End). LeavesBy x.kind x.was x.state x.ended) (sym end_is) (report_leaves outcome)

      before_is : v.state.tasks ≡ set states (task_number v.settings.plan op task) e.was
      before_is =
          set_again v.state.tasks (task_number v.settings.plan op task) e.state
          ∙ ap (λ (ts : List TaskState). set ts (task_number v.settings.plan op task) was) (sym states_are)
          ∙ ap (set states (task_number v.settings.plan op task)) (sym (e_was ∙ s_is))
        where
          set_again : (xs : List TaskState) (i : ℕ) (a : TaskState) → xs ≡ set (set xs i a) i (get_or xs i no_task)
          set_again [] i a = refl
          set_again (x ∷ xs) zero a = refl
          set_again (x ∷ xs) (suc i) a = ap (λ (ys : List TaskState). x ∷ ys) (set_again xs i a)

      pub line_counts : AreUndone v.settings.plan (set states (task_number v.settings.plan op task) e.was) u
      line_counts = subst (λ (ts : List TaskState). AreUndone v.settings.plan ts u) before_is table.counts

      pub line_queue : e.ended ≡ None → IsQueue v.settings.plan (of_tasks (set states (task_number v.settings.plan op task) e.was)) q
      line_queue none =
          subst (λ (ts : List TaskState). IsQueue v.settings.plan (of_tasks ts) q) before_is
          (table.queue (going_by (is_late v.settings.plan v.state op task) refl outcome (sym (ap (λ (x : End). x.ended) end_is) ∙ none)))

      -- the table and its view afterwards
      machine_tasks : states ≡ (report_machine outcome).tasks
      machine_tasks = states_are ∙ ap (λ (x : End). set v.state.tasks (task_number v.settings.plan op task) x.state) end_is

      pub table_after : (now : Undone) (r : Lined) → AreUndone v.settings.plan states now → (e.ended ≡ None → IsQueue v.settings.plan (of_tasks states) r) → IsTable (gone v (report_entry outcome) (report_machine outcome)) now r
      table_after now r counts queue =
          report_table outcome now r (subst (λ (ts : List TaskState). AreUndone v.settings.plan ts now) machine_tasks counts)
          (λ none. subst (λ (ts : List TaskState). IsQueue v.settings.plan (of_tasks ts) r) machine_tasks (queue (ap (λ (x : End). x.ended) end_is ∙ none)))

      pub view_after : (history : List Entry) (copies : List RunningCopy) (o : Option Ending) → history ≡ v.history ++ (record { kind = e.kind; worker = worker; op = op; task = task; room = 0 }) ∷ []
          → copies ≡ without worker v.state.copies → o ≡ e.ended
          → ◌≡◌ {A = TableView} (record { settings = v.settings; done = v.done; history = history; state = record { tasks = states; copies = copies; ended = o } }) (gone v (report_entry outcome) (report_machine outcome))
      view_after history copies o h c x =
          gone_is v (report_entry outcome) (report_machine outcome) history states copies o
          (h ∙ ap (λ (y : End). v.history ++ (record { kind = y.kind; worker = worker; op = op; task = task; room = 0 }) ∷ []) end_is) machine_tasks c (x ∙ ap (λ (y : End). y.ended) end_is)

  -- what is told of the report
  module _ (outcome : Result (Unit {0}) TaskFault) (w x : TableView) (now_is : v ≡ w) (x_is : x ≡ gone v (report_entry outcome) (report_machine outcome)) where
    pub reported_as : IsReported w (end_of (report_kind (is_late w.settings.plan w.state op task) outcome) worker op task) outcome x
    reported_as =
        subst (λ (y : TableView). IsReported y (end_of (report_kind (is_late y.settings.plan y.state op task) outcome) worker op task) outcome x) now_is
        (subst (λ (y : TableView). IsReported v (report_entry outcome) outcome y) (sym x_is)
        (goes v u q table (report_entry outcome) (report_machine outcome) (report_step outcome), report_keeps outcome))

    pub legal_after : Replays x.settings x.done x.history x.state
    legal_after =
        subst (λ (y : TableView). Replays y.settings y.done y.history y.state) (sym x_is) (replays_more v u q table (report_entry outcome) (report_machine outcome) (report_step outcome))
