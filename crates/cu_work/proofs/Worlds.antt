-- What each event of the world keeps.
use Rattle.std.proofs.Common.{◌≡◌, ◌≢◌, ◌⊎◌, inl, inr, ℕ, zero, suc, ◌<◌, Bool, true, false, List, [], ◌∷◌, length, get_or, map, All, Contains, Option, Some, None, refl, ap, sym, ◌∙◌, subst, arith}
use Rattle.std.specs.Prelude.{bytes_eq}
use Rattle.std.proofs.lemmas.Slice.Eq.{bytes_eq-Decides}
use Rattle.std.proofs.lemmas.Bool.{cases_Bool, cond-true, cond-false}
use Rattle.std.proofs.lemmas.List.Elements.{All-contains, All-cons, All-push, All-nil}
use Rattle.cu_store.specs.Held.{Contents}
use Rattle.cu_op.specs.Arrays.{layout_at, grid_at, is_inlined, maker_at}
use Rattle.cu_op.specs.PlanView.{PlanView}
use Rattle.cu_op.specs.Schedule.{op_of, key_of, cell_value, task_at, WritesCell, IsReady as IsReadyOf}
use Rattle.cu_op.specs.Sound.{IsCell}
use Rattle.cu_op.specs.Elements.{Elements}
use Rattle.cu_op.specs.Value.{rule, plan_value, stored_inputs}
use Rattle.cu_op.specs.Walks.{written_chunks}
use Rattle.cu_op.specs.Within.{fetched_chunks, with_inlined}
use Rattle.cu_op.specs.declared.cells.Cell.{Cell}
use Rattle.cu_op.specs.InputCells.{input_cells}
use Rattle.cu_op.proofs.Plans.{grid_ok}
use Rattle.cu_op.proofs.TaskCells.{makes_of, task_for, written_cell, ready_rule}
use Rattle.cu_op.proofs.Spellings.{spelled_alike}
use Rattle.cu_op.proofs.Values.{value_solves}
use Rattle.cu_run_law.specs.Left.{IsLeft, Begun}
use Rattle.cu_run_law.specs.Pieces.{chunks_alone, Chunk, HoldsPiece, HoldsTask, IsComplete}
use Rattle.cu_run_law.proofs.Elements.{HaveRanges}
use Rattle.cu_run_law.proofs.Keeping.{left_kept, piece_stays}
use Rattle.cu_shape.specs.Index.{IsInside}
use Rattle.cu_run_law.proofs.Reading.{task_ready, input_or_made, not_none, all_held, elements_held}
use Rattle.cu_history.specs.declared.entry.Entry.{Entry}
use Rattle.cu_history.specs.declared.entry.EventKind.{EventKind}
use Rattle.cu_history.specs.declared.entry.EventKind.TheVariants.{Start, Done, Failed, Halt, Late}
use Rattle.cu_table.specs.declared.state.TaskId.{TaskId}
use Rattle.cu_table.specs.declared.state.TaskState.{TaskState}
use Rattle.cu_table.specs.declared.state.RunningCopy.{RunningCopy}
use Rattle.cu_table.specs.Numbers.{IsTask, task_number}
use Rattle.cu_table.specs.declared.state.Ending.{Ending}
use Rattle.cu_table.specs.declared.state.Ending.TheVariants.{Halted}
use Rattle.cu_table.specs.Machine.{Machine, with_task, copy_started, copy_ended, one_copy_more, one_copy_less, done_now, failed_now, no_task, state_at, IsDone, AllDone, AreInputsDone, Runs, opening, opened}
use Rattle.cu_table.specs.Step.{Settings, Step, StepOf, MayStart, ending_after}
use Rattle.cu_table.proofs.Copies.{a_copy, All-without, some_copy}
use Rattle.cu_table.proofs.Keeping.{Kept, state_same, state_other, same_task, counted, step_kept, opening_kept}
use Rattle.cu_work.proofs.StoredChunks.{as_input, as_read, read_cell, region}
use Rattle.cu_work.specs.World.{World, Event, Happens, AllHappen, PutsCell, computed, put_at, IsStored, IsFound, IsRight, still, first_world, started_by}

abbrev IsReadyIn : PlanView → Elements → ℕ → ℕ → Contents → Type 0
IsReadyIn p env op task held = IsReadyOf p op task env held

module _ (ranges : HaveRanges) (p : PlanView) (env : Elements) where
  -- ---- a put of what is computed

  -- where the made chunks that a task reads are held, what is computed is the value
  value_computed : (held : Contents) (left : IsLeft (chunks_alone p) env (still held)) (op task : ℕ) → IsTask p op task
      → ((c : Cell) → Contains (fetched_chunks p op task) c → maker_at p.arrays c.array ≢ None → HoldsPiece (chunks_alone p) env (Chunk c) (still held))
      → (c : Cell) → Contains (written_chunks p.arrays (op_of p op) task) c → computed p op held c ≡ cell_value p env c
  value_computed held left op task is inputs c own =
      let ready = task_ready ranges (chunks_alone p) env (still held) left op task is.operation (region p left.sound op task is) inputs in
      let writes : WritesCell p op task c.array c.coord = record { operation = is.operation; number = is.number; cell = own } in
      let there = written_cell p left.sound op task c.array c.coord writes in
      let same : left.held ≡ held = cc left.told in
      spelled_alike (layout_at p.arrays c.array) (rule (op_of p op) p.arrays (with_inlined p (stored_inputs p.arrays held)) c.array) (plan_value p env c.array) c.coord (grid_ok p c.array left.sound there.within)
      there.coordinate (λ idx within. ready_rule p left.sound op task c.array env held c.coord idx (subst (IsReadyIn p env op task) same ready) (makes_of p left.sound op task c.array c.coord writes) within)

  pub put_left : (held : Contents) (c : Cell) (bytes : List ℕ) → IsCell p.arrays c.array c.coord → cell_value p env c ≡ Some bytes
      → Begun (chunks_alone p) env 0 0 (still held) (still (put_at (key_of p.arrays c) bytes held))
  put_left held c bytes there value = record {
    lands = λ key. elim (cases_Bool (bytes_eq key (key_of p.arrays c))) [
      | inl is ↦ inr (inl (Chunk c, bytes, there, (bytes_eq-Decides key (key_of p.arrays c)).0 is, cond-true (bytes_eq key (key_of p.arrays c)) (Some bytes) (held key) is, value))
      | inr isnt ↦ inl (cond-false (bytes_eq key (key_of p.arrays c)) (Some bytes) (held key) isnt)
    ];
    late = λ key bytes among. absurd among;
    count = omega arith;
    calls = (omega arith, omega arith, omega arith);
    lacks = refl;
  }

  -- where a map is left so, what is held of a cell is its value
  stored_holds : (held : Contents) → IsLeft (chunks_alone p) env (still held) → (op task : ℕ) → IsTask p op task → IsStored p held op task
      → HoldsTask (chunks_alone p) env op task (still held)
  stored_holds held left op task is stored c own =
      let writes : WritesCell p op task c.array c.coord = record { operation = is.operation; number = is.number; cell = own } in
      let there = written_cell p left.sound op task c.array c.coord writes in
      let same : left.held ≡ held = cc left.told in
      let (bytes, holds) = stored c own in
      elim (left.pieces (Chunk c) there) [
        | inl none ↦ absurd (let a = ap (λ (h : Contents). h (key_of p.arrays c)) same in cc (a, none, holds))
        | inr (value, has, is) ↦ (value, is, ap (λ (h : Contents). h (key_of p.arrays c)) (sym same) ∙ has)
      ]

-- ---- what is kept

pub record Good (g : Settings) (env : Elements) (w : World) : Type 0 where
  pub right : IsRight g.plan env w
  pub kept : Kept g.plan g.retries w.machine
  pub running : All (λ c. Contains w.started (record { op = c.op; task = c.task })) w.machine.copies
  pub tasks : All (λ t. IsTask g.plan t.op t.task) w.started

contains_cons : (x y : TaskId) (xs : List TaskId) → Contains (x ∷ xs) y → (x ≡ y) ⊎ Contains xs y
contains_cons x y xs (zero, h, e) = inl e
contains_cons x y xs (suc k, h, e) = inr (k, omega (arith, h), e)

contains_more : (x y : TaskId) (xs : List TaskId) → Contains xs y → Contains (x ∷ xs) y
contains_more x y xs (k, h, e) = (suc k, omega (arith, h), e)

module _ (g : Settings) (old : Machine) (kept : Kept g.plan g.retries old) (e : Entry) (new : Machine) where
  -- a change of one task
  changed : (is : IsTask g.plan e.op e.task) (s : TaskState) → new.tasks ≡ with_task g.plan old e.op e.task s → (l other : ℕ) → IsTask g.plan l other → IsDone g.plan new l other
      → IsDone g.plan old l other ⊎ ((e.op ≡ l) × (e.task ≡ other))
  changed is s tasks l other that done =
      elim (same_task e.op e.task l other) [
        | inl h ↦ inr h
        | inr apart ↦
            inl (sym (ap (λ (x : TaskState). x.done) (state_other g.plan g.retries old kept e.op e.task is s l other that apart))
            ∙ sym (ap (λ (xs : List TaskState). (get_or xs (task_number g.plan l other) no_task).done) tasks) ∙ done)
      ]

  -- one that leaves it done or not
  same_done : (is : IsTask g.plan e.op e.task) (s : TaskState) → new.tasks ≡ with_task g.plan old e.op e.task s → s.done ≡ (state_at g.plan old e.op e.task).done
      → (l other : ℕ) → IsTask g.plan l other → IsDone g.plan new l other → IsDone g.plan old l other
  same_done is s tasks same l other that done =
      elim (same_task e.op e.task l other) [
        | inl h ↦
            let at : (get_or new.tasks (task_number g.plan e.op e.task) no_task).done ≡ true =
            subst (λ (k : ℕ). (get_or new.tasks (task_number g.plan k e.task) no_task).done ≡ true) (sym h.0)
            (subst (λ (t : ℕ). (get_or new.tasks (task_number g.plan l t) no_task).done ≡ true) (sym h.1) done) in
            subst (λ (k : ℕ). IsDone g.plan old k other) h.0 (subst (λ (t : ℕ). IsDone g.plan old e.op t) h.1
            (sym same ∙ sym (ap (λ (x : TaskState). x.done) (state_same g.plan g.retries old kept e.op e.task is s))
            ∙ sym (ap (λ (xs : List TaskState). (get_or xs (task_number g.plan e.op e.task) no_task).done) tasks) ∙ at))
        | inr apart ↦
            sym (ap (λ (x : TaskState). x.done) (state_other g.plan g.retries old kept e.op e.task is s l other that apart))
            ∙ sym (ap (λ (xs : List TaskState). (get_or xs (task_number g.plan l other) no_task).done) tasks) ∙ done
      ]

  runs_task : Runs old e.worker e.op e.task → IsTask g.plan e.op e.task
  runs_task runs = (counted g.plan g.retries old kept e.worker e.op e.task runs).0

  tasks_of_new : (other : Machine) → new ≡ other → new.tasks ≡ other.tasks
  tasks_of_new other is = ap (λ (m : Machine). m.tasks) is

  pub done_from : (kind : EventKind) → StepOf g old kind e new → (l other : ℕ) → IsTask g.plan l other → IsDone g.plan new l other
      → IsDone g.plan old l other ⊎ ((kind ≡ Done) × (e.op ≡ l) × (e.task ≡ other))
  done_from Start step l other that done =
      inl (same_done step.0.task (one_copy_more (state_at g.plan old e.op e.task)) (tasks_of_new (copy_started g.plan old e) step.1) refl l other that done)
  done_from Done step l other that done =
      elim (changed (runs_task step.0.runs) (done_now (state_at g.plan old e.op e.task))
      (tasks_of_new (copy_ended g.plan old e (done_now (state_at g.plan old e.op e.task)) None) step.1) l other that done) [
        | inl was ↦ inl was
        | inr h ↦ inr (refl, h.0, h.1)
      ]
  done_from Failed step l other that done =
      inl (same_done (runs_task step.0.runs) (failed_now (state_at g.plan old e.op e.task))
      (tasks_of_new (copy_ended g.plan old e (failed_now (state_at g.plan old e.op e.task)) (ending_after g.retries (state_at g.plan old e.op e.task).failures e.op e.task)) step.1) refl l other that done)
  done_from Halt step l other that done =
      inl (same_done (runs_task step.0.runs) (one_copy_less (state_at g.plan old e.op e.task))
      (tasks_of_new (copy_ended g.plan old e (one_copy_less (state_at g.plan old e.op e.task)) (Some (Halted step.1.0))) step.1.2) refl l other that done)
  done_from Late step l other that done =
      inl (same_done (runs_task step.0.runs) (one_copy_less (state_at g.plan old e.op e.task))
      (tasks_of_new (copy_ended g.plan old e (one_copy_less (state_at g.plan old e.op e.task)) old.ended) step.1) refl l other that done)

  -- the copies that run were running, or this one began
  left_copies : (P : RunningCopy → Type 0) (s : TaskState) (ended : Option Ending) → new ≡ copy_ended g.plan old e s ended → All P old.copies → All P new.copies
  left_copies P s ended is all = subst (λ (m : Machine). All P m.copies) (sym is) (All-without P e.worker old.copies all)

  copies_from : (P : RunningCopy → Type 0) (kind : EventKind) → StepOf g old kind e new → All P old.copies → (kind ≡ Start → P (a_copy e.worker e.op e.task)) → All P new.copies
  copies_from P Start step all own = subst (λ (m : Machine). All P m.copies) (sym step.1) (All-push P old.copies (a_copy e.worker e.op e.task) all (own refl))
  copies_from P Done step all own = left_copies P (done_now (state_at g.plan old e.op e.task)) None step.1 all
  copies_from P Failed step all own =
      left_copies P (failed_now (state_at g.plan old e.op e.task)) (ending_after g.retries (state_at g.plan old e.op e.task).failures e.op e.task) step.1 all
  copies_from P Halt step all own = left_copies P (one_copy_less (state_at g.plan old e.op e.task)) (Some (Halted step.1.0)) step.1.2 all
  copies_from P Late step all own = left_copies P (one_copy_less (state_at g.plan old e.op e.task)) old.ended step.1 all

same_world : (a b : World) → a.machine ≡ b.machine → a.held ≡ b.held → a.started ≡ b.started → a ≡ b
same_world a b m h s =
    ap (λ (x : Machine). record { machine = x; held = a.held; started = a.started }) m
    ∙ ap (λ (x : Contents). record { machine = b.machine; held = x; started = a.started }) h
    ∙ ap (λ (x : List TaskId). record { machine = b.machine; held = b.held; started = x }) s

opened_done : (done : List Bool) (i : ℕ) → (get_or (map opened done) i no_task).done ≡ true → get_or done i false ≡ true
opened_done [] i so = cc so
opened_done (b ∷ bs) zero so = so
opened_done (b ∷ bs) (suc i) so = opened_done bs i so

-- the tasks ever started are more
started_more : (kind : EventKind) (t u : TaskId) (ts : List TaskId) → Contains ts u → Contains (started_by kind t ts) u
started_more Start t u ts has = contains_more t u ts has
started_more Done t u ts has = has
started_more Failed t u ts has = has
started_more Halt t u ts has = has
started_more Late t u ts has = has

started_own : (kind : EventKind) (t : TaskId) (ts : List TaskId) → kind ≡ Start → Contains (started_by kind t ts) t
started_own Start t ts is = (0, omega arith, refl)
started_own Done t ts is = cc
started_own Failed t ts is = cc
started_own Halt t ts is = cc
started_own Late t ts is = cc

started_cases : (kind : EventKind) (t u : TaskId) (ts : List TaskId) → Contains (started_by kind t ts) u → ((kind ≡ Start) × (t ≡ u)) ⊎ Contains ts u
started_cases Start t u ts has = elim (contains_cons t u ts has) [ inl e ↦ inl (refl, e) | inr h ↦ inr h ]
started_cases Done t u ts has = inr has
started_cases Failed t u ts has = inr has
started_cases Halt t u ts has = inr has
started_cases Late t u ts has = inr has

started_tasks : (P : TaskId → Type 0) (kind : EventKind) (t : TaskId) (ts : List TaskId) → (kind ≡ Start → P t) → All P ts → All P (started_by kind t ts)
started_tasks P Start t ts own all = All-cons P t ts (own refl) all
started_tasks P Done t ts own all = all
started_tasks P Failed t ts own all = all
started_tasks P Halt t ts own all = all
started_tasks P Late t ts own all = all

start_is : (g : Settings) (old new : Machine) (e : Entry) (kind : EventKind) → StepOf g old kind e new → kind ≡ Start → MayStart g old e
start_is g old new e Start step is = step.0
start_is g old new e Done step is = cc
start_is g old new e Failed step is = cc
start_is g old new e Halt step is = cc
start_is g old new e Late step is = cc

module _ (ranges : HaveRanges) (g : Settings) (env : Elements) (old : World) (good : Good g env old) where
  -- the made chunks that a ready task reads are held
  inputs_ready : (op task : ℕ) → IsTask g.plan op task → AreInputsDone g.plan old.machine op task → (c : Cell) → Contains (input_cells g.plan op task) c → maker_at g.plan.arrays c.array ≢ None
      → HoldsPiece (chunks_alone g.plan) env (Chunk c) (still old.held)
  inputs_ready op task is ready c listed made =
      let sound = good.right.left.sound in
      let piece = read_cell g.plan sound op task is c (as_read g.plan sound op task is c listed) made in
      elim (input_or_made (maker_at g.plan.arrays c.array)) [
        | inl given ↦ absurd (made given)
        | inr maker ↦
            let w = task_for g.plan sound maker.0 c.array c.coord piece maker.1 in
            let t = task_at g.plan.arrays (op_of g.plan maker.0) c in
            good.right.done maker.0 t (record { operation = w.operation; number = w.number }) (ready maker.0 t (c, listed, w)) c w.cell
      ]

  inputs_start : (e : Entry) → MayStart g old.machine e → (c : Cell) → Contains (input_cells g.plan e.op e.task) c → maker_at g.plan.arrays c.array ≢ None
      → HoldsPiece (chunks_alone g.plan) env (Chunk c) (still old.held)
  inputs_start e can c listed made =
      elim can.can [
        | inl waits ↦ inputs_ready e.op e.task can.task waits.0 c listed made
        | inr single ↦
            let n = good.kept.counts e.op e.task can.task in
            let one = single.2.1 in
            let (worker, runs) = some_copy e.op e.task old.machine.copies (omega (arith, n, one)) in
            good.right.inputs (record { op = e.op; task = e.task }) c
            (All-contains (λ (d : RunningCopy). Contains old.started (record { op = d.op; task = d.task })) old.machine.copies (a_copy worker e.op e.task) good.running runs) listed made
      ]

  pub step_good : (e : Entry) (machine : Machine) → Step g old.machine e machine → (e.kind ≡ Done → IsStored g.plan old.held e.op e.task)
      → Good g env (record { machine = machine; held = old.held; started = started_by e.kind (record { op = e.op; task = e.task }) old.started })
  step_good e machine step stored =
      let t : TaskId = record { op = e.op; task = e.task } in
      record {
        right = record {
          left = good.right.left;
          inputs = λ u c has listed made.
              elim (started_cases e.kind t u old.started has) [
                | inl own ↦
                    subst (λ (x : TaskId). Contains (input_cells g.plan x.op x.task) c → HoldsPiece (chunks_alone g.plan) env (Chunk c) (still old.held)) own.1
                    (λ l. inputs_start e (start_is g old.machine machine e e.kind step own.0) c l made) listed
                | inr before ↦ good.right.inputs u c before listed made
              ];
          done = λ op task is done.
              elim (done_from g old.machine good.kept e machine e.kind step op task is done) [
                | inl was ↦ good.right.done op task is was
                | inr now ↦
                    subst (λ (k : ℕ). HoldsTask (chunks_alone g.plan) env k task (still old.held)) now.1
                    (subst (λ (n : ℕ). HoldsTask (chunks_alone g.plan) env e.op n (still old.held)) now.2
                    (stored_holds ranges g.plan env old.held good.right.left e.op e.task
                    (subst (λ (k : ℕ). IsTask g.plan k e.task) (sym now.1) (subst (λ (n : ℕ). IsTask g.plan op n) (sym now.2) is)) (stored now.0)))
              ];
        };
        kept = (step_kept g old.machine e machine good.kept step).0;
        running = copies_from g old.machine good.kept e machine (λ d. Contains (started_by e.kind t old.started) (record { op = d.op; task = d.task })) e.kind step
            (λ k d l. started_more e.kind t (record { op = (get_or old.machine.copies k d).op; task = (get_or old.machine.copies k d).task }) old.started (good.running k d l))
            (λ is. started_own e.kind t old.started is);
        tasks = started_tasks (λ x. IsTask g.plan x.op x.task) e.kind t old.started (λ is. (start_is g old.machine machine e e.kind step is).task) good.tasks;
      }

  pub put_good : (t : TaskId) (c : Cell) (held : Contents) → Contains old.started t → PutsCell g.plan t c old.held held
      → Good g env (record { machine = old.machine; held = held; started = old.started })
  put_good t c held has (own, (bytes, value, is)) =
      let task = All-contains (λ (x : TaskId). IsTask g.plan x.op x.task) old.started t good.tasks has in
      let left = good.right.left in
      let same = value_computed ranges g.plan env old.held left t.op t.task task (λ d listed made. good.right.inputs t d has (as_input g.plan left.sound t.op t.task task d listed) made) c own in
      let there = written_cell g.plan left.sound t.op t.task c.array c.coord (record { operation = task.operation; number = task.number; cell = own }) in
      let begun = put_left ranges g.plan env old.held c bytes there (sym same ∙ value) in
      let new = still (put_at (key_of g.plan.arrays c) bytes old.held) in
      subst (λ (h : Contents). Good g env (record { machine = old.machine; held = h; started = old.started })) (sym is) (record {
        right = record {
          left = left_kept (chunks_alone g.plan) env (still old.held) left 0 0 new begun;
          inputs = λ u d started listed made.
              let is = All-contains (λ (x : TaskId). IsTask g.plan x.op x.task) old.started u good.tasks started in
              piece_stays (chunks_alone g.plan) env (still old.held) left 0 0 new begun (Chunk d)
              (read_cell g.plan left.sound u.op u.task is d (as_read g.plan left.sound u.op u.task is d listed) made)
              (good.right.inputs u d started listed made);
          done = λ op other is done d own.
              piece_stays (chunks_alone g.plan) env (still old.held) left 0 0 new begun (Chunk d)
              (written_cell g.plan left.sound op other d.array d.coord (record { operation = is.operation; number = is.number; cell = own })) (good.right.done op other is done d own);
        };
        kept = good.kept;
        running = good.running;
        tasks = good.tasks;
      })

  pub stop_good : (done : List Bool) → IsFound g.plan old.held done → Good g env (record { machine = opening done; held = old.held; started = old.started })
  stop_good done found = record {
    right = record {
      left = good.right.left;
      inputs = good.right.inputs;
      done = λ op task is so. stored_holds ranges g.plan env old.held good.right.left op task is (found.stored op task is (opened_done done (task_number g.plan op task) so));
    };
    kept = opening_kept g.plan g.retries done found.tasks;
    running = All-nil (λ (d : RunningCopy). Contains old.started (record { op = d.op; task = d.task }));
    tasks = good.tasks;
  }

  pub event_good : (event : Event) (new : World) → Happens g old event new → Good g env new
  event_good (Event.Steps e) new (step, stored, held, started) =
      subst (Good g env) (sym (same_world new (record { machine = new.machine; held = old.held; started = started_by e.kind (record { op = e.op; task = e.task }) old.started }) refl held started))
      (step_good e new.machine step stored)
  event_good (Event.Puts worker t c) new (runs, puts, machine, started) =
      subst (Good g env) (sym (same_world new (record { machine = old.machine; held = new.held; started = old.started }) machine refl started))
      (put_good t c new.held (All-contains (λ (d : RunningCopy). Contains old.started (record { op = d.op; task = d.task })) old.machine.copies (a_copy worker t.op t.task) good.running runs) puts)
  event_good (Event.PutsLate t c) new (has, puts, machine, started) =
      subst (Good g env) (sym (same_world new (record { machine = old.machine; held = new.held; started = old.started }) machine refl started)) (put_good t c new.held has puts)
  event_good (Event.Stops done) new (found, machine, held, started) =
      subst (Good g env) (sym (same_world new (record { machine = opening done; held = old.held; started = old.started }) machine held started)) (stop_good done found)

pub all_good : HaveRanges → (g : Settings) (env : Elements) (old : World) → Good g env old → (events : List Event) (new : World)
    → AllHappen g old events new → Good g env new
all_good ranges g env old good [] new is = subst (Good g env) (sym is) good
all_good ranges g env old good (e ∷ es) new (mid, first, rest) =
    all_good ranges g env mid (event_good ranges g env old good e mid first) es new rest

pub first_good : HaveRanges → (g : Settings) (env : Elements) (done : List Bool) (held : Contents) → IsLeft (chunks_alone g.plan) env (still held) → IsFound g.plan held done
    → Good g env (first_world done held)
first_good ranges g env done held left found = record {
  right = record {
    left = left;
    inputs = λ t c has. absurd (let l = has.1 in omega (arith, l));
    done = λ op task is so. stored_holds ranges g.plan env held left op task is (found.stored op task is (opened_done done (task_number g.plan op task) so));
  };
  kept = opening_kept g.plan g.retries done found.tasks;
  running = All-nil (λ (d : RunningCopy). Contains {X = TaskId} [] (record { op = d.op; task = d.task }));
  tasks = All-nil (λ (x : TaskId). IsTask g.plan x.op x.task);
}

-- the elements of each stored array where all tasks are done
pub all_elements : HaveRanges → (p : PlanView) (env : Elements) (w : World) → IsRight p env w → AllDone p w.machine → (a : ℕ) (idx : List ℕ) → a < length p.arrays
    → is_inlined p.arrays a ≡ false → IsInside (grid_at p.arrays a).shape idx → stored_inputs p.arrays w.held a idx ≡ plan_value p env a idx
all_elements ranges p env w right all a idx within stored inside =
    let whole : IsComplete (chunks_alone p) env (still w.held) =
    all_held (chunks_alone p) env (still w.held) right.left.sound (λ n h. absurd (omega (arith, h))) (λ op task before. right.done op task (record { operation = before.0; number = before.1 })
    (all op task (record { operation = before.0; number = before.1 }))) in
    ap (λ (h : Contents). stored_inputs p.arrays h a idx) (sym (told_same right.left)) ∙ elim (input_or_made (maker_at p.arrays a)) [
      | inl given ↦ right.left.inputs a idx within given inside ∙ sym ((value_solves p env right.left.sound).inputs a idx given)
      | inr maker ↦ elements_held ranges (chunks_alone p) env (still w.held) a idx right.left whole within (not_none (maker_at p.arrays a) maker.0 maker.1) stored inside
    ]
  where
    told_same : (left : IsLeft (chunks_alone p) env (still w.held)) → left.held ≡ w.held
    told_same left = cc left.told
