-- What a worker knows after a claim and after a report.
use Rattle.std.proofs.Common.{◌≡◌, ◌≢◌, ℕ, zero, suc, get_or, set, Bool, true, false, cond, List, [], ◌∷◌, ◌++◌, Option, Some, None, Result, Ok, Err, refl, sym, ap, ◌∙◌, subst, true≢false, eq-eqb}
use Rattle.std.specs.Prelude.{Contains, OnOk, IfErr}
use Rattle.cu_store.specs.Held.{Contents}
use Rattle.cu_store.specs.Yard.{Known, Served, FitsYard, IsTold, IsLater, shown_by}
use Rattle.cu_store.specs.declared.yard.Spec.{Spec}
use Rattle.cu_region.specs.Passes.{IsLaterIn}
use Rattle.cu_store.specs.declared.faults.TaskFault.{TaskFault}
use Rattle.cu_store.specs.declared.faults.TaskFault.TheVariants as fault
use Rattle.cu_history.specs.declared.entry.Entry.{Entry}
use Rattle.cu_history.specs.History.{own, is_start}
use Rattle.cu_op.specs.declared.cells.Cell.{Cell}
use Rattle.cu_op.specs.Arrays.{maker_at}
use Rattle.cu_op.specs.InputCells.{input_cells}
use Rattle.cu_op.specs.PlanView.{PlanView}
use Rattle.cu_op.specs.Schedule.{WritesCell}
use Rattle.cu_op.specs.Sound.{Sound}
use Rattle.cu_op.specs.Within.{fetched_chunks}
use Rattle.cu_op.proofs.TaskCells.{some_task}
use Rattle.cu_table.specs.declared.claim.Claim.{Claim}
use Rattle.cu_table.specs.declared.claim.Claim.TheVariants as claim
use Rattle.cu_table.specs.declared.state.Ending.TheVariants as ending
use Rattle.cu_table.specs.declared.state.TaskState.{TaskState}
use Rattle.cu_table.specs.Numbers.{IsTask, task_number}
use Rattle.cu_table.specs.Machine.{Machine, IsDone, MakesInput, AreInputsDone, no_task, one_copy_more, copy_started}
use Rattle.cu_table.specs.Own.{left_running}
use Rattle.cu_table.specs.Step.{Settings, Halts}
use Rattle.cu_table.specs.Table.{TableView, start_event, end_of, report_kind, is_late}
use Rattle.cu_lock.specs.declared.view.SeatView.{SeatView}
use Rattle.cu_lock.proofs.Fronts.{own-append}
use Rattle.atomic_table.specs.Seated.{TableId}
use Rattle.cu_board.specs.Views.{SeatAt}
use Rattle.cu_board.specs.Board.{SeesDone, IsBadEntry, MayReport, IsCauseOf, IsResting, IsRunning, IsTurnOf, IsTableLeft, IsClaimTurn, IsReportTurn}
use Rattle.cu_task.specs.Serving.{HasSeenInputs, HasSeenOutputs, IsBadOfInput}
use Rattle.cu_task.specs.Task.{IsTaskFault}
use Rattle.cu_work.proofs.StoredChunks.{read_cell}
use Rattle.cu_work.specs.Alone.{IsDecided, Tried, halt_outcome}
use Rattle.cu_work.specs.Workers.{IsWorkerOf, KnowsEnd, IsCausedBy}
use Rattle.cu_work.specs.declared.outcome.Outcome.{Outcome}
use Rattle.cu_work.specs.declared.outcome.Outcome.TheVariants as outcome

left-snoc : (now : Option (ℕ × ℕ)) (xs : List Entry) (e : Entry) → left_running now (xs ++ e ∷ []) ≡ cond (is_start e.kind) (Some (e.op, e.task)) None
left-snoc now [] e = refl
left-snoc now (x ∷ xs) e = left-snoc (cond (is_start x.kind) (Some (x.op, x.task)) None) xs e

pub own-snoc : (n : ℕ) (xs : List Entry) (e : Entry) → e.worker ≡ n → own n (xs ++ e ∷ []) ≡ own n xs ++ e ∷ []
own-snoc n xs e is = own-append n xs (e ∷ []) ∙ ap (λ (b : Bool). own n xs ++ cond b (e ∷ []) []) (eq-eqb e.worker n is)

-- what the last entry of a worker leaves running
left_by : (n : ℕ) (xs : List Entry) (e : Entry) → e.worker ≡ n → left_running None (own n (xs ++ e ∷ [])) ≡ cond (is_start e.kind) (Some (e.op, e.task)) None
left_by n xs e is = ap (left_running None) (own-snoc n xs e is) ∙ left-snoc None (own n xs) e

pub front_after : (made : TableView) (v : SeatView) (u : TableView) (w : SeatView) → IsTableLeft made v u w → w.front ≡ u.history
front_after made v u w left = ap (λ (x : SeatView). x.front) left.knows

-- ---- after a claim

pub same_after : (made : TableView) (v w : SeatView) (r : Claim) (k : Known) → IsClaimTurn made v r w k → (w.root ≡ v.root) × (w.number ≡ v.number)
same_after made v w r k c = (ap (λ (x : SeatView). x.root) c.left.knows, ap (λ (x : SeatView). x.number) c.left.knows)

pub runs_after : (made : TableView) (v w : SeatView) (op task copy : ℕ) (k : Known) → IsClaimTurn made v (claim.Run op task copy) w k → IsRunning v.number op task w.front
runs_after made v w op task copy k c =
    ap (λ (h : List Entry). left_running None (own v.number h)) (front_after made v c.after w c.left ∙ c.answer.0.history)
    ∙ left_by v.number c.before.history (start_event c.before.settings.plan v.number op task) refl

-- the task of a Run is one of the plan's
pub task_after : (made : TableView) (v w : SeatView) (op task copy : ℕ) (k : Known) → IsClaimTurn made v (claim.Run op task copy) w k → IsTask made.settings.plan op task
task_after made v w op task copy k c = subst (λ (s : Settings). IsTask s.plan op task) c.found.same.0 c.answer.0.step.0.task

-- each chunk of a made array that the task reads is an input cell, which some task writes
abbrev pub WritesInputs : PlanView → ℕ → ℕ → Type 0
WritesInputs p op task = (c : Cell) → Contains (fetched_chunks p op task) c → maker_at p.arrays c.array ≢ None
    → Contains (input_cells p op task) c × ((k : ℕ) × (t : ℕ) × WritesCell p k t c.array c.coord)

pub writes_inputs : (p : PlanView) → Sound p → (op task : ℕ) → IsTask p op task
    → ((c : Cell) → Contains (fetched_chunks p op task) c → Contains (input_cells p op task) c) → WritesInputs p op task
writes_inputs p sound op task is needs c among made =
    (needs c among, some_task p sound c.array c.coord (read_cell p sound op task is c among made))

-- where its inputs are done, a pass that has seen the cells of all done tasks has seen what it reads
pub sees_inputs : (p : PlanView) (m : Machine) (op task : ℕ) (k : Known) → WritesInputs p op task → AreInputsDone p m op task → SeesDone p m k → HasSeenInputs p op task k.seen
sees_inputs p m op task k writes inputs sees c among made =
    let (needed, (l, t, w)) = writes c among made in
    sees l t (record { operation = w.operation; number = w.number }) (inputs l t (c, needed, w)) c w.cell

-- a step makes no task undone: what is needed of a start
pub start_keeps : (p : PlanView) (m : Machine) (n : Machine) (e : Entry) → n ≡ copy_started p m e → (op task : ℕ) → IsDone p m op task → IsDone p n op task
start_keeps p m n e is op task d = subst (λ (x : Machine). IsDone p x op task) (sym is) (done_set m.tasks (task_number p e.op e.task) (task_number p op task) d)
  where
    done_set : (ts : List TaskState) (i j : ℕ) → (get_or ts j no_task).done ≡ true → (get_or (set ts i (one_copy_more (get_or ts i no_task))) j no_task).done ≡ true
    done_set [] i j d = d
    done_set (x ∷ xs) zero zero d = d
    done_set (x ∷ xs) zero (suc j) d = d
    done_set (x ∷ xs) (suc i) zero d = d
    done_set (x ∷ xs) (suc i) (suc j) d = done_set xs i j d

pub inputs_after : (made : TableView) (v w : SeatView) (op task copy : ℕ) (k : Known) (c : IsClaimTurn made v (claim.Run op task copy) w k) → WritesInputs made.settings.plan op task
    → AreInputsDone c.before.settings.plan c.before.state op task → HasSeenInputs made.settings.plan op task k.seen
inputs_after made v w op task copy k c writes inputs =
    let of : c.after.settings ≡ made.settings = c.left.same.0 in
    sees_inputs made.settings.plan c.after.state op task k writes
    (λ l t needs. subst (λ (s : Settings). IsDone s.plan c.after.state l t) c.found.same.0
    (start_keeps c.before.settings.plan c.before.state c.after.state (start_event c.before.settings.plan v.number op task) c.answer.0.step.1 l t
    (inputs l t (subst (λ (s : Settings). MakesInput s.plan l t op task) (sym c.found.same.0) needs))))
    (subst (λ (s : Settings). SeesDone s.plan c.after.state k) of c.told.0)

-- a claim that changes nothing leaves the seat at rest
still_rests : (made : TableView) (v w : SeatView) (t u : TableView) → IsTurnOf made v t → u ≡ t → IsTableLeft made v u w → IsResting v.number v.front → IsResting v.number w.front
still_rests made v w t u found is left rests =
    ap (λ (h : List Entry). left_running None (own v.number h)) (front_after made v u w left ∙ ap (λ (x : TableView). x.history) is) ∙ ap (left_running None) found.own ∙ rests

-- a worker's own seat rests, and the worker is one of the board's still once its seat rests anew
pub own_rests : {Y P : Type 0} {owns : Y → P → Type 0} {yard : Y} {board : TableId} {number : ℕ} {seat : SeatAt} {pass : P} → IsWorkerOf owns yard board number seat pass → IsResting seat.view.number seat.view.front
own_rests {seat = seat} w = subst (λ (n : ℕ). IsResting n seat.view.front) (sym w.number_is) w.resting

pub worker_after : {Y P : Type 0} {owns : Y → P → Type 0} {yard : Y} {board : TableId} {number : ℕ} {seat : SeatAt} {first : P} (later : SeatAt) (pass : P) → IsWorkerOf owns yard board number seat first → owns yard pass → later.board ≡ seat.board
    → (later.view.root ≡ seat.view.root) × (later.view.number ≡ seat.view.number) → IsResting seat.view.number later.view.front → IsWorkerOf owns yard board number later pass
worker_after later pass w own at same rests = record {
  own = own;
  seat_is = (at ∙ w.seat_is.0, same.0 ∙ w.seat_is.1);
  number_is = same.1 ∙ w.number_is;
  resting = subst (λ (n : ℕ). IsResting n later.view.front) w.number_is rests;
}

pub idle_after : (made : TableView) (v w : SeatView) (k : Known) → IsClaimTurn made v claim.Idle w k → IsResting v.number v.front → IsResting v.number w.front
idle_after made v w k c rests = still_rests made v w c.before c.after c.found c.answer.0 c.left rests

-- ---- where a claim says that the machine has ended

has_ended : (made : TableView) (v w : SeatView) (u : TableView) (k : Known) (o : Outcome) → IsTableLeft made v u w → IsDecided u.settings.plan u.state o → IsCausedBy u.settings.plan k o → KnowsEnd made w k o
has_ended made v w u k o left ended cause = record {
  table = u;
  same = left.same;
  legal = left.legal;
  front = front_after made v u w left;
  fault = ap (λ (x : SeatView). x.fault) left.knows;
  decided = ended;
  cause = cause;
}

pub finished_after : (made : TableView) (v w : SeatView) (k : Known) → IsClaimTurn made v claim.Finished w k → IsResting v.number v.front → IsResting v.number w.front × KnowsEnd made w k outcome.Complete
finished_after made v w k c rests = (
  still_rests made v w c.before c.after c.found c.answer.0 c.left rests,
  has_ended made v w c.after k outcome.Complete c.left
      (subst (λ (x : TableView). IsDecided x.settings.plan x.state outcome.Complete) (sym c.answer.0) (c.answer.1, c.answer.2)) tt,
)

pub broken_after : (made : TableView) (v w : SeatView) (op task : ℕ) (k : Known) → IsClaimTurn made v (claim.Broken op task) w k → IsResting v.number v.front
    → IsResting v.number w.front × KnowsEnd made w k (outcome.Broken op task)
broken_after made v w op task k c rests = (
  still_rests made v w c.before c.after c.found c.answer.0 c.left rests,
  has_ended made v w c.after k (outcome.Broken op task) c.left
      (subst (λ (x : TableView). IsDecided x.settings.plan x.state (outcome.Broken op task)) (sym c.answer.0) c.answer.1) tt,
)

halted_as : (p : PlanView) (m : Machine) (k : Known) (f : TaskFault) → Halts f → m.ended ≡ Some (ending.Halted f) → IsCauseOf p k f → IsDecided p m (halt_outcome f) × IsCausedBy p k (halt_outcome f)
halted_as p m k (fault.BadChunk key got want) halts halted cause = (halted, cause)
halted_as p m k fault.NoMemory halts halted cause = (halted, cause)
halted_as p m k fault.Store halts halted cause = absurd halts

pub halted_after : (made : TableView) (v w : SeatView) (f : TaskFault) (o : Outcome) (k : Known) → IsClaimTurn made v (claim.Halted f) w k → IsResting v.number v.front → Halts f → o ≡ halt_outcome f
    → IsResting v.number w.front × KnowsEnd made w k o
halted_after made v w f o k c rests halts is =
    let halted = subst (λ (x : TableView). x.state.ended ≡ Some (ending.Halted f)) (sym c.answer.0) c.answer.1 in
    let as_told = halted_as c.after.settings.plan c.after.state k f halts halted c.told.1 in (
      still_rests made v w c.before c.after c.found c.answer.0 c.left rests,
      subst (KnowsEnd made w k) (sym is) (has_ended made v w c.after k (halt_outcome f) c.left as_told.0 as_told.1),
    )

-- ---- after a report

pub kind_ends : (b : Bool) (r : Result (Unit {0}) TaskFault) → is_start (report_kind b r) ≡ false
kind_ends true r = refl
kind_ends false (Ok u) = refl
kind_ends false (Err fault.Store) = refl
kind_ends false (Err (fault.BadChunk key got want)) = refl
kind_ends false (Err fault.NoMemory) = refl

pub reported_after : (made : TableView) (v w : SeatView) (op task : ℕ) (r : Result (Unit {0}) TaskFault) → IsReportTurn made v op task r w
    → (w.root ≡ v.root) × (w.number ≡ v.number) × IsResting v.number w.front
reported_after made v w op task r c =
    let b = is_late c.before.settings.plan c.before.state op task in (
      ap (λ (x : SeatView). x.root) c.left.knows,
      ap (λ (x : SeatView). x.number) c.left.knows,
      ap (λ (h : List Entry). left_running None (own v.number h)) (front_after made v c.after w c.left ∙ c.reported.0.history)
          ∙ left_by v.number c.before.history (end_of (report_kind b r) v.number op task) refl
          ∙ ap (λ (x : Bool). cond x (Some (op, task)) None) (kind_ends b r),
    )

-- ---- how a task ended that was run in a yard

some_same : (x y : Contents) → ◌≡◌ {A = Option Contents} (Some x) (Some y) → x ≡ y
some_same x y e = ap (contents_or x) e
  where
    contents_or : Contents → Option Contents → Contents
    contents_or d None = d
    contents_or d (Some z) = z

abbrev is_told : Option Contents → Bool
is_told None = false
is_told (Some x) = true

pub bad_told : (p : PlanView) (promise entries : Option Contents) (e : Contents) (key : List ℕ) (got want : ℕ) → IsTold promise entries → entries ≡ Some e
    → IsBadOfInput p promise entries (fault.BadChunk key got want) → IsBadEntry p e key got want
bad_told p (Some x) (Some y) e key got want told is (c, chunk, given, key_is, want_is, other, (bytes, held, long)) = record {
  cell = c;
  input = record { within = chunk.0; given = given; coordinate = chunk.1 };
  key_is = key_is;
  want_is = want_is;
  other = other;
  bytes = bytes;
  held = subst (λ (h : Contents). h key ≡ Some bytes) (some_same y e is) held;
  length_is = long;
}
bad_told p (Some x) None e key got want told is bad = absurd told
bad_told p None (Some y) e key got want told is bad = absurd told
bad_told p None None e key got want told is bad = absurd (true≢false (sym (ap is_told is)))

may_by : (p : PlanView) (op task : ℕ) (r : Result (Unit {0}) TaskFault) (old new : Known) (yard : Served) → IsTask p op task → FitsYard yard new → OnOk r (HasSeenOutputs p op task new.seen)
    → IfErr r (IsTaskFault (shown_by old) (shown_by new) p op task) → IfErr r (IsBadOfInput p yard.promise yard.entries) → MayReport p op task r new
may_by p op task (Ok u) old new yard is fits seen cause bad = seen
may_by p op task (Err fault.Store) old new yard is fits seen cause bad = tt
may_by p op task (Err (fault.BadChunk key got want)) old new yard is fits seen cause bad =
    let (c, listed, key_is, want_is, other, long) = cause in (
      record { op = op; task = task; is = is; cell = c; read = listed; key_is = key_is; want_is = want_is; other = other },
      λ e told. bad_told p yard.promise new.entries e key got want fits.told told
          (subst (λ (x : Option Contents). IsBadOfInput p yard.promise x (fault.BadChunk key got want)) fits.entries bad),
    )
may_by p op task (Err fault.NoMemory) old new yard is fits seen cause bad = cause

pub may_report : (p : PlanView) (op task : ℕ) (r : Result (Unit {0}) TaskFault) (ks : Known × Known) (yard : Served) → IsTask p op task → FitsYard yard ks.1 → Tried p op task yard ks r
    → MayReport p op task r ks.1
may_report p op task r ks yard is fits tried = may_by p op task r ks.0 ks.1 yard is fits tried.seen tried.cause tried.bad

-- ---- a pass from the first claim on

module _ (specs : List Spec) where
  pub later_same : (k : Known) → IsLaterIn specs k k
  later_same k = record { yard = record { promise = refl; entries = refl; lacks = refl }; seen = λ key made seen. seen }

  pub later_then : (a b c : Known) → IsLaterIn specs a b → IsLaterIn specs b c → IsLaterIn specs a c
  later_then a b c first second = record {
    yard = record { promise = second.yard.promise ∙ first.yard.promise; entries = second.yard.entries ∙ first.yard.entries; lacks = second.yard.lacks ∙ first.yard.lacks };
    seen = λ key made seen. second.seen key made (first.seen key made seen);
  }

  pub later_again : (a b c : Known) → IsLaterIn specs a b → c ≡ b → IsLaterIn specs a c
  later_again a b c later same = subst (IsLaterIn specs a) (sym same) later

  pub later_any : (a b : Known) → IsLater a b → IsLaterIn specs a b
  later_any a b later = record { yard = later.yard; seen = λ key made seen. later.seen key seen }
