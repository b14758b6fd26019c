-- What one worker or several have come to, once the tasks of a plan were run.
use Rattle.std.proofs.Common.{◌≡◌, inl, inr, ℕ, ◌+◌, ◌<◌, ◌≤◌, ◌||◌, min, Bool, true, false, IsTrue, cond, List, [], ◌∷◌, ◌++◌, length, take, drop, append-nil, Option, Some, None, refl, ap, sym, ◌∙◌, subst, arith, eq-eqb, ne_eqb}
use Rattle.std.proofs.lemmas.Bool.{cases_lt}
use Rattle.std.proofs.lemmas.List.{take_all, drop_all}
use Rattle.std.specs.Prelude.{slice_index_or, sum_by}
use Rattle.atomic_table.specs.Seated.{TableId}
use Rattle.cu_store.specs.Faults.{last_count}
use Rattle.cu_store.specs.Held.{Contents}
use Rattle.cu_store.specs.Yard.{Served, Known, FitsYard, IsTold, IsOfOneYard, IsJoined, shown_by}
use Rattle.cu_store.specs.declared.faults.TaskFault.{TaskFault}
use Rattle.cu_store.specs.declared.faults.TaskFault.TheVariants as fault
use Rattle.cu_history.specs.declared.entry.Entry.{Entry}
use Rattle.cu_history.specs.History.{is_failed, count_kind, own}
use Rattle.cu_op.specs.PlanView.{PlanView}
use Rattle.cu_op.specs.Schedule.{key_of}
use Rattle.cu_region.specs.Steady.{HoldsLength}
use Rattle.cu_task.specs.Serving.{IsBadOfInput}
use Rattle.cu_table.specs.declared.state.RunningCopy.{RunningCopy}
use Rattle.cu_table.specs.Machine.{Machine, opening}
use Rattle.cu_table.specs.Own.{left_running, running_of}
use Rattle.cu_table.specs.Step.{Settings, Replays}
use Rattle.cu_table.specs.Table.{TableView}
use Rattle.cu_lock.specs.Rule.{AllBelow, IsKnownFront}
use Rattle.cu_board.specs.Board.{IsBadEntry, IsCauseOf, IsBoardState, IsLegal, IsSameJob, halted_fault}
use Rattle.cu_board.specs.Views.{SeatAt}
use Rattle.cu_board.proofs.Passes.{cause_same}
use Rattle.cu_work.specs.Alone.{HasRun, HasSeenDone, IsDecided, IsHaltOf}
use Rattle.cu_work.specs.Starts.{started_calls}
use Rattle.cu_work.specs.Workers.{AreWorkersOf, KnowsEnd, TookIn, HasWorked, front_of}
use Rattle.cu_work.specs.declared.outcome.Outcome.{Outcome}
use Rattle.cu_work.specs.declared.worker.Worker.{Worker}
use Rattle.cu_work.proofs.Crews.{at_place}
use Rattle.cu_work.proofs.Turning.{bad_told}

-- ---- one worker

cause_of : (p : PlanView) (yard : Served) (k : Known) → FitsYard yard k → (f : TaskFault) → IsHaltOf p yard (shown_by k) f → IsCauseOf p k f
cause_of p yard k fits fault.Store halt = tt
cause_of p yard k fits fault.NoMemory halt = halt
cause_of p yard k fits (fault.BadChunk key got want) halt =
    let (op, task, c, first, number, listed, key_is, want_is, other, long) = halt.0 in (
      record { op = op; task = task; is = record { operation = first; number = number }; cell = c; read = listed; key_is = key_is; want_is = want_is; other = other },
      λ e told. bad_told p yard.promise k.entries e key got want fits.told told
          (subst (λ (x : Option Contents). IsBadOfInput p yard.promise x (fault.BadChunk key got want)) fits.entries halt.1),
    )

pub alone_worked : (yard : Served) (first now : TableView) (old new : Known) → FitsYard yard new → HasRun yard first now old new → HasWorked yard first now old new
alone_worked yard first now old new fits ran = record {
  settings = ran.settings;
  done = ran.done;
  legal = ran.legal;
  resting = ran.resting;
  seen = ran.seen;
  later = ran.later;
  rose = ran.rose;
  calls = ran.calls;
  cause = λ f ended. cause_of first.settings.plan yard new fits f (ran.cause f ended);
}

-- ---- the fault of a run, as a yard tells it

bad_entry : (p : PlanView) (promise entries own : Option Contents) (key : List ℕ) (got want : ℕ) → IsTold promise own → entries ≡ own
    → ((e : Contents) → own ≡ Some e → IsBadEntry p e key got want) → IsBadOfInput p promise entries (fault.BadChunk key got want)
bad_entry p None entries own key got want told same bad = tt
bad_entry p (Some x) entries None key got want told same bad = absurd told
bad_entry p (Some x) entries (Some e) key got want told same bad =
    let b = bad e refl in
    (b.cell, (b.input.within, b.input.coordinate), b.input.given, b.key_is, b.want_is, b.other, subst (λ (o : Option Contents). HoldsLength o key got) (sym same) (b.bytes, b.held, b.length_is))

pub bad_of_input : (p : PlanView) (yard : Served) (k : Known) (key : List ℕ) (got want : ℕ) → FitsYard yard k → IsCauseOf p k (fault.BadChunk key got want)
    → IsBadOfInput p yard.promise yard.entries (fault.BadChunk key got want)
bad_of_input p yard k key got want fits cause = bad_entry p yard.promise yard.entries k.entries key got want fits.told fits.entries cause.1

-- ---- several: a list that was lent whole is written back whole

pub written_back : {X : Type 0} (xs ys : List X) (n : ℕ) → length xs ≡ length ys → n ≡ length ys → take n (xs ++ drop (length xs) ys) ≡ xs
written_back {X} xs ys n same whole =
    ap (λ (zs : List X). take n (xs ++ zs)) (drop_all (length xs) ys (omega (arith, same))) ∙ ap (take n) (append-nil xs) ∙ take_all n xs (omega (arith, same, whole))

-- ---- several: no copy runs once each of them rests

none_some : {X : Type 0} (x : X) → None ≡ Some x → ⊥
none_some x e = cc

no_copies : (cs : List RunningCopy) → ((w : ℕ) → running_of cs w ≡ None) → cs ≡ []
no_copies [] none = refl
no_copies (c ∷ cs) none =
    absurd (none_some (c.op, c.task) (sym (none c.worker) ∙ ap (λ (b : Bool). cond b (Some (c.op, c.task)) (running_of cs c.worker)) (eq-eqb c.worker c.worker refl)))

-- a worker whose number isn't below has no entry
own_none : (n w : ℕ) (es : List Entry) → AllBelow n es → (w < n → ⊥) → own w es ≡ []
own_none n w [] below above = refl
own_none n w (e ∷ es) (one, more) above =
    ap (λ (b : Bool). cond b (e ∷ own w es) (own w es)) (ne_eqb e.worker w (λ same. above (subst (λ (k : ℕ). k < n) same one))) ∙ own_none n w es more above

module _ {Y P : Type 0} (owns : Y → P → Type 0) (yard : Y) (board : TableId) (ws : List (Worker Y P)) (crew : AreWorkersOf owns yard board ws) (t : TableView)
    (fronts : (i : ℕ) (d : Worker Y P) → i < length ws → IsKnownFront t.history (halted_fault t.state.ended) (front_of (slice_index_or ws i d).seat)) where
  one_rests : (w : ℕ) → w < length ws → left_running None (own w t.history) ≡ None
  one_rests w low =
      let (x, at, mapped) = at_place (λ (v : Worker Y P). v.seat.view.number) ws w 0 low in
      let one = crew w x low in
      let front = fronts w x low in
      let s = (slice_index_or ws w x).seat in
      subst (λ (k : ℕ). left_running None (own k t.history) ≡ None) one.number_is
      (ap (left_running None) front.1 ∙ subst (λ (k : ℕ). left_running None (own k s.view.front) ≡ None) (sym one.number_is) one.resting)

  pub nobody_left : AllBelow (length ws) t.history → ((w : ℕ) → running_of t.state.copies w ≡ left_running None (own w t.history)) → t.state.copies ≡ []
  nobody_left below runs = no_copies t.state.copies (λ w. runs w ∙ elim (cases_lt w (length ws)) [
    | inl low ↦ one_rests w low
    | inr high ↦ ap (left_running None) (own_none (length ws) w t.history below (λ low. omega (arith, low, high)))
  ])

  -- the outcome of the first of them is that of the run
  pub first_decides : (knows : P → Known) (made : TableView) (outcome : Outcome) → 0 < length ws
      → ((made t : TableView) (seat : SeatAt) (k : Known) (outcome : Outcome) → KnowsEnd made seat.view k outcome → IsSameJob made t → IsLegal t
      → IsKnownFront t.history (halted_fault t.state.ended) (front_of seat) → IsDecided t.settings.plan t.state outcome)
      → ((i : ℕ) (d : Worker Y P) → i < length ws → KnowsEnd made (slice_index_or ws i d).seat.view (knows (slice_index_or ws i d).pass) (slice_index_or ws i d).outcome)
      → ((d : Worker Y P) → outcome ≡ (slice_index_or ws 0 d).outcome) → IsSameJob made t → IsLegal t → IsDecided t.settings.plan t.state outcome
  first_decides knows made outcome some law ended answer same legal =
      let (x, at, mapped) = at_place (λ (v : Worker Y P). v.seat.view.number) ws 0 0 some in
      let w = slice_index_or ws 0 x in
      subst (λ (o : Outcome). IsDecided t.settings.plan t.state o) (sym (answer x)) (law made t w.seat (knows w.pass) w.outcome (ended 0 x some) same legal (fronts 0 x some))

-- ---- several: what the run's pass knows

or_left : (a b : Bool) → IsTrue a → IsTrue (a || b)
or_left true b t = refl
or_left false b t = cc

or_right : (a b : Bool) → IsTrue b → IsTrue (a || b)
or_right true b t = refl
or_right false b t = t

rose_joined : (n o s m k w l : ℕ) → w ≡ min (m + k) l → min n l ≤ s → min m l ≡ min (o + s) l → min (o + n) l ≤ w
rose_joined n o s m k w l a b c = omega (arith, a, b, c)

calls_joined : (o s m k w l n f : ℕ) → w ≡ min (m + k) l → m ≤ o + s → k ≤ f → f ≡ 0 → s ≤ n → w ≤ o + n
calls_joined o s m k w l n f a b c d e = omega (arith, a, b, c, d, e)

pub board_worked : {Y P : Type 0} (knows : P → Known) (owns : Y → P → Type 0) (made : TableView) (first : P) (t : TableView) (p : P) → IsBoardState knows owns made first t p
    → (yard : Served) (ks : List Known) (old mid new : Known) → TookIn ks old mid → IsJoined mid (knows p) new → IsOfOneYard (knows p) new → t.state.copies ≡ []
    → (knows first).calls ≡ 0 → sum_by (λ k. k.calls) ks ≤ started_calls made.settings.plan t.history → min (count_kind is_failed t.history) last_count ≤ sum_by (λ k. k.faults) ks
    → HasWorked yard made t old new
board_worked knows owns made first t p state yard ks old mid new took joined one resting fresh calls failures = record {
  settings = state.same.0;
  done = state.same.1;
  legal = state.legal;
  resting = resting;
  seen = subst (λ (s : Settings). HasSeenDone s.plan t.state new.seen) state.same.0 (λ op task is done c listed.
      subst IsTrue (sym (joined.seen (key_of t.settings.plan.arrays c))) (or_right (mid.seen (key_of t.settings.plan.arrays c)) ((knows p).seen (key_of t.settings.plan.arrays c)) (state.seen op task is done c listed)));
  later = record {
    yard = record { promise = joined.yard.promise ∙ took.yard.promise; entries = joined.yard.entries ∙ took.yard.entries; lacks = joined.yard.lacks ∙ took.yard.lacks };
    seen = λ key made_key seen. subst IsTrue (sym (joined.seen key)) (or_left (mid.seen key) ((knows p).seen key) (subst IsTrue (sym (took.seen key)) (or_left (old.seen key) _ seen)));
  };
  rose = rose_joined (count_kind is_failed t.history) old.faults (sum_by (λ k. k.faults) ks) mid.faults (knows p).faults new.faults last_count joined.faults failures took.faults;
  calls = calls_joined old.calls (sum_by (λ k. k.calls) ks) mid.calls (knows p).calls new.calls last_count (started_calls made.settings.plan t.history) (knows first).calls
      joined.calls took.few state.calls fresh calls;
  cause = λ f ended. subst (λ (s : Settings). IsCauseOf s.plan new f) state.same.0 (cause_same t.settings.plan (knows p) new f one (state.cause f (ap halted_fault ended)));
}

-- ---- a board that nobody sat at

nothing_below : (es : List Entry) → AllBelow 0 es → es ≡ []
nothing_below [] below = refl
nothing_below (e ∷ es) (one, more) = absurd (omega (arith, one))

table_is : (a b : TableView) → a.settings ≡ b.settings → a.done ≡ b.done → a.history ≡ b.history → a.state ≡ b.state → a ≡ b
table_is a b settings done history state = λ i. record { settings = settings i; done = done i; history = history i; state = state i }

opened_state : (s : Settings) (done : List Bool) (history : List Entry) (m : Machine) → Replays s done history m → history ≡ [] → m ≡ opening done
opened_state s done history m legal fresh = (subst (λ (es : List Entry). Replays s done es m) fresh legal).1

pub untouched : {Y P : Type 0} (knows : P → Known) (owns : Y → P → Type 0) (made : TableView) (first : P) (t : TableView) (p : P) → IsBoardState knows owns made first t p
    → IsLegal made → made.history ≡ [] → AllBelow 0 t.history → t ≡ made
untouched knows owns made first t p state legal fresh below =
    let none = nothing_below t.history below in
    table_is t made state.same.0 state.same.1 (none ∙ sym fresh)
    (opened_state t.settings t.done t.history t.state state.legal none ∙ ap opening state.same.1 ∙ sym (opened_state made.settings made.done made.history made.state legal fresh))
