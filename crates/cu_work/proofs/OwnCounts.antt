-- What a worker's pass has counted of the worker's own entries, from turn to turn, and what all passes have in the end.
use Rattle.std.proofs.Common.{◌≡◌, ℕ, ◌+◌, ◌<◌, ◌≤◌, min, Bool, true, false, List, [], ◌∷◌, ◌++◌, map, length, Result, Ok, Err, IfErr, refl, ap, sym, ◌∙◌, subst, arith}
use Rattle.std.specs.Prelude.{if◌then◌else◌, slice_index_or, sum_by}
use Rattle.cu_store.specs.Faults.{last_count}
use Rattle.cu_store.specs.Yard.{Served, Known, uncounted, shown_by}
use Rattle.cu_store.specs.declared.faults.TaskFault.{TaskFault}
use Rattle.cu_store.specs.declared.faults.TaskFault.TheVariants as fault
use Rattle.cu_history.specs.declared.entry.Entry.{Entry}
use Rattle.cu_history.specs.History.{is_start, is_failed, count_kind, own}
use Rattle.cu_op.specs.PlanView.{PlanView}
use Rattle.cu_task.specs.Task.{IsTaskFault}
use Rattle.cu_task.specs.Calls.{calls_of}
use Rattle.cu_table.specs.declared.claim.Claim.{Claim}
use Rattle.cu_table.specs.declared.claim.Claim.TheVariants as claim
use Rattle.cu_table.specs.Table.{TableView, start_event, end_of, report_kind, is_late}
use Rattle.cu_lock.specs.Rule.{AllBelow, IsKnownFront}
use Rattle.cu_lock.specs.declared.view.SeatView.{SeatView}
use Rattle.cu_board.specs.Board.{IsClaimTurn, IsReportTurn, halted_fault}
use Rattle.cu_work.specs.Alone.{Tried}
use Rattle.cu_work.specs.Starts.{started_calls}
use Rattle.cu_work.specs.Workers.{AreWorkersOf, HasCounted, HaveCounted, front_of}
use Rattle.cu_work.specs.declared.worker.Worker.{Worker}
use Rattle.atomic_table.specs.Seated.{TableId}
use Rattle.cu_work.proofs.AloneTurns.{count_push}
use Rattle.cu_work.proofs.Started.{one_if, started_push}
use Rattle.cu_work.proofs.Turning.{own-snoc, front_after, same_after, reported_after, kind_ends}
use Rattle.cu_work.proofs.WorkerSums.{parts_add, sum_few, sum_many}

-- ---- a worker's own entries

run_own : (made : TableView) (v w : SeatView) (op task copy : ℕ) (k : Known) (c : IsClaimTurn made v (claim.Run op task copy) w k)
    → own w.number w.front ≡ own v.number v.front ++ start_event c.before.settings.plan v.number op task ∷ []
run_own made v w op task copy k c =
    ap (λ (n : ℕ). own n w.front) (same_after made v w (claim.Run op task copy) k c).1
    ∙ ap (own v.number) (front_after made v c.after w c.left ∙ c.answer.0.history)
    ∙ own-snoc v.number c.before.history (start_event c.before.settings.plan v.number op task) refl
    ∙ ap (λ (es : List Entry). es ++ start_event c.before.settings.plan v.number op task ∷ []) c.found.own

still_own : (made : TableView) (v w : SeatView) (r : Claim) (k : Known) (c : IsClaimTurn made v r w k) → c.after ≡ c.before → own w.number w.front ≡ own v.number v.front
still_own made v w r k c same =
    ap (λ (n : ℕ). own n w.front) (same_after made v w r k c).1
    ∙ ap (own v.number) (front_after made v c.after w c.left ∙ ap (λ (t : TableView). t.history) same)
    ∙ c.found.own

report_own : (made : TableView) (v w : SeatView) (op task : ℕ) (r : Result (Unit {0}) TaskFault) (c : IsReportTurn made v op task r w)
    → own w.number w.front ≡ own v.number v.front ++ end_of (report_kind (is_late c.before.settings.plan c.before.state op task) r) v.number op task ∷ []
report_own made v w op task r c =
    let e = end_of (report_kind (is_late c.before.settings.plan c.before.state op task) r) v.number op task in
    ap (λ (n : ℕ). own n w.front) (reported_after made v w op task r c).1
    ∙ ap (own v.number) (front_after made v c.after w c.left ∙ c.reported.0.history)
    ∙ own-snoc v.number c.before.history e refl
    ∙ ap (λ (es : List Entry). es ++ e ∷ []) c.found.own

-- ---- a turn

-- a try that failed was counted
risen : (b : Bool) (r : Result (Unit {0}) TaskFault) (p : PlanView) (op task : ℕ) (k l : Known) → k.faults ≤ l.faults → IfErr r (IsTaskFault (shown_by k) (shown_by l) p op task)
    → min (k.faults + one_if (is_failed (report_kind b r))) last_count ≤ l.faults
risen true r p op task k l more why = omega (arith, more)
risen false (Ok x) p op task k l more why = omega (arith, more)
risen false (Err fault.Store) p op task k l more why = why
risen false (Err (fault.BadChunk key got want)) p op task k l more why = omega (arith, more)
risen false (Err fault.NoMemory) p op task k l more why = omega (arith, more)

faults_turn : (n x k0 k1 k2 l : ℕ) → min n l ≤ k0 → min k1 l ≡ min k0 l → min (k1 + x) l ≤ k2 → min (n + 0 + x) l ≤ k2
faults_turn n x k0 k1 k2 l was same rose = omega (arith, was, same, rose)

calls_turn : (s c k0 k1 k2 : ℕ) → k0 ≤ s → k1 ≤ k0 → k2 ≤ k1 + c → k2 ≤ s + c + 0
calls_turn s c k0 k1 k2 was first last = omega (arith, was, first, last)

-- a claim of a task, its try, and its report
pub counted_turn : (p : PlanView) (made : TableView) (v w x : SeatView) (op task copy : ℕ) (r : Result (Unit {0}) TaskFault) (yard : Served) (k l m : Known)
    → IsClaimTurn made v (claim.Run op task copy) w l → IsReportTurn made w op task r x → min l.faults last_count ≡ min k.faults last_count → l.calls ≤ k.calls
    → Tried p op task yard (l, m) r → HasCounted p v k → HasCounted p x m
counted_turn p made v w x op task copy r yard k l m claimed reported faults calls tried was =
    let start = start_event claimed.before.settings.plan v.number op task in
    let b = is_late reported.before.settings.plan reported.before.state op task in
    let e = end_of (report_kind b r) w.number op task in
    let es = own v.number v.front in
    let all : own x.number x.front ≡ (es ++ start ∷ []) ++ e ∷ [] =
    report_own made w x op task r reported ∙ ap (λ (ds : List Entry). ds ++ e ∷ []) (run_own made v w op task copy l claimed) in
    record {
      faults = subst (λ (n : ℕ). min n last_count ≤ m.faults)
          (sym (ap (count_kind is_failed) all ∙ count_push is_failed (es ++ start ∷ []) e ∙ ap (λ (n : ℕ). n + one_if (is_failed (report_kind b r))) (count_push is_failed es start)))
          (faults_turn (count_kind is_failed es) (one_if (is_failed (report_kind b r))) k.faults l.faults m.faults last_count was.faults faults
          (risen b r p op task l m tried.step.count tried.cause));
      calls = subst (λ (n : ℕ). m.calls ≤ n)
          (sym (ap (started_calls p) all ∙ started_push p (es ++ start ∷ []) e
          ∙ (ap (λ (b : Bool). started_calls p (es ++ start ∷ []) + (if b then calls_of p op task else 0)) (kind_ends b r)
          ∙ ap (λ (n : ℕ). n + 0) (started_push p es start))))
          (calls_turn (started_calls p es) (calls_of p op task) k.calls l.calls m.calls was.calls calls tried.step.calls.1);
    }

-- a claim of nothing
pub counted_still : (p : PlanView) (made : TableView) (v w : SeatView) (r : Claim) (k l : Known) (c : IsClaimTurn made v r w l) → c.after ≡ c.before → l ≡ k
    → HasCounted p v k → HasCounted p w l
counted_still p made v w r k l c same passes was =
    let es = still_own made v w r l c same in
    record {
      faults = subst (λ (x : List Entry × Known). min (count_kind is_failed x.0) last_count ≤ x.1.faults) (λ i. (sym es i, sym passes i)) was.faults;
      calls = subst (λ (x : List Entry × Known). x.1.calls ≤ started_calls p x.0) (λ i. (sym es i, sym passes i)) was.calls;
    }

-- before the first turn
pub counted_first : (p : PlanView) (v : SeatView) (k l : Known) → v.front ≡ [] → k ≡ uncounted l → HasCounted p v k
counted_first p v k l fresh none = record {
  faults = subst (λ (es : List Entry). min (count_kind is_failed (own v.number es)) last_count ≤ k.faults) (sym fresh) (omega arith);
  calls = subst (λ (es : List Entry). k.calls ≤ started_calls p (own v.number es)) (sym fresh) (let z : k.calls ≡ 0 = ap (λ (x : Known). x.calls) none in omega (arith, z));
}

-- ---- all workers

module _ {Y P : Type 0} (knows : P → Known) (owns : Y → P → Type 0) (yard : Y) (board : TableId) (p : PlanView) (ws : List (Worker Y P)) (crew : AreWorkersOf owns yard board ws)
    (have : HaveCounted knows p ws) (t : TableView)
    (fronts : (i : ℕ) (d : Worker Y P) → i < length ws → IsKnownFront t.history (halted_fault t.state.ended) (front_of (slice_index_or ws i d).seat))
    (below : AllBelow (length ws) t.history) where
  -- what worker i knows of its entries is what the history has of them
  own_known : (i : ℕ) (d : Worker Y P) → i < length ws
      → own (slice_index_or ws i d).seat.view.number (slice_index_or ws i d).seat.view.front ≡ own i t.history
  own_known i d low = sym (fronts i d low).1 ∙ ap (λ (n : ℕ). own n t.history) (crew i d low).number_is

  pub calls_in_all : sum_by (λ k. k.calls) (map (λ w. knows w.pass) ws) ≤ started_calls p t.history
  calls_in_all =
      subst (λ (n : ℕ). sum_by (λ k. k.calls) (map (λ w. knows w.pass) ws) ≤ n)
      (parts_add (λ e. if is_start e.kind then calls_of p e.op e.task else 0) (started_calls p) refl (λ e es. refl) (length ws) t.history below)
      (sum_few (λ (w : Worker Y P). knows w.pass) (λ (k : Known). k.calls) ws (λ i. started_calls p (own i t.history))
      (λ i d low. subst (λ (es : List Entry). (knows (slice_index_or ws i d).pass).calls ≤ started_calls p es) (own_known i d low) (have i d low).calls))

  pub failures_in_all : min (count_kind is_failed t.history) last_count ≤ sum_by (λ k. k.faults) (map (λ w. knows w.pass) ws)
  failures_in_all =
      subst (λ (n : ℕ). min n last_count ≤ sum_by (λ k. k.faults) (map (λ w. knows w.pass) ws))
      (parts_add (λ e. if is_failed e.kind then 1 else 0) (count_kind is_failed) refl (λ e es. refl) (length ws) t.history below)
      (sum_many (λ (w : Worker Y P). knows w.pass) (λ (k : Known). k.faults) ws (λ i. count_kind is_failed (own i t.history)) last_count
      (λ i d low. subst (λ (es : List Entry). min (count_kind is_failed es) last_count ≤ (knows (slice_index_or ws i d).pass).faults) (own_known i d low) (have i d low).faults))
