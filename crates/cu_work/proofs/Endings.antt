-- What holds of a beginning of a history that ended holds of the whole history.
use Rattle.std.proofs.Common.{◌≡◌, ◌↔◌, ℕ, ◌+◌, Bool, true, false, cond, List, ◌++◌, Option, Some, None, refl, sym, ap, ◌∙◌, subst, arith}
use Rattle.cu_store.specs.Yard.{Known}
use Rattle.cu_store.specs.declared.faults.TaskFault.{TaskFault}
use Rattle.cu_store.specs.declared.faults.TaskFault.TheVariants as fault
use Rattle.cu_history.specs.declared.entry.Entry.{Entry}
use Rattle.cu_history.specs.History.{is_done, is_failed, count_of_task, has_halt}
use Rattle.cu_table.specs.declared.state.Ending.{Ending}
use Rattle.cu_table.specs.declared.state.Ending.TheVariants as ending
use Rattle.cu_table.specs.Numbers.{IsTask}
use Rattle.cu_table.specs.Machine.{Machine, state_at, IsDone, AllDone, opening}
use Rattle.cu_table.specs.Step.{Settings, Run, Replays}
use Rattle.cu_table.specs.Table.{TableView, undone_weight}
use Rattle.cu_lock.specs.Rule.{IsKnownFront}
use Rattle.cu_board.specs.Board.{IsLegal, IsSameJob, halted_fault}
use Rattle.cu_board.specs.Views.{SeatAt}
use Rattle.cu_work.specs.declared.outcome.Outcome.{Outcome}
use Rattle.cu_work.specs.declared.outcome.Outcome.TheVariants as outcome
use Rattle.cu_work.specs.Alone.{IsDecided}
use Rattle.cu_work.specs.Workers.{KnowsEnd, front_of}

-- what is used of the table's laws
pub record TableLaws : Type 0 where
  pub front : (s : Settings) (done : List Bool) (front rest : List Entry) (new : Machine) → Replays s done (front ++ rest) new → (m : Machine) × Replays s done front m × Run s m rest new
  pub counted : (s : Settings) (done : List Bool) (history : List Entry) (m : Machine) (op task : ℕ) → Replays s done history m → IsTask s.plan op task
      → count_of_task is_done op task history + undone_weight (state_at s.plan m op task) ≡ undone_weight (state_at s.plan (opening done) op task)
  pub stays : (s : Settings) (old : Machine) (rest : List Entry) (new : Machine) (op task : ℕ) → Run s old rest new → IsDone s.plan old op task → IsDone s.plan new op task
  pub exactly : (s : Settings) (done : List Bool) (history : List Entry) (m : Machine) (op task : ℕ) → Replays s done history m → IsTask s.plan op task
      → (m.ended ≡ Some (ending.Broken op task)) ↔ (count_of_task is_failed op task history ≡ s.retries + 1)
  pub task : (s : Settings) (done : List Bool) (history : List Entry) (m : Machine) (op task : ℕ) → Replays s done history m → m.ended ≡ Some (ending.Broken op task) → IsTask s.plan op task
  pub ended : (s : Settings) (old : Machine) (rest : List Entry) (new : Machine) (e : Ending) → Run s old rest new → old.ended ≡ Some e → new.ended ≡ Some e
  pub halt : (s : Settings) (done : List Bool) (history : List Entry) (m : Machine) → Replays s done history m → (has_halt history ≡ true) ↔ ((f : TaskFault) × (m.ended ≡ Some (ending.Halted f)))
  pub undone : (s : Settings) (done : List Bool) (history : List Entry) (m : Machine) (e : Ending) → Replays s done history m → m.ended ≡ Some e → AllDone s.plan m → ⊥

-- of as many entries Done, either both tasks are done or neither is
same_done : (a b : Bool) (n o : ℕ) → n + cond a 0 1 ≡ o → n + cond b 0 1 ≡ o → a ≡ true → b ≡ true
same_done a true n o p q is = refl
same_done true false n o p q is = absurd (omega (arith, p, q))
same_done false false n o p q is = is

not_ended : (o : Option Ending) → ((e : Ending) → o ≡ Some e → ⊥) → o ≡ None
not_ended None never = refl
not_ended (Some e) never = absurd (never e refl)

fault_or : TaskFault → Option TaskFault → TaskFault
fault_or d None = d
fault_or d (Some f) = f

no_fault : (f : TaskFault) → ◌≡◌ {A = Option TaskFault} None (Some f) → ⊥
no_fault f e = cc

halted_is : (o : Option Ending) (f : TaskFault) → halted_fault o ≡ Some f → o ≡ Some (ending.Halted f)
halted_is None f e = absurd (no_fault f e)
halted_is (Some (ending.Broken op task)) f e = absurd (no_fault f e)
halted_is (Some (ending.Halted g)) f e = cc

module _ (l : TableLaws) where
  complete : (u : TableView) (rest : List Entry) (n : Machine) → IsLegal u → Replays u.settings u.done (u.history ++ rest) n → AllDone u.settings.plan u.state → (n.ended ≡ None) × AllDone u.settings.plan n
  complete u rest n legal whole all =
      let s = u.settings in
      let (mid, at, run) = l.front s u.done u.history rest n whole in
      let now : AllDone s.plan n = λ op task is. l.stays s mid rest n op task run
      (same_done (state_at s.plan u.state op task).done (state_at s.plan mid op task).done _ _ (l.counted s u.done u.history u.state op task legal is)
      (l.counted s u.done u.history mid op task at is) (all op task is)) in
      (not_ended n.ended (λ x e. l.undone s u.done (u.history ++ rest) n x whole e now), now)

  broken : (u : TableView) (rest : List Entry) (n : Machine) (op task : ℕ) → IsLegal u → Replays u.settings u.done (u.history ++ rest) n
      → u.state.ended ≡ Some (ending.Broken op task) → n.ended ≡ Some (ending.Broken op task)
  broken u rest n op task legal whole e =
      let s = u.settings in
      let (mid, at, run) = l.front s u.done u.history rest n whole in
      let is = l.task s u.done u.history u.state op task legal e in
      l.ended s mid rest n (ending.Broken op task) run
      ((l.exactly s u.done u.history mid op task at is).1 ((l.exactly s u.done u.history u.state op task legal is).0 e))

  halted : (u : TableView) (n : Machine) (f : TaskFault) → IsLegal u → (has_halt u.history ≡ true → halted_fault u.state.ended ≡ halted_fault n.ended)
      → u.state.ended ≡ Some (ending.Halted f) → n.ended ≡ Some (ending.Halted f)
  halted u n f legal same e =
      let h = (l.halt u.settings u.done u.history u.state legal).1 (f, e) in
      halted_is n.ended f (sym (same h) ∙ ap halted_fault e)

  by_outcome : (o : Outcome) (u : TableView) (rest : List Entry) (n : Machine) → IsLegal u → Replays u.settings u.done (u.history ++ rest) n
      → (has_halt u.history ≡ true → halted_fault u.state.ended ≡ halted_fault n.ended) → IsDecided u.settings.plan u.state o → IsDecided u.settings.plan n o
  by_outcome outcome.Complete u rest n legal whole same (none, all) = complete u rest n legal whole all
  by_outcome (outcome.Broken op task) u rest n legal whole same e = broken u rest n op task legal whole e
  by_outcome (outcome.BadChunk key got want) u rest n legal whole same e = halted u n (fault.BadChunk key got want) legal same e
  by_outcome outcome.Lacked u rest n legal whole same e = halted u n fault.NoMemory legal same e

  pub decided_at_end : (made t : TableView) (seat : SeatAt) (k : Known) (o : Outcome) → KnowsEnd made seat.view k o → IsSameJob made t → IsLegal t
      → IsKnownFront t.history (halted_fault t.state.ended) (front_of seat) → IsDecided t.settings.plan t.state o
  decided_at_end made t seat k o end same legal ((rest, is), own, halt) =
      let u = end.table in
      let settings : t.settings ≡ u.settings = same.0 ∙ sym end.same.0 in
      let done : t.done ≡ u.done = same.1 ∙ sym end.same.1 in
      let history : t.history ≡ u.history ++ rest = is ∙ ap (λ (xs : List Entry). xs ++ rest) end.front in
      let whole = subst (λ (x : Settings × List Bool × List Entry). Replays x.0 x.1 x.2 t.state) (λ i. (settings i, done i, history i)) legal in
      subst (λ (x : Settings). IsDecided x.plan t.state o) (sym settings)
      (by_outcome o u rest t.state end.legal whole (λ h. sym end.fault ∙ halt (subst (λ (xs : List Entry). has_halt xs ≡ true) (sym end.front) h)) end.decided)
