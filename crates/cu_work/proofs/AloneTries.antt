-- How often a single worker has tried each task, and how many calls it has made, from turn to turn.
use Rattle.std.proofs.Common.{◌≡◌, ℕ, ◌+◌, ◌*◌, ◌<◌, ◌≤◌, All, false, [], ◌∷◌, ◌++◌, Result, Ok, Err, refl, ap, sym, ◌∙◌, subst, arith}
use Rattle.std.proofs.lemmas.List.Elements.{All-nil, All-push}
use Rattle.cu_history.specs.declared.entry.Entry.{Entry}
use Rattle.cu_work.specs.Starts.{IsOfWorkers}
use Rattle.cu_store.specs.Yard.{Served, Known}
use Rattle.cu_store.specs.declared.faults.TaskFault.{TaskFault}
use Rattle.cu_store.specs.declared.faults.TaskFault.TheVariants as fault
use Rattle.cu_history.specs.History.{is_start, count_of_task}
use Rattle.cu_op.specs.PlanView.{PlanView}
use Rattle.cu_task.specs.Calls.{calls_of}
use Rattle.cu_table.specs.Numbers.{IsTask}
use Rattle.cu_table.specs.Step.{Settings, Step, StepOf, Replays}
use Rattle.cu_table.specs.Table.{TableView, Goes, start_event, end_of, report_kind}
use Rattle.cu_table.proofs.Copies.{weight_own, weight_other}
use Rattle.cu_table.proofs.Keeping.{Kept, replay_kept}
use Rattle.cu_work.specs.Alone.{HasRun, Tried}
use Rattle.cu_work.specs.Calls.{calls_of_tasks}
use Rattle.cu_work.proofs.Started.{alone_starts}
use Rattle.cu_work.proofs.Tries.{IsTriedFew, spent, spent_more, spent_few, turn_counts, turn_few}

-- each task was started few times, by worker 0, and the calls are at most those of these starts
pub record HasTried (first now : TableView) (old new : Known) : Type 0 where
  pub few : (op task : ℕ) → IsTask first.settings.plan op task → IsTriedFew first.settings now.state now.history op task
  pub numbers : All (λ e. e.worker < 1) now.history
  pub calls : new.calls ≤ old.calls + spent first.settings.plan (calls_of first.settings.plan) (λ op task. count_of_task is_start op task now.history)

pub tried_first : (t : TableView) (k : Known) → t.history ≡ [] → HasTried t t k k
tried_first t k fresh = record {
  few = λ op task is.
      let none = ap (count_of_task is_start op task) fresh in
      record { few = omega (arith, none); undone = λ going undone. omega (arith, none) };
  numbers = subst (All (λ (e : Entry). e.worker < 1)) (sym fresh) (All-nil (λ (e : Entry). e.worker < 1));
  calls = omega arith;
}

not_start : (r : Result (Unit {0}) TaskFault) → is_start (report_kind false r) ≡ false
not_start (Ok x) = refl
not_start (Err fault.Store) = refl
not_start (Err (fault.BadChunk key got want)) = refl
not_start (Err fault.NoMemory) = refl

module _ (yard : Served) (first t u v : TableView) (old : Known) (ks : Known × Known) (op task : ℕ) (has : HasRun yard first t old ks.0)
    (goes : Goes t u (start_event t.settings.plan 0 op task)) where
  kept_before : Kept first.settings.plan first.settings.retries t.state
  kept_before = (replay_kept first.settings t.done t.history t.state (subst (λ (s : Settings). Replays s t.done t.history t.state) has.settings has.legal)).0

  start_step : Step first.settings t.state (start_event first.settings.plan 0 op task) u.state
  start_step = subst (λ (s : Settings). Step s t.state (start_event s.plan 0 op task) u.state) has.settings goes.step

  pub tried_more : (r : Result (Unit {0}) TaskFault) → Tried first.settings.plan op task yard ks r → Goes u v (end_of (report_kind false r) 0 op task)
      → HasTried first t old ks.0 → HasTried first v old ks.1
  tried_more r tried report was =
      let g = first.settings in
      let begun = subst (λ (s : Settings). u.history ≡ t.history ++ start_event s.plan 0 op task ∷ []) has.settings goes.history in
      let ended = subst (λ (s : Settings). StepOf s u.state (report_kind false r) (end_of (report_kind false r) 0 op task) v.state) (goes.settings ∙ has.settings) report.step in
      let counts = turn_counts g t.state u.state v.state op task kept_before has.resting start_step t.history u.history v.history (report_kind false r) begun report.history (not_start r) in
      let more = spent_more g.plan (calls_of g.plan) (λ o k. count_of_task is_start o k t.history) (λ o k. count_of_task is_start o k v.history) op task start_step.0.task
      (let own = counts op task in let one = weight_own op task 0 in omega (arith, own, one))
      (λ l other that apart. let same = counts l other in let none = weight_other op task 0 l other apart in omega (arith, same, none)) in
      let before = was.calls in
      let turn = tried.step.calls.1 in
      record {
        few = λ l other that.
            turn_few g t.state u.state v.state op task kept_before has.resting start_step t.history v.history counts r ended l other that (was.few l other that);
        numbers = subst (All (λ (e : Entry). e.worker < 1)) (sym report.history)
            (All-push (λ (e : Entry). e.worker < 1) u.history (end_of (report_kind false r) 0 op task)
            (subst (All (λ (e : Entry). e.worker < 1)) (sym goes.history)
            (All-push (λ (e : Entry). e.worker < 1) t.history (start_event t.settings.plan 0 op task) was.numbers (omega arith))) (omega arith));
        calls = omega (arith, more, before, turn);
      }

-- all entries
pub tried_workers : (first now last : TableView) (old new : Known) → last ≡ now → HasTried first now old new → IsOfWorkers 1 first.settings last.history
tried_workers first now last old new same tried = subst (λ (t : TableView). IsOfWorkers 1 first.settings t.history) (sym same) (record {
  numbers = tried.numbers;
  starts = λ op task is. alone_starts first.settings.backups first.settings.retries (count_of_task is_start op task now.history) (tried.few op task is).few;
})

-- all calls
pub tried_calls : (first now : TableView) (old new : Known) (p : PlanView) → first.settings.plan ≡ p → HasTried first now old new
    → new.calls ≤ old.calls + (first.settings.retries + 1) * calls_of_tasks p
tried_calls first now old new p plan tried =
    let few = spent_few first.settings.plan (calls_of first.settings.plan) (λ op task. count_of_task is_start op task now.history) (first.settings.retries + 1) (λ op task is. (tried.few op task is).few) in
    let calls = tried.calls in
    subst (λ (q : PlanView). new.calls ≤ old.calls + (first.settings.retries + 1) * calls_of_tasks q) plan (omega (arith, few, calls))
