-- How often tasks fail in a history that wasn't ended.
use Rattle.std.proofs.Common.{◌≡◌, ◌≢◌, inl, inr, ℕ, ◌+◌, ◌*◌, ◌≤◌, Bool, List, [], ◌∷◌, length, map, All, Some, None, refl, ap, sym, ◌∙◌, subst, arith}
use Rattle.std.specs.Prelude.{◌==◌, sum_by}
use Rattle.std.proofs.lemmas.Bool.{cond-true}
use Rattle.std.proofs.lemmas.Bool.Decides.{eqb_tells}
use Rattle.std.proofs.lemmas.List.Sums.{sum_by-cons, sum_by-le, sum_by-set}
use Rattle.std.proofs.lemmas.List.Elements.{All-set, All-map}
use Rattle.std.proofs.Math.Nat.{mul_comm}
use Rattle.cu_history.specs.declared.entry.Entry.{Entry}
use Rattle.cu_history.specs.declared.entry.EventKind.{EventKind}
use Rattle.cu_history.specs.declared.entry.EventKind.TheVariants.{Start, Done, Failed, Halt, Late}
use Rattle.cu_history.specs.History.{is_failed, count_kind}
use Rattle.cu_table.specs.declared.state.TaskState.{TaskState}
use Rattle.cu_table.specs.declared.state.Ending.TheVariants.{Broken}
use Rattle.cu_table.specs.Numbers.{IsTask, task_count, task_number}
use Rattle.cu_table.specs.Machine.{Machine, no_task, state_at, with_task, opened, opening, one_copy_more, one_copy_less, done_now, failed_now}
use Rattle.cu_table.specs.Step.{Settings, StepOf, Run, Replays, ending_after}
use Rattle.cu_table.proofs.Counting.{one, going_run}
use Rattle.cu_table.proofs.Keeping.{Kept, inside, counted, step_kept, opening_kept, replay_kept}

abbrev failed_among : List TaskState → ℕ
failed_among tasks = sum_by (λ s. s.failures) tasks

-- no task failed more often than it is tried again
abbrev AreFew : ℕ → List TaskState → Type 0
AreFew retries tasks = All (λ s. s.failures ≤ retries) tasks

ending_none : (retries failures op task : ℕ) → ending_after retries failures op task ≡ None → failures ≢ retries
ending_none retries failures op task none same =
    elim (eqb_tells failures retries) [
      | inl is ↦ let e : Some (Broken op task) ≡ None = sym (cond-true (failures == retries) (Some (Broken op task)) None is.0) ∙ none in cc
      | inr isnt ↦ isnt.1 same
    ]

module _ (g : Settings) (old : Machine) (kept : Kept g.plan g.retries old) (e : Entry) (new : Machine) where
  -- one task is in another state
  sum_with : (is : IsTask g.plan e.op e.task) (s : TaskState) → new.tasks ≡ with_task g.plan old e.op e.task s
      → failed_among new.tasks + (state_at g.plan old e.op e.task).failures ≡ failed_among old.tasks + s.failures
  sum_with is s tasks =
      let a = sum_by-set (λ (s : TaskState). s.failures) old.tasks (task_number g.plan e.op e.task) s no_task (inside g.plan g.retries old kept e.op e.task is s) in
      let b = ap failed_among tasks in
      omega (arith, a, b)

  few_with : (s : TaskState) → new.tasks ≡ with_task g.plan old e.op e.task s → s.failures ≤ g.retries → AreFew g.retries old.tasks → AreFew g.retries new.tasks
  few_with s tasks few all =
      subst (AreFew g.retries) (sym tasks) (All-set (λ (s : TaskState). s.failures ≤ g.retries) old.tasks (task_number g.plan e.op e.task) s few all)

  few_at : IsTask g.plan e.op e.task → AreFew g.retries old.tasks → (state_at g.plan old e.op e.task).failures ≤ g.retries
  few_at is all = all (task_number g.plan e.op e.task) no_task (inside g.plan g.retries old kept e.op e.task is no_task)

  task_of_start : (step : StepOf g old Start e new) → IsTask g.plan e.op e.task
  task_of_start step = step.0.task

  failed_step : (kind : EventKind) → StepOf g old kind e new
      → (failed_among new.tasks ≡ one (is_failed kind) + failed_among old.tasks) × (AreFew g.retries old.tasks → new.ended ≡ None → AreFew g.retries new.tasks)
  failed_step Start step =
      let s = one_copy_more (state_at g.plan old e.op e.task) in
      let tasks = ap (λ (m : Machine). m.tasks) step.1 in
      let a = sum_with step.0.task s tasks in
      (omega (arith, a), λ all none. few_with s tasks (few_at step.0.task all) all)
  failed_step Done step =
      let s = done_now (state_at g.plan old e.op e.task) in
      let is = (counted g.plan g.retries old kept e.worker e.op e.task step.0.runs).0 in
      let tasks = ap (λ (m : Machine). m.tasks) step.1 in
      let a = sum_with is s tasks in
      (omega (arith, a), λ all none. few_with s tasks (few_at is all) all)
  failed_step Failed step =
      let s = failed_now (state_at g.plan old e.op e.task) in
      let is = (counted g.plan g.retries old kept e.worker e.op e.task step.0.runs).0 in
      let tasks = ap (λ (m : Machine). m.tasks) step.1 in
      let a = sum_with is s tasks in (
        omega (arith, a),
        λ all none.
            let few = few_at is all in
            let other = ending_none g.retries (state_at g.plan old e.op e.task).failures e.op e.task (sym (ap (λ (m : Machine). m.ended) step.1) ∙ none) in
            few_with s tasks (omega (arith, few, other)) all,
      )
  failed_step Halt step =
      let s = one_copy_less (state_at g.plan old e.op e.task) in
      let is = (counted g.plan g.retries old kept e.worker e.op e.task step.0.runs).0 in
      let tasks = ap (λ (m : Machine). m.tasks) step.1.2 in
      let a = sum_with is s tasks in
      (omega (arith, a), λ all none. few_with s tasks (few_at is all) all)
  failed_step Late step =
      let s = one_copy_less (state_at g.plan old e.op e.task) in
      let is = (counted g.plan g.retries old kept e.worker e.op e.task step.0.runs).0 in
      let tasks = ap (λ (m : Machine). m.tasks) step.1 in
      let a = sum_with is s tasks in
      (omega (arith, a), λ all none. few_with s tasks (few_at is all) all)

failed_run : (g : Settings) (old : Machine) (es : List Entry) (new : Machine) → Kept g.plan g.retries old → Run g old es new
    → (failed_among new.tasks ≡ count_kind is_failed es + failed_among old.tasks) × (AreFew g.retries old.tasks → new.ended ≡ None → AreFew g.retries new.tasks)
failed_run g old [] new kept is = (
  (let a = ap (λ (m : Machine). failed_among m.tasks) is in omega (arith, a)),
  λ all none. subst (λ (m : Machine). AreFew g.retries m.tasks) (sym is) all,
)
failed_run g old (e ∷ es) new kept (mid, step, run) =
    let (sum, few) = failed_step g old kept e mid e.kind step in
    let (rest, still) = failed_run g mid es new (step_kept g old e mid kept step).0 run in
    let b : count_kind is_failed (e ∷ es) ≡ one (is_failed e.kind) + count_kind is_failed es = refl in
    (omega (arith, sum, rest, b), λ all none. still (few all (going_run g mid es new run none)) none)

sum_few : (retries : ℕ) (tasks : List TaskState) → AreFew retries tasks → failed_among tasks ≤ retries * length tasks
sum_few retries tasks few =
    let most = sum_by-le (λ (s : TaskState). s.failures) retries tasks few in
    subst (λ (n : ℕ). failed_among tasks ≤ n) (mul_comm (length tasks) retries) most

none_failed : (done : List Bool) → failed_among (opening done).tasks ≡ 0
none_failed [] = refl
none_failed (d ∷ ds) =
    let rest = none_failed ds in
    let sum : 0 + failed_among (opening ds).tasks ≡ 0 = omega (arith, rest) in
    sum_by-cons (λ (s : TaskState). s.failures) (opened d) (map opened ds) ∙ sum

-- each task failed at most as often as it is tried again
pub failures_few : (s : Settings) (done : List Bool) (history : List Entry) (m : Machine) → Replays s done history m → m.ended ≡ None → count_kind is_failed history ≤ s.retries * task_count s.plan
failures_few s done history m legal none =
    let (sum, few) = failed_run s (opening done) history m (opening_kept s.plan s.retries done legal.0) legal.1 in
    let all = few (All-map (λ (t : TaskState). t.failures ≤ s.retries) opened done (λ k d l. omega arith)) none in
    let kept = (replay_kept s done history m legal).0 in
    let most : failed_among m.tasks ≤ s.retries * task_count s.plan = subst (λ (n : ℕ). failed_among m.tasks ≤ s.retries * n) kept.tasks (sum_few s.retries m.tasks all) in
    let start = none_failed done in
    omega (arith, sum, most, start)
