-- The lists of waiting tasks as a table begins: the tasks are put into them from the last to the first.
use Rattle.std.proofs.Common.{◌≡◌, inl, inr, ℕ, ◌+◌, ◌<◌, ◌≤◌, true, false, List, [], length, get_or, All, ap, sym, ◌∙◌, arith}
use Rattle.std.proofs.lemmas.Bool.{cases_eq}
use Rattle.std.proofs.lemmas.List.{get_or_default}
use Rattle.std.proofs.lemmas.List.Sums.{sum_by-le}
use Rattle.cu_op.specs.PlanView.{PlanView}
use Rattle.cu_table.specs.declared.state.TaskId.{TaskId}
use Rattle.cu_table.specs.declared.state.TaskState.{TaskState}
use Rattle.cu_table.specs.Numbers.{IsTask, task_count, task_number}
use Rattle.cu_table.specs.Machine.{no_task, state_at}
use Rattle.cu_table.specs.Queue.{Lined, times_in, watchers_of, held, of_tasks, IsOver, IsLined, IsQueue, HasListPlace, Settles, IsFresh}
use Rattle.cu_table.proofs.Numbers.{number_some, number_below}
use Rattle.cu_table.proofs.Lining.{has_place, lined_settled, still_quiet, held_settled}
use Rattle.cu_table.proofs.Queues.{lined_change}

-- the tasks from number `from` on are in their lists, and no other is
pub record FirstSoFar (p : PlanView) (states : List TaskState) (from : ℕ) (q : Lined) : Type 0 where
  pub lined : IsLined p (of_tasks states) (λ j. j < from) q
  pub apart : (j : ℕ) → j < from → held j q ≡ 0
  pub quiet : (x : ℕ) → IsOver p (of_tasks states) x → watchers_of q x ≡ []

module _ (p : PlanView) (states : List TaskState) where
  -- ---- empty lists

  module _ (limit : task_count p ≤ 65536) (q : Lined) (size : q.size ≡ task_count p) (things : length q.watching ≡ task_count p + length p.ops) (waiting : q.waiting ≡ []) (watching : (x : ℕ) → watchers_of q x ≡ []) where
    none_held : (j : ℕ) → held j q ≡ 0
    none_held j =
        let a = ap (times_in j) waiting in
        let b = sum_by-le (times_in j) 0 q.watching (λ k d l. each k d l) in
        omega (arith, a, b)
      where
        each : (k : ℕ) (d : List ℕ) → k < length q.watching → times_in j (get_or q.watching k d) ≤ 0
        each k d l = let e = ap (times_in j) (get_or_default q.watching k d [] l ∙ watching k) in omega (arith, e)

    pub first_none : FirstSoFar p states (task_count p) q
    first_none = record {
      lined = record {
        limit = limit;
        size = size;
        things = things;
        once = λ j. let n = none_held j in omega (arith, n);
        small = λ j h. let n = none_held j in absurd (omega (arith, n, h));
        ready = λ op task is h. absurd (let n = ap (times_in (task_number p op task)) waiting in omega (arith, n, h));
        watching_for = λ x op task is h. absurd (let n = ap (times_in (task_number p op task)) (watching x) in omega (arith, n, h));
        all = λ op task is waits. inr (number_below p op task is);
      };
      apart = λ j h. none_held j;
      quiet = λ x over. watching x;
    }

  -- ---- one task more

  module _ (number : ℕ) (q : Lined) (so_far : FirstSoFar p states (number + 1) q) (small : number < task_count p) where
    pub first_place : HasListPlace p q number
    first_place = has_place p (of_tasks states) (λ j. j < number + 1) q so_far.lined number small (so_far.apart number (omega arith))

    pub first_more : (get_or states number no_task).done ≡ false → (get_or states number no_task).copies ≡ 0 → (r : Lined)
        → ((id : TaskId) → IsTask p id.op id.task → task_number p id.op id.task ≡ number → Settles p (of_tasks states) id q r) → FirstSoFar p states number r
    first_more undone idle r settles =
        let (op, task, is, n) = number_some p number small in
        let put = settles (record { op = op; task = task }) is n in
        let at : state_at p (of_tasks states) op task ≡ get_or states number no_task = ap (λ (i : ℕ). get_or states i no_task) n in
        record {
          lined = lined_settled p (of_tasks states) (λ j. j < number + 1) (λ j. j < number) q r so_far.lined op task is
              (ap (λ (s : TaskState). s.done) at ∙ undone, ap (λ (s : TaskState). s.copies) at ∙ idle) (ap (λ (j : ℕ). held j q) n ∙ so_far.apart number (omega arith))
              (λ j h. elim (cases_eq j number) [ inl e ↦ inl (e ∙ sym n) | inr other ↦ inr (omega (arith, h, other)) ]) put;
          apart = λ j h. (let g = held_settled p (of_tasks states) (record { op = op; task = task }) q r put j (let b = h in λ e. omega (arith, b, e, n)) in let a = so_far.apart j (omega (arith, h)) in omega (arith, g, a));
          quiet = λ x over. still_quiet p (of_tasks states) (record { op = op; task = task }) q r put x over (so_far.quiet x over);
        }

    pub first_skip : (get_or states number no_task).done ≡ true → FirstSoFar p states number q
    first_skip done = record {
      lined = lined_change p (of_tasks states) (of_tasks states) (λ j. j < number + 1) (λ j. j < number) q so_far.lined (λ l other h. h) (λ l other is h w. w)
          (λ l other is waits. elim (cases_eq (task_number p l other) number) [
            | inl e ↦ absurd (let u = sym (ap (λ (i : ℕ). (get_or states i no_task).done) e) ∙ waits.0 in cc (u, done))
            | inr n ↦ inl (waits, λ h. omega (arith, h, n))
          ])
          (λ x l other blocks. inl blocks) (λ x over. over);
      apart = λ j h. so_far.apart j (omega (arith, h));
      quiet = so_far.quiet;
    }

  -- ---- all

  pub first_all : All IsFresh states → length states ≡ task_count p → (q : Lined) → FirstSoFar p states 0 q → IsQueue p (of_tasks states) q
  first_all fresh long q so_far = record {
    lined = lined_change p (of_tasks states) (of_tasks states) (λ j. j < 0) (λ j. ⊥) q so_far.lined (λ l other h. h) (λ l other is h w. w)
        (λ l other is waits. inl (waits, λ h. absurd (omega (arith, h)))) (λ x l other blocks. inl blocks) (λ x over. over);
    quiet = so_far.quiet;
    running = λ op task is undone some. absurd (
        let f = fresh (task_number p op task) no_task (let b = number_below p op task is in omega (arith, b, long)) in
        omega (arith, f, some));
  }
