-- One task changes: what stays of the others, of the counts, and of what keeps tasks waiting.
use Rattle.std.proofs.Common.{◌≡◌, ◌≢◌, ◌⊎◌, inl, inr, ℕ, zero, suc, ◌+◌, ◌-◌, ◌<◌, ◌≤◌, List, [], ◌∷◌, length, get_or, set, take, drop, map, sum, refl, ap, sym, ◌∙◌, subst, arith}
use Rattle.std.proofs.lemmas.Bool.{cases_Bool, cases_eq, cases_order, cond-true, cond-false}
use Rattle.std.proofs.lemmas.List.{get_or-set_same, get_or-set_other, length-set, get_or-map, length-map, map-set, take-map, length-take-le, length-drop, get_or-take, get_or-drop, get_or_default, take-set-le, drop-set-lt, drop-set-add}
use Rattle.std.proofs.lemmas.List.Sums.{sum-map, sum_by-set, sum_by-le, get_or-le-sum_by, sum_by-take-le}
use Rattle.cu_op.specs.Cells.{tasks_of}
use Rattle.cu_op.specs.PlanView.{PlanView}
use Rattle.cu_op.specs.Schedule.{op_of}
use Rattle.cu_table.specs.declared.state.TaskState.{TaskState}
use Rattle.cu_table.specs.Numbers.{IsTask, first_task, task_count, task_number, tasks_in}
use Rattle.cu_table.specs.Machine.{Machine, no_task, state_at, IsDone, MakesInput, AreInputsDone}
use Rattle.cu_table.specs.Table.{undone_weight, undone_among}
use Rattle.cu_table.specs.Queue.{of_tasks, undone_of, Blocks, IsOver}
use Rattle.cu_table.proofs.Numbers.{first_more, first_rises, past, number_below, number_once}

-- ---- sums over parts of a list

take_set : {X : Type 0} (n : ℕ) (xs : List X) (i : ℕ) (a : X) → i < n → take n (set xs i a) ≡ set (take n xs) i a
take_set zero xs i a h = absurd (omega (arith, h))
take_set (suc n) [] i a h = refl
take_set (suc n) (x ∷ xs) zero a h = refl
take_set (suc n) (x ∷ xs) (suc i) a h = ap (λ ys. x ∷ ys) (take_set n xs i a (omega (arith, h)))

drop_map : {X Y : Type 0} (f : X → Y) (n : ℕ) (xs : List X) → drop n (map f xs) ≡ map f (drop n xs)
drop_map f zero xs = refl
drop_map f (suc n) [] = refl
drop_map f (suc n) (x ∷ xs) = drop_map f n xs

undone_is : (p : PlanView) (tasks : List TaskState) (k : ℕ) → undone_of p (of_tasks tasks) k ≡ sum (take (tasks_of p.arrays (op_of p k)) (drop (first_task p k) (map undone_weight tasks)))
undone_is p tasks k =
    sym (sum-map undone_weight (take (tasks_of p.arrays (op_of p k)) (drop (first_task p k) tasks)))
    ∙ ap sum (sym (take-map undone_weight (tasks_of p.arrays (op_of p k)) (drop (first_task p k) tasks)) ∙ ap (take (tasks_of p.arrays (op_of p k))) (sym (drop_map undone_weight (first_task p k) tasks)))

module _ (p : PlanView) (tasks : List TaskState) (long : length tasks ≡ task_count p) where
  pub first_within : (k : ℕ) → k < length p.ops → first_task p k + tasks_of p.arrays (op_of p k) ≤ length tasks
  first_within k h =
      let a = first_more p k h in
      let b = sum_by-take-le (tasks_in p) p.ops (k + 1) in
      omega (arith, a, b, long)

  part_at : (k j : ℕ) → k < length p.ops → j < tasks_of p.arrays (op_of p k)
      → get_or (take (tasks_of p.arrays (op_of p k)) (drop (first_task p k) tasks)) j no_task ≡ state_at p (of_tasks tasks) k j
  part_at k j h b = get_or-take (tasks_of p.arrays (op_of p k)) (drop (first_task p k) tasks) j no_task b ∙ get_or-drop (first_task p k) tasks j no_task

  part_length : (k : ℕ) → k < length p.ops → length (take (tasks_of p.arrays (op_of p k)) (drop (first_task p k) tasks)) ≡ tasks_of p.arrays (op_of p k)
  part_length k h =
      length-take-le (tasks_of p.arrays (op_of p k)) (drop (first_task p k) tasks)
      (let a = first_within k h in let l = length-drop (first_task p k) tasks in omega (arith, a, l))

  -- an operation's count is 0 exactly where its tasks are done
  pub none_undone : (k : ℕ) → k < length p.ops → undone_of p (of_tasks tasks) k ≡ 0 → (task : ℕ) → IsTask p k task → IsDone p (of_tasks tasks) k task
  none_undone k h none task is =
      let a = get_or-le-sum_by undone_weight (take (tasks_of p.arrays (op_of p k)) (drop (first_task p k) tasks)) task no_task (let l = part_length k h in let n = is.number in omega (arith, l, n)) in
      let w = ap undone_weight (part_at k task h is.number) in
      elim (cases_Bool (state_at p (of_tasks tasks) k task).done) [
        | inl done ↦ done
        | inr undone ↦ absurd (let e = cond-false {A = ℕ} (state_at p (of_tasks tasks) k task).done 0 1 undone in omega (arith, a, w, e, none))
      ]

  pub all_undone : (k : ℕ) → k < length p.ops → ((task : ℕ) → IsTask p k task → IsDone p (of_tasks tasks) k task) → undone_of p (of_tasks tasks) k ≡ 0
  all_undone k h all =
      let a = sum_by-le undone_weight 0 (take (tasks_of p.arrays (op_of p k)) (drop (first_task p k) tasks)) (λ j d l. each j d l) in
      omega (arith, a)
    where
      each : (j : ℕ) (d : TaskState) → j < length (take (tasks_of p.arrays (op_of p k)) (drop (first_task p k) tasks))
          → undone_weight (get_or (take (tasks_of p.arrays (op_of p k)) (drop (first_task p k) tasks)) j d) ≤ 0
      each j d l =
          let n : j < tasks_of p.arrays (op_of p k) = let a = part_length k h in omega (arith, a, l) in
          let at = get_or_default (take (tasks_of p.arrays (op_of p k)) (drop (first_task p k) tasks)) j d no_task l ∙ part_at k j h n in
          let done = all j (record { operation = h; number = n }) in
          let e = ap undone_weight at ∙ cond-true {A = ℕ} (state_at p (of_tasks tasks) k j).done 0 1 done in
          omega (arith, e)

-- a thing that keeps a task waiting keeps it from being ready
pub blocks_ready : (p : PlanView) (tasks : List TaskState) → length tasks ≡ task_count p → (x op task : ℕ) → Blocks p (of_tasks tasks) x op task → AreInputsDone p (of_tasks tasks) op task → ⊥
blocks_ready p tasks long x op task (inl w) ready = let done = ready w.maker w.number w.makes in let undone = w.undone in cc (done, undone)
blocks_ready p tasks long x op task (inr w) ready = w.undone (all_undone p tasks long w.maker w.within (λ t is. ready w.maker t (w.makes t is)))

pub same_task : (op task l other : ℕ) → ((op ≡ l) × (task ≡ other)) ⊎ ((op ≡ l) × (task ≡ other) → ⊥)
same_task op task l other =
    elim (cases_eq op l) [
      | inl a ↦ elim (cases_eq task other) [
        | inl b ↦ inl (a, b)
        | inr b ↦ inr (λ h. b h.1)
      ]
      | inr a ↦ inr (λ h. a h.0)
    ]

pub as_task : (P : ℕ → ℕ → Type 0) (op task l other : ℕ) → (op ≡ l) × (task ≡ other) → P op task → P l other
as_task P op task l other (a, b) h = subst (λ (k : ℕ). P k other) a (subst (λ (t : ℕ). P op t) b h)

-- ---- one task changes

module _ (p : PlanView) (old new : List TaskState) (long : length old ≡ task_count p) (op task : ℕ) (is : IsTask p op task) (s : TaskState) (set_is : new ≡ set old (task_number p op task) s) where
  inside : task_number p op task < length old
  inside = let b = number_below p op task is in omega (arith, b, long)

  pub long_new : length new ≡ task_count p
  long_new = ap length set_is ∙ length-set old (task_number p op task) s ∙ long

  pub state_own : state_at p (of_tasks new) op task ≡ s
  state_own = ap (λ (ts : List TaskState). get_or ts (task_number p op task) no_task) set_is ∙ get_or-set_same old (task_number p op task) s no_task inside

  pub state_other : (l other : ℕ) → IsTask p l other → ((op ≡ l) × (task ≡ other) → ⊥) → state_at p (of_tasks new) l other ≡ state_at p (of_tasks old) l other
  state_other l other that apart =
      ap (λ (ts : List TaskState). get_or ts (task_number p l other) no_task) set_is
      ∙ get_or-set_other old (task_number p op task) (task_number p l other) s no_task (λ e. apart (number_once p op task l other is that (sym e)))

  was : TaskState
  was = state_at p (of_tasks old) op task

  weights : map undone_weight new ≡ set (map undone_weight old) (task_number p op task) (undone_weight s)
  weights = ap (map undone_weight) set_is ∙ map-set undone_weight old (task_number p op task) s

  weight_at : get_or (map undone_weight old) (task_number p op task) 0 ≡ undone_weight (state_at p (of_tasks old) op task)
  weight_at = get_or-map undone_weight old (task_number p op task) no_task 0 inside

  pub left_is : undone_among new + undone_weight (state_at p (of_tasks old) op task) ≡ undone_among old + undone_weight s
  left_is =
      let a = sum_by-set undone_weight old (task_number p op task) s no_task inside in
      let b = ap undone_among set_is in
      omega (arith, a, b)

  pub undone_other : (k : ℕ) → k < length p.ops → k ≢ op → undone_of p (of_tasks new) k ≡ undone_of p (of_tasks old) k
  undone_other k h other =
      undone_is p new k ∙ ap (λ (ws : List ℕ). sum (take (tasks_of p.arrays (op_of p k)) (drop (first_task p k) ws))) weights ∙ ap sum same ∙ sym (undone_is p old k)
    where
      same : take (tasks_of p.arrays (op_of p k)) (drop (first_task p k) (set (map undone_weight old) (task_number p op task) (undone_weight s)))
          ≡ take (tasks_of p.arrays (op_of p k)) (drop (first_task p k) (map undone_weight old))
      same =
          elim (cases_order k op) [
            | inl e ↦ absurd (other e)
            | inr (inl below) ↦
                let a = first_more p k h in
                let b = first_rises p (k + 1) op (omega (arith, below)) in
                let e : task_number p op task ≡ first_task p k + (task_number p op task - first_task p k) = omega (arith, a, b) in
                ap (λ (i : ℕ). take (tasks_of p.arrays (op_of p k)) (drop (first_task p k) (set (map undone_weight old) i (undone_weight s)))) e
                ∙ ap (take (tasks_of p.arrays (op_of p k))) (drop-set-add (first_task p k) (map undone_weight old) (task_number p op task - first_task p k) (undone_weight s))
                ∙ take-set-le (tasks_of p.arrays (op_of p k)) (drop (first_task p k) (map undone_weight old)) (task_number p op task - first_task p k) (undone_weight s) (omega (arith, a, b))
            | inr (inr above) ↦
                ap (take (tasks_of p.arrays (op_of p k))) (drop-set-lt (first_task p k) (map undone_weight old) (task_number p op task) (undone_weight s) (past p op task k is above))
          ]

  pub undone_own : undone_of p (of_tasks new) op + undone_weight (state_at p (of_tasks old) op task) ≡ undone_of p (of_tasks old) op + undone_weight s
  undone_own =
      let n = tasks_of p.arrays (op_of p op) in
      let ws = drop (first_task p op) (map undone_weight old) in
      let e : take n (drop (first_task p op) (set (map undone_weight old) (task_number p op task) (undone_weight s))) ≡ set (take n ws) task (undone_weight s) =
      ap (take n) (drop-set-add (first_task p op) (map undone_weight old) task (undone_weight s)) ∙ take_set n ws task (undone_weight s) is.number in
      let a = undone_is p new op ∙ ap (λ (xs : List ℕ). sum (take n (drop (first_task p op) xs))) weights ∙ ap sum e in
      let b = sum_by-set (λ (x : ℕ). x) (take n ws) task (undone_weight s) 0 (let l = weights_length in let i = is.number in omega (arith, l, i)) in
      let w = get_or-take n ws task 0 is.number ∙ get_or-drop (first_task p op) (map undone_weight old) task 0 ∙ weight_at in
      let d = undone_is p old op in
      omega (arith, a, b, w, d)
    where
      weights_length : length (take (tasks_of p.arrays (op_of p op)) (drop (first_task p op) (map undone_weight old))) ≡ tasks_of p.arrays (op_of p op)
      weights_length =
          length-take-le (tasks_of p.arrays (op_of p op)) (drop (first_task p op) (map undone_weight old))
          (let a = first_within p old long op is.operation in let l = length-drop (first_task p op) (map undone_weight old) in let k = length-map old undone_weight in omega (arith, a, l, k))

-- ---- machines in which the same tasks are done

pub record SameDone (p : PlanView) (a b : Machine) : Type 0 where
  pub done : (l other : ℕ) → IsTask p l other → (state_at p b l other).done ≡ (state_at p a l other).done
  pub undone : (k : ℕ) → k < length p.ops → undone_of p b k ≡ undone_of p a k

pub made_task : (p : PlanView) (k t op task : ℕ) → MakesInput p k t op task → IsTask p k t
made_task p k t op task (c, has, writes) = record { operation = writes.operation; number = writes.number }

module _ (p : PlanView) (a b : Machine) (same : SameDone p a b) where
  pub ready_as : (op task : ℕ) → AreInputsDone p a op task → AreInputsDone p b op task
  ready_as op task ready k t makes = same.done k t (made_task p k t op task makes) ∙ ready k t makes

  pub blocks_as : (x op task : ℕ) → Blocks p a x op task → Blocks p b x op task
  blocks_as x op task (inl w) =
      inl (record { maker = w.maker; number = w.number; makes = w.makes; undone = same.done w.maker w.number (made_task p w.maker w.number op task w.makes) ∙ w.undone; thing = w.thing })
  blocks_as x op task (inr w) =
      inr (record { maker = w.maker; within = w.within; makes = w.makes; undone = λ e. w.undone (sym (same.undone w.maker w.within) ∙ e); thing = w.thing })

  pub over_as : (x : ℕ) → IsOver p a x → IsOver p b x
  over_as x (inl (k, t, is, done, e)) = inl (k, t, is, same.done k t is ∙ done, e)
  over_as x (inr (k, within, none, e)) = inr (k, within, same.undone k within ∙ none, e)

pub turned : (p : PlanView) (a b : Machine) → SameDone p a b → SameDone p b a
turned p a b same = record { done = λ l other is. sym (same.done l other is); undone = λ k h. sym (same.undone k h) }
