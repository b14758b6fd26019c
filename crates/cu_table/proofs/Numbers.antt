-- The numbers of tasks: each is below their count, and no two tasks have one.
use Rattle.std.proofs.Common.{◌≡◌, inl, inr, ℕ, zero, suc, ◌+◌, ◌-◌, ◌<◌, add-one, ◌≤◌, length, take, sum_by, ap, sym, ◌∙◌, arith}
use Rattle.std.proofs.lemmas.Bool.{cases_order, cases_lt}
use Rattle.std.proofs.lemmas.List.{take-take, take_all}
use Rattle.std.proofs.lemmas.List.Sums.{sum_by_more, sum_by-take-le}
use Rattle.cu_op.specs.Cells.{tasks_of}
use Rattle.cu_op.specs.PlanView.{PlanView, no_operation}
use Rattle.cu_op.specs.Schedule.{op_of}
use Rattle.cu_table.specs.Numbers.{IsTask, tasks_in, first_task, task_count, task_number}

-- the first task of the next operation
pub first_more : (p : PlanView) (k : ℕ) → k < length p.ops → first_task p (k + 1) ≡ first_task p k + tasks_of p.arrays (op_of p k)
first_more p k h = sum_by_more (tasks_in p) p.ops k no_operation h

pub first_rises : (p : PlanView) (k l : ℕ) → k ≤ l → first_task p k ≤ first_task p l
first_rises p k l h = rw (ap (sum_by (tasks_in p)) (sym (take-take k l p.ops h))) (sum_by-take-le (tasks_in p) (take l p.ops) k)

-- past the last task of an earlier operation
pub past : (p : PlanView) (k task l : ℕ) → IsTask p k task → k < l → task_number p k task < first_task p l
past p k task l is h =
    let a = first_more p k is.operation in
    let b = first_rises p (k + 1) l (omega (arith, h)) in
    let n = is.number in
    omega (arith, a, b, n)

pub number_below : (p : PlanView) (k task : ℕ) → IsTask p k task → task_number p k task < task_count p
number_below p k task is =
    let a = first_more p k is.operation in
    let b = sum_by-take-le (tasks_in p) p.ops (k + 1) in
    let n = is.number in
    omega (arith, a, b, n)

pub number_once : (p : PlanView) (k task l other : ℕ) → IsTask p k task → IsTask p l other → task_number p k task ≡ task_number p l other → (k ≡ l) × (task ≡ other)
number_once p k task l other is that e =
    elim (cases_order k l) [
      | inl same ↦ (same, (let f = ap (first_task p) same in omega (arith, e, f)))
      | inr (inl below) ↦ absurd (let a = past p k task l is below in omega (arith, a, e))
      | inr (inr above) ↦ absurd (let a = past p l other k that above in omega (arith, a, e))
    ]

-- each number below the count is a task's
numbered : (p : PlanView) (k i : ℕ) → k ≤ length p.ops → i < first_task p k → (op : ℕ) × (task : ℕ) × IsTask p op task × (task_number p op task ≡ i)
numbered p zero i few below = absurd (omega (arith, below))
numbered p (suc k) i few below =
    elim (cases_lt i (first_task p k)) [
      | inl before ↦ numbered p k i (omega (arith, few)) before
      | inr from ↦
          let h : k < length p.ops = omega (arith, few) in
          let e : first_task p (suc k) ≡ first_task p k + tasks_of p.arrays (op_of p k) = ap (first_task p) (sym (add-one k)) ∙ first_more p k h in
          (k, i - first_task p k, record { operation = h; number = omega (arith, e, below, from) }, omega (arith, from))
    ]

pub number_some : (p : PlanView) (i : ℕ) → i < task_count p → (op : ℕ) × (task : ℕ) × IsTask p op task × (task_number p op task ≡ i)
number_some p i below = numbered p (length p.ops) i (omega arith) (rw (take_all (length p.ops) p.ops (omega arith)) below)
