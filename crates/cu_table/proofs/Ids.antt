-- The tasks of a plan by their numbers, as they are listed.
use Rattle.std.proofs.Common.{◌≡◌, inl, inr, ℕ, ◌+◌, ◌<◌, List, [], ◌∷◌, ◌++◌, length, get_or, sum_by, ap, sym, ◌∙◌, subst, arith}
use Rattle.std.specs.List.{range_with_len}
use Rattle.std.proofs.lemmas.Bool.{cases_lt}
use Rattle.std.proofs.lemmas.List.FromFn.{length-range_with_len, get_or-map-range_with_len}
use Rattle.std.proofs.lemmas.List.{length-map, length-append, get_or_append_left, get_or-append-add, take_all}
use Rattle.cu_op.specs.Cells.{tasks_of}
use Rattle.cu_op.specs.PlanView.{PlanView}
use Rattle.cu_op.specs.Schedule.{op_of}
use Rattle.cu_table.specs.declared.state.TaskId.{TaskId}
use Rattle.cu_table.specs.Numbers.{IsTask, tasks_in, first_task, task_count, task_number}
use Rattle.cu_table.specs.Queue.{HasNumbers, HasNumbersBelow, task_ids}
use Rattle.cu_table.proofs.Numbers.{first_more, past, number_some}

module _ (q : PlanView) (first : List ℕ) (ids : List TaskId) (numbered : HasNumbers q first ids) (p : PlanView) (is : q ≡ p) (number : ℕ) (within : number < task_count p)
    (id : TaskId) (at : id ≡ get_or ids number id) where
  found : (op : ℕ) × (task : ℕ) × IsTask p op task × (task_number p op task ≡ number)
  found = number_some p number within

  id_is : (op task : ℕ) → IsTask p op task → task_number p op task ≡ number → id ≡ record { op = op; task = task }
  id_is op task that n = at ∙ ap (λ (k : ℕ). get_or ids k id) (sym n)
      ∙ subst (λ (x : PlanView). (IsTask x op task) → get_or ids (task_number x op task) id ≡ record { op = op; task = task }) is (numbered.id_at op task id) that

  pub id_task : IsTask p id.op id.task
  id_task =
      let (op, task, that, n) = found in
      subst (λ (x : TaskId). IsTask p x.op x.task) (sym (id_is op task that n)) that

  pub id_number : task_number p id.op id.task ≡ number
  id_number =
      let (op, task, that, n) = found in
      ap (λ (x : TaskId). task_number p x.op x.task) (id_is op task that n) ∙ n

-- ---- the tasks are listed operation by operation

pub numbered_none : (p : PlanView) (first : List ℕ) (ids : List TaskId) → first ≡ [] → ids ≡ [] → HasNumbersBelow p 0 first ids
numbered_none p first ids a b = record {
  firsts = ap length a;
  first_at = λ k h. absurd (omega (arith, h));
  ids_count = ap length b;
  id_at = λ op task d h is. absurd (omega (arith, h));
}

pub numbered_all : (p : PlanView) (n : ℕ) (first : List ℕ) (ids : List TaskId) → HasNumbersBelow p n first ids → n ≡ length p.ops → HasNumbers p first ids
numbered_all p n first ids below all = record {
  firsts = below.firsts ∙ all;
  first_at = λ k h. below.first_at k (omega (arith, h, all));
  ids_count = below.ids_count ∙ ap (first_task p) all ∙ ap (sum_by (tasks_in p)) (take_all (length p.ops) p.ops (omega arith));
  id_at = λ op task d is. below.id_at op task d (let h = is.operation in omega (arith, h, all)) is;
}

module _ (p : PlanView) (n : ℕ) (first : List ℕ) (ids : List TaskId) (below : HasNumbersBelow p n first ids) (within : n < length p.ops) (count : ℕ) (many : count ≡ tasks_of p.arrays (op_of p n)) where
  ids_length : length (task_ids n count) ≡ count
  ids_length = length-map (range_with_len 0 count) (λ (t : ℕ). record { op = n; task = t }) ∙ length-range_with_len 0 count

  pub numbered_more : (new_first : List ℕ) (new_ids : List TaskId) → new_first ≡ first ++ length ids ∷ [] → new_ids ≡ ids ++ task_ids n count → HasNumbersBelow p (n + 1) new_first new_ids
  numbered_more new_first new_ids a b = record {
    firsts = ap length a ∙ (let l = length-append first (length ids ∷ []) in let f = below.firsts in omega (arith, l, f));
    first_at = λ k h. ap (λ (xs : List ℕ). get_or xs k 0) a ∙ elim (cases_lt k n) [
      | inl less ↦ get_or_append_left first (length ids ∷ []) 0 k (let f = below.firsts in omega (arith, f, less)) ∙ below.first_at k less
      | inr more ↦
          let f = below.firsts in
          let e : k ≡ length first + 0 = omega (arith, f, more, h) in
          ap (λ (i : ℕ). get_or (first ++ length ids ∷ []) i 0) e ∙ get_or-append-add first (length ids ∷ []) 0 0 ∙ below.ids_count ∙ ap (first_task p) (let g : n ≡ k = omega (arith, more, h) in g)
    ];
    ids_count = ap length b ∙ (
        let l = length-append ids (task_ids n count) in
        let i = below.ids_count in
        let c = ids_length in
        let f = first_more p n within in
        omega (arith, l, i, c, f, many));
    id_at = λ op task d h is. ap (λ (xs : List TaskId). get_or xs (task_number p op task) d) b ∙ elim (cases_lt op n) [
      | inl less ↦ get_or_append_left ids (task_ids n count) d (task_number p op task) (let x = past p op task n is less in let i = below.ids_count in omega (arith, x, i)) ∙ below.id_at op task d less is
      | inr more ↦
          let same : op ≡ n = omega (arith, more, h) in
          let i = below.ids_count in
          let f = ap (first_task p) same in
          let e : task_number p op task ≡ length ids + task = omega (arith, i, f) in
          let small : task < count = (let k = is.number in let s = ap (λ (o : ℕ). tasks_of p.arrays (op_of p o)) same in omega (arith, k, s, many)) in
          ap (λ (j : ℕ). get_or (ids ++ task_ids n count) j d) e ∙ get_or-append-add ids (task_ids n count) task d
          ∙ get_or-map-range_with_len (λ (t : ℕ). record { op = n; task = t }) 0 count task task d small (omega arith) ∙ ap (λ (o : ℕ). record { op = o; task = task }) (sym same)
    ];
  }
