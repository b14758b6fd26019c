-- The list of the tasks that are done, as it is written one task after another.
use Rattle.std.proofs.Common.{◌≡◌, ◌≢◌, ◌⊎◌, inl, inr, ℕ, suc, ◌+◌, ◌*◌, ◌<◌, Bool, true, false, List, [], ◌++◌, length, set, take, All, Some, refl, ap, sym, ◌∙◌, subst, arith}
use Rattle.std.specs.Prelude.{slice_index_or}
use Rattle.std.proofs.Math.Seq.{take-append_seam}
use Rattle.std.proofs.lemmas.Bool.{cases_lt}
use Rattle.std.proofs.lemmas.List.{append_assoc, append-nil, length-set, get_or-set_same, get_or-set_other}
use Rattle.cu_store.specs.Faults.{Rose}
use Rattle.cu_store.specs.Held.{Contents, IsHeldIn}
use Rattle.cu_store.specs.Steps.{Shown, NoChange, Steps, OnceEach}
use Rattle.cu_store.proofs.Once.{once_few}
use Rattle.cu_store.proofs.Steps.{steps_same, steps_wider}
use Rattle.cu_op.specs.Cells.{tasks_of}
use Rattle.cu_op.specs.PlanView.{PlanView}
use Rattle.cu_op.specs.Schedule.{op_of}
use Rattle.cu_run_law.specs.Left.{IsTaskBefore}
use Rattle.cu_run_law.specs.Pieces.{chunks_alone}
use Rattle.cu_table.specs.Numbers.{IsTask, task_count, task_number}
use Rattle.cu_table.proofs.Numbers.{number_below, number_once}
use Rattle.cu_work.specs.declared.find.FindFault.{FindFault}
use Rattle.cu_work.specs.Ends.{NoneOf}
use Rattle.cu_work.specs.Order.{task_keys, operation_keys, plan_keys}
use Rattle.cu_work.specs.Search.{NamesTask, NamesStored, IsSearchFault, AreAsked, IsSearched}
use Rattle.cu_work.specs.World.{IsStored, IsFound}
use Rattle.cu_work.proofs.Asking.{operation_rest, plan_rest}
use Rattle.cu_work.proofs.EndedCalls.{once_none, once_both, over_both}
use Rattle.cu_work.proofs.Searching.{none_grows, none_fills, held_stays, told_then, told_first, stored_of, of_stored, search_before, search_behind}

-- ---- tasks before another

is_task : (p : PlanView) (k task l other : ℕ) → IsTaskBefore (chunks_alone p) k task l other → IsTask p l other
is_task p k task l other (operation, number, before) = record { operation = operation; number = number }

-- the last of the tasks before the next, or one before it
last_or_before : (p : PlanView) (k task l other : ℕ) → IsTaskBefore (chunks_alone p) k (task + 1) l other → ((l ≡ k) × (other ≡ task)) ⊎ IsTaskBefore (chunks_alone p) k task l other
last_or_before p k task l other (operation, number, inl earlier) = inr (operation, number, inl earlier)
last_or_before p k task l other (operation, number, inr (same, below)) = elim (cases_lt other task) [
  | inl less ↦ inr (operation, number, inr (same, less))
  | inr more ↦ inl (same, omega (arith, below, more))
]

apart : (p : PlanView) (k task l other : ℕ) → IsTask p k task → IsTaskBefore (chunks_alone p) k task l other → task_number p l other ≢ task_number p k task
apart p k task l other is before e =
    let once = number_once p l other k task (is_task p k task l other before) is e in
    not_itself before.2 once.0 once.1
  where
    not_itself : ((l < k) ⊎ ((l ≡ k) × (other < task))) → l ≡ k → other ≡ task → ⊥
    not_itself (inl less) same_l same_t = omega (arith, less, same_l)
    not_itself (inr (same, less)) same_l same_t = omega (arith, less, same_t)

-- all tasks of an operation, and all of the plan
whole_operation : (p : PlanView) (k l other : ℕ) → IsTaskBefore (chunks_alone p) (k + 1) 0 l other → IsTaskBefore (chunks_alone p) k (tasks_of p.arrays (op_of p k)) l other
whole_operation p k l other (operation, number, inr (same, below)) = absurd (omega (arith, below))
whole_operation p k l other (operation, number, inl earlier) = elim (cases_lt l k) [
  | inl less ↦ (operation, number, inl less)
  | inr more ↦
      let same : l ≡ k = omega (arith, earlier, more) in
      (operation, number, inr (same, subst (λ (n : ℕ). other < tasks_of p.arrays (op_of p n)) same number))
]

whole_plan : (p : PlanView) (l other : ℕ) → IsTask p l other → IsTaskBefore (chunks_alone p) (length p.ops) 0 l other
whole_plan p l other is = (is.operation, is.number, inl is.operation)

pub a_task : (p : PlanView) (op task : ℕ) → op < length p.ops → task < tasks_of p.arrays (op_of p op) → IsTask p op task
a_task p op task operation number = record { operation = operation; number = number }

-- ---- one task more

yes_or_no : (b : Bool) → (b ≡ true) ⊎ (b ≡ false)
yes_or_no true = inl refl
yes_or_no false = inr refl

module _ (tries : ℕ) (p : PlanView) (start : Shown) where
  pub searched_nothing : (done : List Bool) → length done ≡ task_count p → IsSearched tries p 0 0 (start, start) done
  searched_nothing done tasks = record {
    tasks = tasks;
    step = steps_wider (λ key value change. change) (omega arith) (omega arith) (steps_same NoChange start);
    once = once_few 0 (length (plan_keys p 0 ++ operation_keys p 0 0)) start start (omega arith) (once_none start);
    stored = λ held told l other before. absurd (none l other before.2);
    named = λ held told l other before. absurd (none l other before.2);
  }
    where
      none : (l other : ℕ) → ((l < 0) ⊎ ((l ≡ 0) × (other < 0))) → ⊥
      none l other (inl less) = omega (arith, less)
      none l other (inr (same, less)) = omega (arith, less)

  module _ (k task : ℕ) (is : IsTask p k task) (now new : Shown) (done : List Bool) (all : Bool) (so_far : IsSearched tries p k task (start, now) done)
      (asked : AreAsked tries (task_keys p k task) now new all) where
    abbrev keys_before : List (List ℕ)
    keys_before = plan_keys p k ++ operation_keys p k task

    here : slice_index_or (set done (task_number p k task) all) (task_number p k task) false ≡ all
    here = get_or-set_same done (task_number p k task) all false (let n = number_below p k task is in let t = so_far.tasks in omega (arith, n, t))

    elsewhere : (l other : ℕ) → IsTaskBefore (chunks_alone p) k task l other
        → slice_index_or (set done (task_number p k task) all) (task_number p l other) false ≡ slice_index_or done (task_number p l other) false
    elsewhere l other before = get_or-set_other done (task_number p k task) (task_number p l other) all false (apart p k task l other is before)

    own_stored : (held : Contents) → new.held ≡ Some held → all ≡ true → IsStored p held k task
    own_stored held told so = stored_of p k task new.held held told (asked.held so)

    own_named : (held : Contents) → start.held ≡ Some held → IsStored p held k task → all ≡ true
    own_named held told stored =
        let (now_held, told_now) = told_then NoChange (length keys_before) (tries * length keys_before) start now so_far.step held told in
        asked.found now_held told_now
        (of_stored p k task now.held now_held told_now
        (stored_of p k task now.held now_held told_now (later (task_keys p k task) (of_stored p k task start.held held told stored))))
      where
        later : (keys : List (List ℕ)) → All (IsHeldIn start.held) keys → All (IsHeldIn now.held) keys
        later keys held_first i d below = held_stays NoChange none_fills (length keys_before) (tries * length keys_before) start now so_far.step (slice_index_or keys i d) (held_first i d below)

    earlier_stored : (held : Contents) → new.held ≡ Some held → (l other : ℕ) → IsTaskBefore (chunks_alone p) k task l other → NamesTask p done l other → IsStored p held l other
    earlier_stored held told l other before named =
        let (now_held, told_now) = told_first NoChange (length (task_keys p k task)) (tries * length (task_keys p k task)) now new asked.step held told in
        stored_of p l other new.held held told
        (later (task_keys p l other) (of_stored p l other now.held now_held told_now (so_far.stored now_held told_now l other before named)))
      where
        later : (keys : List (List ℕ)) → All (IsHeldIn now.held) keys → All (IsHeldIn new.held) keys
        later keys held_first i d below =
            held_stays NoChange none_fills (length (task_keys p k task)) (tries * length (task_keys p k task)) now new asked.step (slice_index_or keys i d) (held_first i d below)

    pub searched_more : IsSearched tries p k (task + 1) (start, new) (set done (task_number p k task) all)
    searched_more = record {
      tasks = length-set done (task_number p k task) all ∙ so_far.tasks;
      step = subst (λ (ks : List (List ℕ)). Steps NoChange (length ks) (tries * length ks) start new) keys_more
          (over_both NoneOf none_grows tries keys_before (task_keys p k task) start now new so_far.step asked.step);
      once = subst (λ (ks : List (List ℕ)). OnceEach (length ks) start new) keys_more (once_both keys_before (task_keys p k task) start now new so_far.once asked.once);
      stored = λ held told l other before named. elim (last_or_before p k task l other before) [
        | inl same ↦ at_last (λ (x y : ℕ). IsStored p held x y) same (own_stored held told (sym here ∙ to_last (λ (x y : ℕ). NamesTask p (set done (task_number p k task) all) x y) same named))
        | inr earlier ↦ earlier_stored held told l other earlier (sym (elsewhere l other earlier) ∙ named)
      ];
      named = λ held told l other before stored. elim (last_or_before p k task l other before) [
        | inl same ↦
            at_last (λ (x y : ℕ). NamesTask p (set done (task_number p k task) all) x y) same (here ∙ own_named held told (to_last (λ (x y : ℕ). IsStored p held x y) same stored))
        | inr earlier ↦ elsewhere l other earlier ∙ so_far.named held told l other earlier stored
      ];
    }
      where
        keys_more : keys_before ++ task_keys p k task ≡ plan_keys p k ++ operation_keys p k (task + 1)
        keys_more =
            let e : suc task ≡ task + 1 = omega arith in
            append_assoc (plan_keys p k) (operation_keys p k task) (task_keys p k task) ∙ ap (λ (n : ℕ). plan_keys p k ++ operation_keys p k n) e

        at_last : {l other : ℕ} (P : ℕ → ℕ → Type 0) → (l ≡ k) × (other ≡ task) → P k task → P l other
        at_last {l} {other} P same h = subst (λ (x : ℕ). P x other) (sym same.0) (subst (P k) (sym same.1) h)

        to_last : {l other : ℕ} (P : ℕ → ℕ → Type 0) → (l ≡ k) × (other ≡ task) → P l other → P k task
        to_last {l} {other} P same h = subst (P k) same.1 (subst (λ (x : ℕ). P x other) same.0 h)

  -- ---- all tasks of an operation

  pub searched_operation : (k : ℕ) (new : Shown) (done : List Bool) → IsSearched tries p k (tasks_of p.arrays (op_of p k)) (start, new) done → IsSearched tries p (k + 1) 0 (start, new) done
  searched_operation k new done so_far = record {
    tasks = so_far.tasks;
    step = subst (λ (ks : List (List ℕ)). Steps NoChange (length ks) (tries * length ks) start new) keys_more so_far.step;
    once = subst (λ (ks : List (List ℕ)). OnceEach (length ks) start new) keys_more so_far.once;
    stored = λ held told l other before. so_far.stored held told l other (whole_operation p k l other before);
    named = λ held told l other before. so_far.named held told l other (whole_operation p k l other before);
  }
    where
      keys_more : plan_keys p k ++ operation_keys p k (tasks_of p.arrays (op_of p k)) ≡ plan_keys p (k + 1) ++ []
      keys_more = let e : suc k ≡ k + 1 = omega arith in ap (plan_keys p) e ∙ sym (append-nil (plan_keys p (k + 1)))

  pub operations_step : (k : ℕ) (new : Shown) (done : List Bool) → IsSearched tries p k 0 (start, new) done → Steps NoChange (length (plan_keys p k)) (tries * length (plan_keys p k)) start new
  operations_step k new done so_far = subst (λ (ks : List (List ℕ)). Steps NoChange (length ks) (tries * length ks) start new) (append-nil (plan_keys p k)) so_far.step

  pub operations_once : (k : ℕ) (new : Shown) (done : List Bool) → IsSearched tries p k 0 (start, new) done → OnceEach (length (plan_keys p k)) start new
  operations_once k new done so_far = subst (λ (ks : List (List ℕ)). OnceEach (length ks) start new) (append-nil (plan_keys p k)) so_far.once

  -- ---- all tasks of the plan

  module _ (new : Shown) (done : List Bool) (all : IsSearched tries p (length p.ops) 0 (start, new) done) where
    pub searched_step : Steps NoChange (length (plan_keys p (length p.ops))) (tries * length (plan_keys p (length p.ops))) start new
    searched_step = operations_step (length p.ops) new done all

    pub searched_once : OnceEach (length (plan_keys p (length p.ops))) start new
    searched_once = operations_once (length p.ops) new done all

    pub found_done : (held : Contents) → new.held ≡ Some held → IsFound p held done
    found_done held told = record {
      tasks = all.tasks;
      stored = λ op task is named. all.stored held told op task (whole_plan p op task is) named;
    }

    pub named_stored : (held : Contents) → start.held ≡ Some held → NamesStored p held done
    named_stored held told op task is stored = all.named held told op task (whole_plan p op task is) stored

    pub searched_calls : Rose (length (plan_keys p (length p.ops))) start.calls new.calls
    searched_calls = searched_step.calls.0

-- what was written to the front of a list that is as long
pub written_back : (len : ℕ) (xs rest : List Bool) → len ≡ length xs → take len (xs ++ rest) ≡ xs
written_back len xs rest e = ap (λ (n : ℕ). take n (xs ++ rest)) e ∙ take-append_seam xs rest

-- ---- faults

module _ (tries : ℕ) (p : PlanView) (old new : Shown) (f : FindFault) where
  -- at a task of an operation, behind those before it
  pub operation_ended : (k task : ℕ) (now : Shown) → task < tasks_of p.arrays (op_of p k) → Steps NoChange (length (operation_keys p k task)) (tries * length (operation_keys p k task)) old now
      → OnceEach (length (operation_keys p k task)) old now → IsSearchFault tries (task_keys p k task) (now, new) f → IsSearchFault tries (operation_keys p k (tasks_of p.arrays (op_of p k))) (old, new) f
  operation_ended k task now below step once fault =
      let r = operation_rest p k (suc task) (tasks_of p.arrays (op_of p k)) (omega (arith, below)) in
      subst (λ (ks : List (List ℕ)). IsSearchFault tries ks (old, new) f) (sym r.1)
      (search_before tries (operation_keys p k (suc task)) r.0 (old, new) f (search_behind tries (operation_keys p k task) (task_keys p k task) old now new f step once fault))

  -- at an operation
  pub plan_ended : (k : ℕ) (now : Shown) → k < length p.ops → Steps NoChange (length (plan_keys p k)) (tries * length (plan_keys p k)) old now
      → OnceEach (length (plan_keys p k)) old now → IsSearchFault tries (operation_keys p k (tasks_of p.arrays (op_of p k))) (now, new) f → IsSearchFault tries (plan_keys p (length p.ops)) (old, new) f
  plan_ended k now below step once fault =
      let r = plan_rest p (suc k) (length p.ops) (omega (arith, below)) in
      subst (λ (ks : List (List ℕ)). IsSearchFault tries ks (old, new) f) (sym r.1)
      (search_before tries (plan_keys p (suc k)) r.0 (old, new) f
      (search_behind tries (plan_keys p k) (operation_keys p k (tasks_of p.arrays (op_of p k))) old now new f step once fault))

-- ---- the loop over the tasks of an operation

-- where the loop stands, since the operation began and since any first moment
pub record OperationSoFar (tries : ℕ) (p : PlanView) (task : ℕ × ℕ) (shown : Shown × Shown) (done : List Bool × List Bool) : Type 0 where
  pub tasks : length done.1 ≡ task_count p
  pub step : Steps NoChange (length (operation_keys p task.0 task.1)) (tries * length (operation_keys p task.0 task.1)) shown.0 shown.1
  pub once : OnceEach (length (operation_keys p task.0 task.1)) shown.0 shown.1
  pub searched : (start : Shown) → IsSearched tries p task.0 0 (start, shown.0) done.0 → IsSearched tries p task.0 task.1 (start, shown.1) done.1

module _ (tries : ℕ) (p : PlanView) (k : ℕ) (old : Shown) (first : List Bool) where
  pub operation_at_first : length first ≡ task_count p → OperationSoFar tries p (k, 0) (old, old) (first, first)
  operation_at_first tasks = record {
    tasks = tasks;
    step = steps_wider (λ key value change. change) (omega arith) (omega arith) (steps_same NoChange old);
    once = once_few 0 (length (operation_keys p k 0)) old old (omega arith) (once_none old);
    searched = λ start so_far. so_far;
  }

  module _ (task : ℕ) (is : IsTask p k task) (now new : Shown) (done : List Bool) (so_far : OperationSoFar tries p (k, task) (old, now) (first, done)) where
    pub operation_more : (all : Bool) → AreAsked tries (task_keys p k task) now new all → (number : ℕ) → number ≡ task_number p k task
        → OperationSoFar tries p (k, task + 1) (old, new) (first, set done number all)
    operation_more all asked number at = subst (λ (n : ℕ). OperationSoFar tries p (k, task + 1) (old, new) (first, set done n all)) (sym at) (record {
      tasks = length-set done (task_number p k task) all ∙ so_far.tasks;
      step = subst (λ (n : ℕ). Steps NoChange (length (operation_keys p k n)) (tries * length (operation_keys p k n)) old new) next
          (over_both NoneOf none_grows tries (operation_keys p k task) (task_keys p k task) old now new so_far.step asked.step);
      once = subst (λ (n : ℕ). OnceEach (length (operation_keys p k n)) old new) next
          (once_both (operation_keys p k task) (task_keys p k task) old now new so_far.once asked.once);
      searched = λ start begun. searched_more tries p start k task is now new done all (so_far.searched start begun) asked;
    })
      where
        next : suc task ≡ task + 1
        next = omega arith
