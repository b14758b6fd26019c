-- The counts and the lists of waiting tasks after the end of a copy, from the tasks as they are now and the one that changed as it was.
use Rattle.std.proofs.Common.{◌≡◌, ◌≢◌, inl, inr, ℕ, zero, suc, ◌+◌, ◌-◌, ◌<◌, ◌≤◌, true, false, List, [], ◌∷◌, ◌++◌, length, get_or, set, take, drop, Option, Some, None, refl, ap, sym, ◌∙◌, subst, arith}
use Rattle.std.proofs.lemmas.Bool.{cases_eq, cases_lt, cond-true, cond-false}
use Rattle.std.proofs.lemmas.List.{get_or-set_same, get_or-set_other, length-set, length_push, get_or_default, get_or_append_left, get_or-append-add}
use Rattle.cu_op.specs.Cells.{tasks_of}
use Rattle.cu_op.specs.PlanView.{PlanView}
use Rattle.cu_op.specs.Schedule.{op_of}
use Rattle.std.specs.Prelude.{is_some}
use Rattle.cu_history.specs.declared.entry.EventKind.{EventKind}
use Rattle.cu_history.specs.declared.entry.EventKind.TheVariants.{Start, Done, Failed, Halt, Late}
use Rattle.cu_table.specs.declared.line.Undone.{Undone}
use Rattle.cu_table.specs.declared.state.Ending.{Ending}
use Rattle.cu_table.specs.declared.state.TaskState.{TaskState}
use Rattle.cu_table.specs.Numbers.{IsTask, first_task, task_count, task_number}
use Rattle.cu_table.specs.Machine.{no_task, state_at, IsWaiting, AreInputsDone, one_copy_less}
use Rattle.cu_table.specs.Table.{undone_among}
use Rattle.cu_table.specs.Queue.{Lined, of_tasks, undone_of, IsOver, IsLined, IsQueue, IsWoken, HasListPlace, AreCounts, AreUndone, LeavesBy, pushed}
use Rattle.cu_table.proofs.Numbers.{first_more, number_below}
use Rattle.cu_table.proofs.Changing.{first_within, left_is, undone_other}
use Rattle.cu_table.proofs.Queues.{own_less, lined_done, over_task, queue_done, queue_all_done, undone_same, queue_same, queue_again, place_again}

set_back : (xs : List TaskState) (i : ℕ) (a : TaskState) → xs ≡ set (set xs i a) i (get_or xs i no_task)
set_back [] i a = refl
set_back (x ∷ xs) zero a = refl
set_back (x ∷ xs) (suc i) a = ap (λ (ys : List TaskState). x ∷ ys) (set_back xs i a)

module _ (p : PlanView) (new : List TaskState) (long : length new ≡ task_count p) (op task : ℕ) (is : IsTask p op task) (was : TaskState) where
  abbrev pub before : List TaskState
  before = set new (task_number p op task) was

  long_before : length before ≡ task_count p
  long_before = length-set new (task_number p op task) was ∙ long

  now : TaskState
  now = state_at p (of_tasks new) op task

  back : new ≡ set before (task_number p op task) (state_at p (of_tasks new) op task)
  back = set_back new (task_number p op task) was

  was_at : state_at p (of_tasks before) op task ≡ was
  was_at = get_or-set_same new (task_number p op task) was no_task (let b = number_below p op task is in omega (arith, b, long))

  -- ---- a task is done

  module _ (done : (state_at p (of_tasks new) op task).done ≡ true) (undone : was.done ≡ false) (u : Undone) (counts : AreUndone p before u) where
    undone_at : (state_at p (of_tasks before) op task).done ≡ false
    undone_at = ap (λ (s : TaskState). s.done) was_at ∙ undone

    less : undone_of p (of_tasks new) op + 1 ≡ undone_of p (of_tasks before) op
    less = own_less p before new long_before op task is (state_at p (of_tasks new) op task) back done undone_at

    less_left : undone_among new + 1 ≡ undone_among before
    less_left =
        let l = left_is p before new long_before op task is (state_at p (of_tasks new) op task) back in
        let x = cond-true {A = ℕ} (state_at p (of_tasks new) op task).done 0 1 done in
        let y = cond-false {A = ℕ} (state_at p (of_tasks before) op task).done 0 1 undone_at in
        omega (arith, l, x, y)

    pub left_some : 1 ≤ u.left
    left_some = let a = less_left in let b = counts.left_is in omega (arith, a, b)

    pub within_of : op < length u.by_op.items
    within_of = let a = counts.counts.operations in let b = is.operation in omega (arith, a, b)

    pub of_some : 1 ≤ get_or u.by_op.items op 0
    of_some = let a = less in let b = counts.counts.counts op is.operation in omega (arith, a, b)

    pub counts_now : (of : List ℕ) → of ≡ set u.by_op.items op (get_or u.by_op.items op 0 - 1) → AreCounts p (of_tasks new) of
    counts_now of set_is = record {
      operations = ap length set_is ∙ length-set u.by_op.items op (get_or u.by_op.items op 0 - 1) ∙ counts.counts.operations;
      counts = λ k h. ap (λ (xs : List ℕ). get_or xs k 0) set_is ∙ elim (cases_eq k op) [
        | inl e ↦
            ap (λ (j : ℕ). get_or (set u.by_op.items op (get_or u.by_op.items op 0 - 1)) j 0) e ∙ get_or-set_same u.by_op.items op (get_or u.by_op.items op 0 - 1) 0 within_of
            ∙ (let a = less in let b = counts.counts.counts op is.operation in omega (arith, a, b)) ∙ ap (λ (j : ℕ). undone_of p (of_tasks new) j) (sym e)
        | inr n ↦ get_or-set_other u.by_op.items op k (get_or u.by_op.items op 0 - 1) 0 n ∙ counts.counts.counts k h
            ∙ sym (undone_other p before new long_before op task is (state_at p (of_tasks new) op task) back k h n)
      ];
    }

    pub undone_now : (v : Undone) → v.by_op.items ≡ set u.by_op.items op (get_or u.by_op.items op 0 - 1) → v.left ≡ u.left - 1 → AreUndone p new v
    undone_now v set_is left = record { counts = counts_now v.by_op.items set_is; left_is = let a = less_left in let b = counts.left_is in omega (arith, a, b, left) }

    pub now_over : IsOver p (of_tasks new) (task_number p op task)
    now_over = over_task p before new long_before op task is (state_at p (of_tasks new) op task) back done undone_at

    pub all_over : get_or u.by_op.items op 0 - 1 ≡ 0 → IsOver p (of_tasks new) (task_count p + op)
    all_over none = inr (op, is.operation, (let a = less in let b = counts.counts.counts op is.operation in omega (arith, a, b, none)), refl)

    module _ (q : Lined) (queue : IsQueue p (of_tasks before) q) (some : 1 ≤ was.copies) where
      some_at : 1 ≤ (state_at p (of_tasks before) op task).copies
      some_at = subst (λ (s : TaskState). 1 ≤ s.copies) (sym was_at) some

      pub now_lined : IsLined p (of_tasks new) (λ j. ⊥) q
      now_lined = lined_done p before new long_before op task is (state_at p (of_tasks new) op task) back done undone_at q queue some_at

      pub queue_woken : (r : Lined) → IsWoken p (of_tasks new) (task_number p op task) q r → get_or u.by_op.items op 0 - 1 ≢ 0 → IsQueue p (of_tasks new) r
      queue_woken r woken more =
          queue_done p before new long_before op task is (state_at p (of_tasks new) op task) back done undone_at q queue some_at r woken
          (λ none. more (let a = less in let b = counts.counts.counts op is.operation in omega (arith, a, b, none)))

      pub queue_all_woken : (r t : Lined) → IsWoken p (of_tasks new) (task_number p op task) q r → IsWoken p (of_tasks new) (task_count p + op) r t → IsQueue p (of_tasks new) t
      queue_all_woken r t woken then =
          queue_all_done p before new long_before op task is (state_at p (of_tasks new) op task) back done undone_at q queue some_at r t woken then

  -- ---- a task that stays as done as it was

  module _ (same : (state_at p (of_tasks new) op task).done ≡ was.done) where
    same_at : (state_at p (of_tasks new) op task).done ≡ (state_at p (of_tasks before) op task).done
    same_at = same ∙ sym (ap (λ (s : TaskState). s.done) was_at)

    pub undone_stays : (u : Undone) → AreUndone p before u → AreUndone p new u
    undone_stays u counts = undone_same p before new long_before op task is (state_at p (of_tasks new) op task) back same_at u counts

    module _ (q : Lined) (queue : IsQueue p (of_tasks before) q) where
      busy_before : 1 ≤ was.copies → IsWaiting p (of_tasks before) op task → ⊥
      busy_before some waits = let e = ap (λ (s : TaskState). s.copies) was_at in let z = waits.1 in omega (arith, e, z, some)

      -- a copy of a task that is done ended
      pub queue_late : 1 ≤ was.copies → was.done ≡ true → IsQueue p (of_tasks new) q
      queue_late some done =
          queue_same p before new long_before op task is (state_at p (of_tasks new) op task) back same_at q queue (busy_before some)
          (λ waits. let u = waits.0 in let d = same ∙ done in cc (u, d)) (inr (λ h. let u = h.0 in let d = same ∙ done in cc (u, d)))

      module _ (some : 1 ≤ was.copies) (undone : was.done ≡ false) where
        was_ready : AreInputsDone p (of_tasks before) op task
        was_ready = queue.running op task is (ap (λ (s : TaskState). s.done) was_at ∙ undone) (subst (λ (s : TaskState). 1 ≤ s.copies) (sym was_at) some)

        -- another copy runs
        pub queue_still : (state_at p (of_tasks new) op task).copies ≢ 0 → IsQueue p (of_tasks new) q
        queue_still more =
            queue_same p before new long_before op task is (state_at p (of_tasks new) op task) back same_at q queue (busy_before some) (λ waits. more waits.1) (inl was_ready)

        -- none runs, and it waits again
        module _ (none : (state_at p (of_tasks new) op task).copies ≡ 0) where
          pub place_failed : HasListPlace p q (task_number p op task)
          place_failed =
              place_again p before new long_before op task is (state_at p (of_tasks new) op task) back same_at q queue (busy_before some) (same ∙ undone, none) was_ready

          pub queue_failed : (r : Lined) → r ≡ pushed q (task_number p op task) → IsQueue p (of_tasks new) r
          queue_failed r is_new =
              queue_again p before new long_before op task is (state_at p (of_tasks new) op task) back same_at q queue (busy_before some) (same ∙ undone, none) was_ready r is_new

-- ---- as the code reads them

pub read_is : (xs : List ℕ) (i x : ℕ) → i < length xs → x ≡ get_or xs i x → x ≡ get_or xs i 0
read_is xs i x h read = read ∙ get_or_default xs i x 0 h

-- a number that was made less, read again
pub again_is : (xs : List ℕ) (i y x : ℕ) → i < length xs → y ≡ get_or xs i 0 → x ≡ get_or (set xs i (y - 1)) i x → x ≡ get_or xs i 0 - 1
again_is xs i y x h was read = read ∙ get_or-set_same xs i (y - 1) x h ∙ ap (λ (n : ℕ). n - 1) was

pub none_of : (o : Option Ending) → is_some o ≡ false → o ≡ None
none_of None e = refl
none_of (Some x) e = absurd (cc)

-- a copy that was neither done nor failed
pub other_leaves : (kind : EventKind) (was after : TaskState) (ended : Option Ending) → (kind ≡ Done → ⊥) → (kind ≡ Failed → ⊥) → LeavesBy kind was after ended
    → (1 ≤ was.copies) × (ended ≡ None → was.done ≡ true) × (after ≡ one_copy_less was)
other_leaves Start was after ended d f h = h
other_leaves Done was after ended d f h = absurd (d refl)
other_leaves Failed was after ended d f h = absurd (f refl)
other_leaves Halt was after ended d f h = h
other_leaves Late was after ended d f h = h

-- ---- the counts as a table begins

pub record CountedSoFar (p : PlanView) (states : List TaskState) (n at : ℕ) (by_op : List ℕ) : Type 0 where
  pub at_is : at ≡ first_task p n
  pub many : length by_op ≡ n
  pub counted : (k : ℕ) → k < n → get_or by_op k 0 ≡ undone_of p (of_tasks states) k

module _ (p : PlanView) (states : List TaskState) (n at : ℕ) (by_op : List ℕ) (so_far : CountedSoFar p states n at by_op) where
  pub counted_all : n ≡ length p.ops → AreCounts p (of_tasks states) by_op
  counted_all all = record { operations = so_far.many ∙ all; counts = λ k h. so_far.counted k (omega (arith, h, all)) }

  module _ (within : n < length p.ops) (count : ℕ) (many_more : count ≡ tasks_of p.arrays (op_of p n)) where
    pub part_within : length states ≡ task_count p → at + count ≤ length states
    part_within long = let a = first_within p states long n within in let b = so_far.at_is in omega (arith, a, b, many_more)

    pub counted_more : (new : List ℕ) (part : ℕ) → part ≡ undone_among (take count (drop at states)) → new ≡ by_op ++ part ∷ [] → CountedSoFar p states (n + 1) (at + count) new
    counted_more new part part_is is_new = record {
      at_is = let a = first_more p n within in let b = so_far.at_is in omega (arith, a, b, many_more);
      many = ap length is_new ∙ (let l = length_push by_op part in let m = so_far.many in omega (arith, l, m));
      counted = λ k h. ap (λ (xs : List ℕ). get_or xs k 0) is_new ∙ elim (cases_lt k n) [
        | inl less ↦ get_or_append_left by_op (part ∷ []) 0 k (let m = so_far.many in omega (arith, m, less)) ∙ so_far.counted k less
        | inr more ↦
            let m = so_far.many in
            let e : k ≡ length by_op + 0 = omega (arith, m, more, h) in
            let same : n ≡ k = omega (arith, more, h) in
            ap (λ (i : ℕ). get_or (by_op ++ part ∷ []) i 0) e ∙ get_or-append-add by_op (part ∷ []) 0 0 ∙ part_is
            ∙ ap (λ (c : ℕ). undone_among (take c (drop at states))) many_more ∙ ap (λ (f : ℕ). undone_among (take (tasks_of p.arrays (op_of p n)) (drop f states))) so_far.at_is
            ∙ ap (λ (j : ℕ). undone_of p (of_tasks states) j) same
      ];
    }

pub counted_none : (p : PlanView) (states : List TaskState) (by_op : List ℕ) → by_op ≡ [] → CountedSoFar p states 0 0 by_op
counted_none p states by_op none = record { at_is = refl; many = ap length none; counted = λ k h. absurd (omega (arith, h)) }
