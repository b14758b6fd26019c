-- The tasks that weren't found done, and those that have an absent chunk.
use Rattle.std.proofs.Common.{◌≡◌, ℕ, zero, suc, ◌+◌, ◌<◌, ◌≤◌, Bool, true, false, List, [], ◌∷◌, length, take, Contains, Option, Some, None, refl, ap, ◌∙◌, subst, arith}
use Rattle.std.specs.Prelude.{◌&&◌, is_some, if◌then◌else◌}
use Rattle.std.specs.List.{list_all}
use Rattle.std.proofs.lemmas.List.{take_all, length-map}
use Rattle.std.proofs.lemmas.List.Sums.{sum_by_more}
use Rattle.cu_op.specs.declared.cells.Cell.{Cell}
use Rattle.cu_op.specs.Cells.{tasks_of}
use Rattle.cu_op.specs.PlanView.{PlanView}
use Rattle.cu_op.specs.Schedule.{op_of, key_of}
use Rattle.cu_op.specs.Walks.{written_chunks}
use Rattle.cu_store.specs.Held.{Contents}
use Rattle.cu_table.proofs.Numbers.{first_more, number_below}
use Rattle.cu_table.specs.declared.state.TaskState.{TaskState}
use Rattle.cu_table.specs.Machine.{no_task, opened, opening, state_at}
use Rattle.cu_table.specs.Numbers.{IsTask, first_task, task_count}
use Rattle.cu_table.specs.Table.{undone_among, undone_weight}
use Rattle.cu_work.specs.World.{IsStored}
use Rattle.cu_top.specs.Absent.{absent_among, absent_before, absent_tasks, is_stored}

-- ---- the test of a task

both : (a b : Bool) → a ≡ true → b ≡ true → (a && b) ≡ true
both true b x y = y
both false b x y = x

first_of : (a b : Bool) → (a && b) ≡ true → a ≡ true
first_of true b e = refl
first_of false b e = e

second_of : (a b : Bool) → (a && b) ≡ true → b ≡ true
second_of true b e = e
second_of false b e = cc

module _ (test : Cell → Bool) where
  all_pass : (ks : List Cell) → ((k : Cell) → Contains ks k → test k ≡ true) → list_all test ks ≡ true
  all_pass [] each = refl
  all_pass (x ∷ xs) each =
      both (test x) (list_all test xs) (each x (0, omega arith, refl)) (all_pass xs (λ k listed. each k (suc listed.0, (let below = listed.1 in omega (arith, below)), listed.2)))

  each_passes : (ks : List Cell) → list_all test ks ≡ true → (k : Cell) → Contains ks k → test k ≡ true
  each_passes [] all k (i, below, e) = absurd (omega (arith, below))
  each_passes (x ∷ xs) all k (zero, below, e) = subst (λ (c : Cell). test c ≡ true) e (first_of (test x) (list_all test xs) all)
  each_passes (x ∷ xs) all k (suc i, below, e) = each_passes xs (second_of (test x) (list_all test xs) all) k (i, omega (arith, below), e)

there : (o : Option (List ℕ)) → is_some o ≡ true → (bytes : List ℕ) × (o ≡ Some bytes)
there (Some bytes) e = (bytes, refl)
there None e = absurd (let h : false ≡ true = e in cc)

module _ (p : PlanView) (held : Contents) (op task : ℕ) where
  pub tests_stored : IsStored p held op task → is_stored p held op task ≡ true
  tests_stored all = all_pass (λ (k : Cell). is_some (held (key_of p.arrays k))) (written_chunks p.arrays (op_of p op) task) (λ k listed. ap is_some (all k listed).1)

  pub stored_by_test : is_stored p held op task ≡ true → IsStored p held op task
  stored_by_test passes k listed =
      there (held (key_of p.arrays k)) (each_passes (λ (c : Cell). is_some (held (key_of p.arrays c))) (written_chunks p.arrays (op_of p op) task) passes k listed)

-- ---- the counts

module _ (p : PlanView) (done : List Bool) (long : length done ≡ task_count p) (held : Contents) where
  abbrev states : List TaskState
  states = (opening done).tasks

  -- one where it isn't done, or has an absent chunk
  abbrev undone : ℕ → ℕ → ℕ
  undone op task = undone_weight (state_at p (opening done) op task)

  abbrev absent : ℕ → ℕ → ℕ
  absent op task = if is_stored p held op task then 0 else 1

  -- those that aren't done among the first n of all
  abbrev up_to : ℕ → ℕ
  up_to n = undone_among (take n states)

  one_more : (op task : ℕ) → IsTask p op task → up_to (first_task p op + suc task) ≡ up_to (first_task p op + task) + undone op task
  one_more op task is =
      let below = number_below p op task is in
      let wide = length-map done opened in
      ap up_to (let e : first_task p op + suc task ≡ first_task p op + task + 1 = omega arith in e)
      ∙ sum_by_more undone_weight states (first_task p op + task) no_task (omega (arith, below, wide, long))

  next_op : (k : ℕ) → k < length p.ops → first_task p (suc k) ≡ first_task p k + tasks_of p.arrays (op_of p k)
  next_op k below = ap (first_task p) (let e : suc k ≡ k + 1 = omega arith in e) ∙ first_more p k below

  whole : up_to (first_task p (length p.ops)) ≡ undone_among states
  whole =
      let all : take (length p.ops) p.ops ≡ p.ops = take_all (length p.ops) p.ops (omega arith) in
      let wide = length-map done opened in
      ap undone_among (take_all (first_task p (length p.ops)) states (rw all (omega (arith, wide, long))))

  module _ (each : (op task : ℕ) → IsTask p op task → undone op task ≤ absent op task) where
    tasks_most : (op n : ℕ) → op < length p.ops → n ≤ tasks_of p.arrays (op_of p op) → up_to (first_task p op + n) ≤ up_to (first_task p op) + absent_among p held op n
    tasks_most op zero here few = let e : up_to (first_task p op + zero) ≡ up_to (first_task p op) = ap up_to (omega arith) in omega (arith, e)
    tasks_most op (suc n) here few =
        let is : IsTask p op n = record { operation = here; number = omega (arith, few) } in
        let before = tasks_most op n here (omega (arith, few)) in
        let step = one_more op n is in
        let one = each op n is in
        omega (arith, before, step, one)

    ops_most : (k : ℕ) → k ≤ length p.ops → up_to (first_task p k) ≤ absent_before p held k
    ops_most zero few = omega arith
    ops_most (suc k) few =
        let before = ops_most k (omega (arith, few)) in
        let more = tasks_most k (tasks_of p.arrays (op_of p k)) (omega (arith, few)) (omega arith) in
        let e = ap up_to (next_op k (omega (arith, few))) in
        omega (arith, before, more, e)

    -- each task that isn't done has an absent chunk: so they are at most so many
    pub at_most_absent : undone_among states ≤ absent_tasks p held
    at_most_absent = let a = ops_most (length p.ops) (omega arith) in let b = whole in omega (arith, a, b)

  module _ (each : (op task : ℕ) → IsTask p op task → absent op task ≤ undone op task) where
    tasks_least : (op n : ℕ) → op < length p.ops → n ≤ tasks_of p.arrays (op_of p op) → up_to (first_task p op) + absent_among p held op n ≤ up_to (first_task p op + n)
    tasks_least op zero here few = let e : up_to (first_task p op + zero) ≡ up_to (first_task p op) = ap up_to (omega arith) in omega (arith, e)
    tasks_least op (suc n) here few =
        let is : IsTask p op n = record { operation = here; number = omega (arith, few) } in
        let before = tasks_least op n here (omega (arith, few)) in
        let step = one_more op n is in
        let one = each op n is in
        omega (arith, before, step, one)

    ops_least : (k : ℕ) → k ≤ length p.ops → absent_before p held k ≤ up_to (first_task p k)
    ops_least zero few = omega arith
    ops_least (suc k) few =
        let before = ops_least k (omega (arith, few)) in
        let more = tasks_least k (tasks_of p.arrays (op_of p k)) (omega (arith, few)) (omega arith) in
        let e = ap up_to (next_op k (omega (arith, few))) in
        omega (arith, before, more, e)

    -- each task with an absent chunk isn't done: so they are at least so many
    pub at_least_absent : absent_tasks p held ≤ undone_among states
    at_least_absent = let a = ops_least (length p.ops) (omega arith) in let b = whole in omega (arith, a, b)
