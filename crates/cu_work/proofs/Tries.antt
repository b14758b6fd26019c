-- How often one worker tries each task, and how many calls that makes in all.
use Rattle.std.proofs.Common.{◌≡◌, inl, inr, ℕ, ◌+◌, ◌*◌, ◌≤◌, Bool, true, false, List, [], ◌∷◌, ◌++◌, length, Option, Some, None, Result, Ok, Err, get_or, refl, ap, sym, ◌∙◌, subst, arith}
use Rattle.std.specs.Prelude.{◌==◌, ◌&&◌, if◌then◌else◌}
use Rattle.std.proofs.Math.Nat.{mul-le-mul_left}
use Rattle.cu_history.specs.declared.entry.Entry.{Entry}
use Rattle.cu_history.specs.declared.entry.EventKind.{EventKind}
use Rattle.cu_history.specs.declared.entry.EventKind.TheVariants.{Start, Halt}
use Rattle.cu_history.specs.History.{is_start, count_of_task}
use Rattle.cu_op.specs.Cells.{tasks_of}
use Rattle.cu_op.specs.PlanView.{PlanView}
use Rattle.cu_op.specs.Schedule.{op_of}
use Rattle.cu_store.specs.declared.faults.TaskFault.{TaskFault}
use Rattle.cu_store.specs.declared.faults.TaskFault.TheVariants as fault
use Rattle.cu_table.specs.declared.state.TaskState.{TaskState}
use Rattle.cu_table.specs.declared.state.Ending.{Ending}
use Rattle.cu_table.specs.declared.state.Ending.TheVariants.{Halted}
use Rattle.cu_table.specs.Numbers.{IsTask, task_number}
use Rattle.cu_table.specs.Machine.{Machine, no_task, state_at, with_task, one_copy_more, one_copy_less, done_now, failed_now}
use Rattle.cu_table.specs.Step.{Settings, Step, StepOf}
use Rattle.cu_table.specs.Table.{start_event, end_of, report_kind}
use Rattle.cu_table.proofs.Copies.{a_copy, copies_of, weight, weight_own, weight_other}
use Rattle.cu_table.proofs.Keeping.{Kept, state_same, state_other, state_small, same_task, step_kept}
use Rattle.cu_work.specs.Calls.{sum_of_first}
use Rattle.cu_work.proofs.Sums.{sum_same, sum_more, sum_times}

-- ---- a cost of each start

module _ (p : PlanView) (cost : ℕ → ℕ → ℕ) where
  -- what so many starts of each task of an operation cost, and of all operations
  abbrev pub spent_in : (ℕ → ℕ → ℕ) → ℕ → ℕ
  spent_in starts k = sum_of_first (λ task. starts k task * cost k task) (tasks_of p.arrays (op_of p k))

  abbrev pub spent : (ℕ → ℕ → ℕ) → ℕ
  spent starts = sum_of_first (spent_in starts) (length p.ops)

  -- what one start of each costs
  abbrev pub spent_once : ℕ
  spent_once = sum_of_first (λ k. sum_of_first (cost k) (tasks_of p.arrays (op_of p k))) (length p.ops)

  -- one start more of one task
  pub spent_more : (a b : ℕ → ℕ → ℕ) (op task : ℕ) → IsTask p op task → b op task ≡ a op task + 1
      → ((l other : ℕ) → IsTask p l other → ((op ≡ l) × (task ≡ other) → ⊥) → b l other ≡ a l other) → spent b ≡ spent a + cost op task
  spent_more a b op task is own others =
      sum_more (spent_in a) (spent_in b) op (cost op task) (length p.ops) is.operation
      (λ k low apart. sum_same (λ t. a k t * cost k t) (λ t. b k t * cost k t) (tasks_of p.arrays (op_of p k))
      (λ t below. ap (λ (n : ℕ). n * cost k t) (others k t (record { operation = low; number = below }) (λ e. apart (sym e.0)))))
      (sum_more (λ t. a op t * cost op t) (λ t. b op t * cost op t) task (cost op task) (tasks_of p.arrays (op_of p op)) is.number
      (λ t below apart. ap (λ (n : ℕ). n * cost op t) (others op t (record { operation = is.operation; number = below }) (λ e. apart (sym e.1))))
      (let one = ap (λ (n : ℕ). n * cost op task) own in omega (arith, one)))

  -- at most so many of each
  pub spent_few : (a : ℕ → ℕ → ℕ) (most : ℕ) → ((op task : ℕ) → IsTask p op task → a op task ≤ most) → spent a ≤ most * spent_once
  spent_few a most few =
      sum_times (spent_in a) (λ k. sum_of_first (cost k) (tasks_of p.arrays (op_of p k))) most (length p.ops)
      (λ k low. sum_times (λ t. a k t * cost k t) (cost k) most (tasks_of p.arrays (op_of p k))
      (λ t below. let more = mul-le-mul_left (cost k t) (few k t (record { operation = low; number = below })) in omega (arith, more)))

  -- none at all
  pub spent_none : (a : ℕ → ℕ → ℕ) → ((op task : ℕ) → a op task ≡ 0) → spent a ≤ 0
  spent_none a none =
      let few = spent_few a 0 (λ op task is. let z = none op task in omega (arith, z)) in
      omega (arith, few)

-- ---- the starts of one task

-- 1 where an entry is a start of this task
abbrev start_hit : EventKind → Entry → ℕ → ℕ → ℕ
start_hit kind e op task = if is_start kind && (e.op == op) && (e.task == task) then 1 else 0

starts_push : (es : List Entry) (e : Entry) (op task : ℕ) → count_of_task is_start op task (es ++ e ∷ []) ≡ count_of_task is_start op task es + start_hit e.kind e op task
starts_push [] e op task = omega arith
starts_push (d ∷ es) e op task = let rest = starts_push es e op task in omega (arith, rest)

-- A task was started at most once more than it is tried again; and while the run goes on, one that isn't done at most as often as it failed.
pub record IsTriedFew (g : Settings) (m : Machine) (history : List Entry) (op task : ℕ) : Type 0 where
  pub few : count_of_task is_start op task history ≤ g.retries + 1
  pub undone : m.ended ≡ None → (state_at g.plan m op task).done ≡ false → count_of_task is_start op task history ≤ (state_at g.plan m op task).failures

none_ended : (ending : Ending) → ◌≡◌ {A = Option Ending} None (Some ending) → ⊥
none_ended ending e = cc

true_false : true ≡ false → ⊥
true_false e = cc

-- a claim where no copy runs, and the end of that copy
module _ (g : Settings) (m n new : Machine) (op task : ℕ) (kept : Kept g.plan g.retries m) (resting : m.copies ≡ []) (start : Step g m (start_event g.plan 0 op task) n) where
  is : IsTask g.plan op task
  is = start.0.task

  kept_between : Kept g.plan g.retries n
  kept_between = (step_kept g m (start_event g.plan 0 op task) n kept start).0

  no_copy : (state_at g.plan m op task).copies ≡ 0
  no_copy = kept.counts op task is ∙ ap (copies_of op task) resting

  undone_before : (state_at g.plan m op task).done ≡ false
  undone_before = elim start.0.can [
    | inl waits ↦ waits.1.0
    | inr single ↦ single.2.0
  ]

  -- of the task itself, and of the others
  between_own : state_at g.plan n op task ≡ one_copy_more (state_at g.plan m op task)
  between_own = ap (λ (x : Machine). state_at g.plan x op task) start.1 ∙ state_same g.plan g.retries m kept op task is (one_copy_more (state_at g.plan m op task))

  between_other : (l other : ℕ) → IsTask g.plan l other → ((op ≡ l) × (task ≡ other) → ⊥) → state_at g.plan n l other ≡ state_at g.plan m l other
  between_other l other that apart =
      ap (λ (x : Machine). state_at g.plan x l other) start.1 ∙ state_other g.plan g.retries m kept op task is (one_copy_more (state_at g.plan m op task)) l other that apart

  -- after an end that leaves the task in this state
  after_own : (s : TaskState) → new.tasks ≡ with_task g.plan n op task s → state_at g.plan new op task ≡ s
  after_own s now = ap (λ (ts : List TaskState). get_or ts (task_number g.plan op task) no_task) now ∙ state_same g.plan g.retries n kept_between op task is s

  after_other : (s : TaskState) → new.tasks ≡ with_task g.plan n op task s → (l other : ℕ) → IsTask g.plan l other → ((op ≡ l) × (task ≡ other) → ⊥) → state_at g.plan new l other ≡ state_at g.plan m l other
  after_other s now l other that apart =
      ap (λ (ts : List TaskState). get_or ts (task_number g.plan l other) no_task) now
      ∙ (state_other g.plan g.retries n kept_between op task is s l other that apart ∙ between_other l other that apart)

  -- the starts of each task that the two entries make
  pub turn_counts : (t u v : List Entry) (kind : EventKind) → u ≡ t ++ start_event g.plan 0 op task ∷ [] → v ≡ u ++ end_of kind 0 op task ∷ [] → is_start kind ≡ false
      → (l other : ℕ) → count_of_task is_start l other v ≡ count_of_task is_start l other t + weight l other (a_copy 0 op task)
  turn_counts t u v kind first second end l other =
      let a = ap (count_of_task is_start l other) first ∙ starts_push t (start_event g.plan 0 op task) l other in
      let b = ap (count_of_task is_start l other) second ∙ starts_push u (end_of kind 0 op task) l other in
      let none : start_hit kind (end_of kind 0 op task) l other ≡ 0 = ap (λ (x : Bool). if x && (op == l) && (task == other) then 1 else 0) end in
      let one : start_hit Start (start_event g.plan 0 op task) l other ≡ weight l other (a_copy 0 op task) = refl in
      omega (arith, a, b, none, one)

  module _ (t v : List Entry) (counts : (l other : ℕ) → count_of_task is_start l other v ≡ count_of_task is_start l other t + weight l other (a_copy 0 op task)) where
    module _ (s : TaskState) (now : new.tasks ≡ with_task g.plan n op task s) (left : new.ended ≡ None → s.done ≡ false → (state_at g.plan m op task).failures + 1 ≤ s.failures) where
      own_few : IsTriedFew g m t op task → IsTriedFew g new v op task
      own_few was =
          let one = weight_own op task 0 in
          let count = counts op task in
          let before = was.undone start.0.going undone_before in
          let small = (state_small g.plan g.retries m kept op task is).failures start.0.going undone_before in
          record {
            few = omega (arith, one, count, before, small);
            undone = λ going undone.
                let more = left going (sym (ap (λ (x : TaskState). x.done) (after_own s now)) ∙ undone) in
                let same = ap (λ (x : TaskState). x.failures) (after_own s now) in
                omega (arith, one, count, before, more, same);
          }

      other_few : (l other : ℕ) → IsTask g.plan l other → ((op ≡ l) × (task ≡ other) → ⊥) → IsTriedFew g m t l other → IsTriedFew g new v l other
      other_few l other that apart was =
          let none = weight_other op task 0 l other apart in
          let count = counts l other in
          let few = was.few in
          let same = after_other s now l other that apart in
          record {
            few = omega (arith, none, count, few);
            undone = λ going undone.
                let before = was.undone start.0.going (sym (ap (λ (x : TaskState). x.done) same) ∙ undone) in
                let failures = ap (λ (x : TaskState). x.failures) same in
                omega (arith, none, count, before, failures);
          }

      left_few : (l other : ℕ) → IsTask g.plan l other → IsTriedFew g m t l other → IsTriedFew g new v l other
      left_few l other that was =
          elim (same_task op task l other) [
            | inl same ↦ subst (λ (x : ℕ × ℕ). IsTriedFew g m t x.0 x.1 → IsTriedFew g new v x.0 x.1) (λ i. (same.0 i, same.1 i)) own_few was
            | inr apart ↦ other_few l other that apart was
          ]

    halted_few : (e : Entry) → e ≡ end_of Halt 0 op task → StepOf g n Halt (end_of Halt 0 op task) new → (l other : ℕ) → IsTask g.plan l other → IsTriedFew g m t l other → IsTriedFew g new v l other
    halted_few e is_e (may, (fault, halts, now)) =
        left_few (one_copy_less (state_at g.plan n op task)) (ap (λ (x : Machine). x.tasks) now)
        (λ going undone. absurd (none_ended (Halted fault) (sym going ∙ ap (λ (x : Machine). x.ended) now)))

    -- by how the try ended
    pub turn_few : (r : Result (Unit {0}) TaskFault) → StepOf g n (report_kind false r) (end_of (report_kind false r) 0 op task) new
        → (l other : ℕ) → IsTask g.plan l other → IsTriedFew g m t l other → IsTriedFew g new v l other
    turn_few (Ok x) (may, now) =
        left_few (done_now (state_at g.plan n op task)) (ap (λ (x : Machine). x.tasks) now) (λ going undone. absurd (true_false undone))
    turn_few (Err fault.Store) (may, now) =
        left_few (failed_now (state_at g.plan n op task)) (ap (λ (x : Machine). x.tasks) now)
        (λ going undone. let same = ap (λ (x : TaskState). x.failures) between_own in omega (arith, same))
    turn_few (Err (fault.BadChunk key got want)) step = halted_few (end_of Halt 0 op task) refl step
    turn_few (Err fault.NoMemory) step = halted_few (end_of Halt 0 op task) refl step
