-- What each step of the machine keeps, and how many steps there can be.
use Rattle.std.proofs.Common.{◌≡◌, ◌≢◌, ◌⊎◌, inl, inr, ℕ, ◌+◌, ◌-◌, ◌*◌, ◌<◌, ◌≤◌, ◌==◌, Bool, true, false, List, [], ◌∷◌, ◌++◌, length, get_or, set, map, max, All, sum_by, Option, Some, None, refl, ap, sym, ◌∙◌, subst, mul_comm, arith}
use Rattle.std.specs.Prelude.{if◌then◌else◌}
use Rattle.std.proofs.lemmas.Bool.{cases_Bool, cases_eq, eqb-false, cond-true, cond-false}
use Rattle.std.proofs.lemmas.List.{get_or-set_same, get_or-set_other, length-set, length-map, length_push}
use Rattle.std.proofs.lemmas.List.Elements.{All-push, All-nil, All-map, All-contains, All-set}
use Rattle.std.proofs.lemmas.List.Sums.{sum_by-cons, sum_by_push, sum_by-set, sum_by-le, sum_by-le-sum_by, get_or-le-sum_by}
use Rattle.cu_op.specs.PlanView.{PlanView}
use Rattle.cu_history.specs.declared.entry.Entry.{Entry}
use Rattle.cu_history.specs.declared.entry.EventKind.{EventKind}
use Rattle.cu_history.specs.declared.entry.EventKind.TheVariants.{Start, Done, Failed, Halt, Late}
use Rattle.cu_table.specs.declared.state.TaskState.{TaskState}
use Rattle.cu_table.specs.declared.state.RunningCopy.{RunningCopy}
use Rattle.cu_table.specs.declared.state.Ending.{Ending}
use Rattle.cu_table.specs.declared.state.Ending.TheVariants.{Broken, Halted}
use Rattle.cu_table.specs.Numbers.{IsTask, task_count, task_number}
use Rattle.cu_table.specs.Machine.{Machine, no_task, state_at, Runs, RunsNothing, with_task, opened, opening, copy_started, copy_ended, one_copy_more, one_copy_less, done_now, failed_now, without}
use Rattle.cu_table.specs.Step.{Settings, Step, StepOf, MayStart, CanStart, IsReport, IsLateReport, Run, Replays, Legal, ending_after}
use Rattle.cu_table.proofs.Numbers.{number_below, number_once}
use Rattle.cu_table.proofs.Copies.{a_copy, Apart, weight, copies_of, weight_own, weight_other, apart_push, apart_without, All-without, sum_without}

-- an entry of a worker and a task
abbrev an_entry : ℕ → ℕ → ℕ → Entry
an_entry worker op task = record { kind = Late; worker = worker; op = op; task = task; room = 0 }

-- a task's numbers are small
pub record IsSmall (retries : ℕ) (ended : Option Ending) (s : TaskState) : Type 0 where
  pub copies : s.copies ≤ 2
  pub after : s.done ≡ true → s.copies ≤ 1
  pub failures : ended ≡ None → s.done ≡ false → s.failures ≤ retries

pub record Kept (p : PlanView) (retries : ℕ) (m : Machine) : Type 0 where
  pub tasks : length m.tasks ≡ task_count p
  pub listed : All (λ c. IsTask p c.op c.task) m.copies
  pub apart : Apart m.copies
  pub counts : (op task : ℕ) → IsTask p op task → (state_at p m op task).copies ≡ copies_of op task m.copies
  pub small : All (IsSmall retries m.ended) m.tasks
  pub total : sum_by (λ s. s.copies) m.tasks ≡ length m.copies

-- ---- the state of one task after a change of another or of itself

module _ (p : PlanView) (retries : ℕ) (m : Machine) (kept : Kept p retries m) (op task : ℕ) (is : IsTask p op task) (s : TaskState) where
  pub inside : task_number p op task < length m.tasks
  inside = let b = number_below p op task is in let t = kept.tasks in omega (arith, b, t)

  pub state_same : get_or (with_task p m op task s) (task_number p op task) no_task ≡ s
  state_same = get_or-set_same m.tasks (task_number p op task) s no_task inside

  pub state_other : (l other : ℕ) → IsTask p l other → ((op ≡ l) × (task ≡ other) → ⊥) → get_or (with_task p m op task s) (task_number p l other) no_task ≡ state_at p m l other
  state_other l other that apart =
      get_or-set_other m.tasks (task_number p op task) (task_number p l other) s no_task (λ e. apart (number_once p op task l other is that (sym e)))

pub length_sum : (cs : List RunningCopy) → length cs ≡ sum_by (λ (c : RunningCopy). 1) cs
length_sum [] = refl
length_sum (c ∷ cs) = let a = sum_by-cons (λ (d : RunningCopy). 1) c cs in let i = length_sum cs in omega (arith, a, i)

pub copies_few : (p : PlanView) (retries : ℕ) (m : Machine) → Kept p retries m → length m.copies ≤ 2 * task_count p
copies_few p retries m kept =
    let a = sum_by-le (λ (s : TaskState). s.copies) 2 m.tasks (λ k d l. (kept.small k d l).copies) in
    let t = kept.total in
    let n = kept.tasks in
    omega (arith, a, t, n)

pub same_task : (op task l other : ℕ) → ((op ≡ l) × (task ≡ other)) ⊎ ((op ≡ l) × (task ≡ other) → ⊥)
same_task op task l other =
    elim (cases_eq op l) [
      | inl a ↦ elim (cases_eq task other) [
        | inl b ↦ inl (a, b)
        | inr b ↦ inr (λ h. b h.1)
      ]
      | inr a ↦ inr (λ h. a h.0)
    ]

pub state_small : (p : PlanView) (retries : ℕ) (m : Machine) → Kept p retries m → (op task : ℕ) → IsTask p op task → IsSmall retries m.ended (state_at p m op task)
state_small p retries m kept op task is = kept.small (task_number p op task) no_task (inside p retries m kept op task is no_task)

-- a copy that runs is counted
pub counted : (p : PlanView) (retries : ℕ) (m : Machine) → Kept p retries m → (worker op task : ℕ) → Runs m worker op task → IsTask p op task × (1 ≤ (state_at p m op task).copies)
counted p retries m kept worker op task (k, l, e) =
    let is = All-contains (λ (c : RunningCopy). IsTask p c.op c.task) m.copies (a_copy worker op task) kept.listed (k, l, e) in
    let one = get_or-le-sum_by (weight op task) m.copies k (a_copy worker op task) l in
    let w : weight op task (get_or m.copies k (a_copy worker op task)) ≡ 1 = ap (weight op task) e ∙ weight_own op task worker in
    let n = kept.counts op task is in
    (is, omega (arith, one, w, n))

module _ (p : PlanView) (retries : ℕ) (m : Machine) (kept : Kept p retries m) (worker op task : ℕ) where
  -- the counts after a copy began or ended
  counts_with : (is : IsTask p op task) (s : TaskState) (copies : List RunningCopy)
      → ((l other : ℕ) → IsTask p l other → ((op ≡ l) × (task ≡ other) → ⊥) → copies_of l other copies ≡ copies_of l other m.copies)
      → s.copies ≡ copies_of op task copies
      → (l other : ℕ) → IsTask p l other → (get_or (with_task p m op task s) (task_number p l other) no_task).copies ≡ copies_of l other copies
  counts_with is s copies others own l other that =
      elim (same_task op task l other) [
        | inl same ↦
            subst (λ (k : ℕ). (get_or (with_task p m op task s) (task_number p k other) no_task).copies ≡ copies_of k other copies) same.0
            (subst (λ (t : ℕ). (get_or (with_task p m op task s) (task_number p op t) no_task).copies ≡ copies_of op t copies) same.1
            (ap (λ (x : TaskState). x.copies) (state_same p retries m kept op task is s) ∙ own))
        | inr apart ↦
            ap (λ (x : TaskState). x.copies) (state_other p retries m kept op task is s l other that apart) ∙ kept.counts l other that ∙ sym (others l other that apart)
      ]

  pub kept_start : (is : IsTask p op task) → RunsNothing m worker → (state_at p m op task).done ≡ false → (state_at p m op task).copies ≤ 1 → Kept p retries (copy_started p m (an_entry worker op task))
  kept_start is free undone few =
      let s = state_at p m op task in
      let was = state_small p retries m kept op task is in
      record {
        tasks = length-set m.tasks (task_number p op task) (one_copy_more s) ∙ kept.tasks;
        listed = All-push (λ (c : RunningCopy). IsTask p c.op c.task) m.copies (a_copy worker op task) kept.listed is;
        apart = apart_push m.copies (a_copy worker op task) kept.apart free;
        counts = counts_with is (one_copy_more s) (m.copies ++ a_copy worker op task ∷ [])
            (λ l other that apart. let a = sum_by_push (weight l other) m.copies (a_copy worker op task) in let w = weight_other op task worker l other apart in omega (arith, a, w))
            (let a = sum_by_push (weight op task) m.copies (a_copy worker op task) in let w = weight_own op task worker in let n = kept.counts op task is in omega (arith, a, w, n));
        small = All-set (IsSmall retries m.ended) m.tasks (task_number p op task) (one_copy_more s)
            (record { copies = omega (arith, few); after = λ e. absurd (cc (e, undone)); failures = was.failures }) kept.small;
        total =
            let a = sum_by-set (λ (x : TaskState). x.copies) m.tasks (task_number p op task) (one_copy_more s) no_task (inside p retries m kept op task is (one_copy_more s)) in
            let l = length_push m.copies (a_copy worker op task) in
            let t = kept.total in
            omega (arith, a, l, t);
      }

  -- the ending of the machine may only come to be
  pub kept_end : (s : TaskState) (ended : Option Ending) → Runs m worker op task → s.copies ≡ (state_at p m op task).copies - 1 → (m.ended ≢ None → ended ≢ None)
      → IsSmall retries ended s → Kept p retries (copy_ended p m (an_entry worker op task) s ended)
  kept_end s ended runs less stays small =
      let c = counted p retries m kept worker op task runs in
      let is = c.0 in
      record {
        tasks = length-set m.tasks (task_number p op task) s ∙ kept.tasks;
        listed = All-without (λ (d : RunningCopy). IsTask p d.op d.task) worker m.copies kept.listed;
        apart = apart_without worker m.copies kept.apart;
        counts = counts_with is s (without worker m.copies)
            (λ l other that apart. let a = sum_without (weight l other) worker op task m.copies kept.apart runs in let w = weight_other op task worker l other apart in omega (arith, a, w))
            (let a = sum_without (weight op task) worker op task m.copies kept.apart runs in let w = weight_own op task worker in let n = kept.counts op task is in let one = c.1 in omega (arith, a, w, n, one, less));
        small = All-set (IsSmall retries ended) m.tasks (task_number p op task) s small
            (λ k d l. let x = kept.small k d l in record { copies = x.copies; after = x.after; failures = λ none. x.failures (was_none m.ended ended stays none) });
        total =
            let a = sum_by-set (λ (x : TaskState). x.copies) m.tasks (task_number p op task) s no_task (inside p retries m kept op task is s) in
            let w = sum_without (λ (x : RunningCopy). 1) worker op task m.copies kept.apart runs in
            let l = length_sum m.copies in
            let n = length_sum (without worker m.copies) in
            let t = kept.total in
            let one = c.1 in
            omega (arith, a, w, l, n, t, one, less);
      }
    where
      was_none : (a b : Option Ending) → (a ≢ None → b ≢ None) → b ≡ None → a ≡ None
      was_none None b h e = refl
      was_none (Some x) b h e = absurd (h (λ i. cc) e)

-- ---- how many entries may follow

-- once the machine has ended only the copies that run
abbrev pub left_late : TaskState → ℕ
left_late s = s.copies

abbrev pub left_open : ℕ → TaskState → ℕ
left_open retries s = if s.done then s.copies else max (2 * (retries + 2 - s.failures) - s.copies) s.copies

abbrev pub left_by : ℕ → Option Ending → TaskState → ℕ
left_by retries None = left_open retries
left_by retries (Some ending) = left_late

abbrev pub left : ℕ → Machine → ℕ
left retries m = sum_by (left_by retries m.ended) m.tasks

pub late_least : (retries : ℕ) (s : TaskState) → left_late s ≤ left_open retries s
late_least retries s =
    elim (cases_Bool s.done) [
      | inl is ↦ rw (cond-true s.done s.copies (max (2 * (retries + 2 - s.failures) - s.copies) s.copies) is) (omega arith)
      | inr isnt ↦ rw (cond-false s.done s.copies (max (2 * (retries + 2 - s.failures) - s.copies) s.copies) isnt) (omega arith)
    ]

open_done : (retries : ℕ) (s : TaskState) → s.done ≡ true → left_open retries s ≡ s.copies
open_done retries s is = cond-true s.done s.copies (max (2 * (retries + 2 - s.failures) - s.copies) s.copies) is

open_undone : (retries : ℕ) (s : TaskState) → s.done ≡ false → left_open retries s ≡ max (2 * (retries + 2 - s.failures) - s.copies) s.copies
open_undone retries s isnt = cond-false s.done s.copies (max (2 * (retries + 2 - s.failures) - s.copies) s.copies) isnt

-- one task's new state makes the sum less by what its own is less
sum_less : (f : TaskState → ℕ) (xs : List TaskState) (i : ℕ) (s : TaskState) → i < length xs → f s + 1 ≤ f (get_or xs i no_task) → sum_by f (set xs i s) + 1 ≤ sum_by f xs
sum_less f xs i s h less = let a = sum_by-set f xs i s no_task h in omega (arith, a, less)

module _ (p : PlanView) (retries : ℕ) (m : Machine) (kept : Kept p retries m) (op task : ℕ) (is : IsTask p op task) where
  left_one : (s : TaskState) → left_by retries m.ended s + 1 ≤ left_by retries m.ended (state_at p m op task)
      → sum_by (left_by retries m.ended) (with_task p m op task s) + 1 ≤ left retries m
  left_one s less = sum_less (left_by retries m.ended) m.tasks (task_number p op task) s (inside p retries m kept op task is s) less

  left_ends : (s : TaskState) (ending : Ending) → s.copies + 1 ≤ (state_at p m op task).copies
      → sum_by left_late (with_task p m op task s) + 1 ≤ left retries m
  left_ends s ending less =
      let a = sum_less left_late m.tasks (task_number p op task) s (inside p retries m kept op task is s) less in
      let b = wider m.ended in
      omega (arith, a, b)
    where
      wider : (o : Option Ending) → sum_by left_late m.tasks ≤ sum_by (left_by retries o) m.tasks
      wider None = sum_by-le-sum_by left_late (left_open retries) m.tasks (late_least retries)
      wider (Some e) = omega arith

-- ---- a step keeps all this, and leaves one entry less to come

shape : (p : PlanView) (retries : ℕ) (m new : Machine) → new ≡ m → Kept p retries m → Kept p retries new
shape p retries m new e kept = subst (Kept p retries) (sym e) kept

same_left : (retries : ℕ) (m new other : Machine) (k : ℕ) → new ≡ other → left retries other + 1 ≤ k → left retries new + 1 ≤ k
same_left retries m new other k e h = let a = ap (left retries) e in omega (arith, a, h)

-- an open machine
open_left : (retries : ℕ) (o : Option Ending) → o ≡ None → (s : TaskState) → left_by retries o s ≡ left_open retries s
open_left retries None e s = refl
open_left retries (Some x) e s = cc

module _ (g : Settings) (m : Machine) (e : Entry) (new : Machine) (kept : Kept g.plan g.retries m) where
  can_start : CanStart g m e.op e.task → ((state_at g.plan m e.op e.task).done ≡ false) × ((state_at g.plan m e.op e.task).copies ≤ 1)
  can_start (inl (ready, waits)) = (waits.0, let w = waits.1 in omega (arith, w))
  can_start (inr (none, on, single)) = (single.0, let w = single.1 in omega (arith, w))

  start_step : MayStart g m e → new ≡ copy_started g.plan m e → Kept g.plan g.retries new × (left g.retries new + 1 ≤ left g.retries m)
  start_step can is =
      let may = can_start can.can in
      let s = state_at g.plan m e.op e.task in
      let was = (state_small g.plan g.retries m kept e.op e.task can.task).failures can.going may.0 in
      let few = may.1 in
      let a = open_left g.retries m.ended can.going s ∙ open_undone g.retries s may.0 in
      let b = open_left g.retries m.ended can.going (one_copy_more s) ∙ open_undone g.retries (one_copy_more s) may.0 in (
        shape g.plan g.retries (copy_started g.plan m e) new is (kept_start g.plan g.retries m kept e.worker e.op e.task can.task can.free may.0 may.1),
        same_left g.retries m new (copy_started g.plan m e) (left g.retries m) is
            (left_one g.plan g.retries m kept e.op e.task can.task (one_copy_more s) (omega (arith, a, b, was, few))),
      )

  done_step : IsReport g.plan m e → new ≡ copy_ended g.plan m e (done_now (state_at g.plan m e.op e.task)) None → Kept g.plan g.retries new × (left g.retries new + 1 ≤ left g.retries m)
  done_step can is =
      let s = state_at g.plan m e.op e.task in
      let c = counted g.plan g.retries m kept e.worker e.op e.task can.runs in
      let task = c.0 in
      let some = c.1 in
      let small = state_small g.plan g.retries m kept e.op e.task task in
      let few = small.copies in
      let was = small.failures can.going can.undone in
      let a = open_left g.retries m.ended can.going s ∙ open_undone g.retries s can.undone in
      let b = open_left g.retries m.ended can.going (done_now s) ∙ open_done g.retries (done_now s) refl in
      let one = left_one g.plan g.retries m kept e.op e.task task (done_now s) (omega (arith, a, b, some, was, few)) in (
        shape g.plan g.retries (copy_ended g.plan m e (done_now s) None) new is
            (kept_end g.plan g.retries m kept e.worker e.op e.task (done_now s) None can.runs refl (λ h. absurd (h can.going))
            (record { copies = omega (arith, few); after = λ h. omega (arith, few); failures = λ h undone. absurd (cc undone) })),
        same_left g.retries m new (copy_ended g.plan m e (done_now s) None) (left g.retries m) is
            (subst (λ (o : Option Ending). sum_by (left_by g.retries o) (with_task g.plan m e.op e.task (done_now s)) + 1 ≤ left g.retries m) can.going one),
      )

  -- an end of a copy that ends the machine
  ending_step : (s : TaskState) (ending : Ending) → IsReport g.plan m e → s.copies ≡ (state_at g.plan m e.op e.task).copies - 1 → s.done ≡ false
      → new ≡ copy_ended g.plan m e s (Some ending) → Kept g.plan g.retries new × (left g.retries new + 1 ≤ left g.retries m)
  ending_step s ending can less undone is =
      let c = counted g.plan g.retries m kept e.worker e.op e.task can.runs in
      let some = c.1 in
      let few = (state_small g.plan g.retries m kept e.op e.task c.0).copies in (
        shape g.plan g.retries (copy_ended g.plan m e s (Some ending)) new is
            (kept_end g.plan g.retries m kept e.worker e.op e.task s (Some ending) can.runs less (λ h i. cc i)
            (record { copies = omega (arith, few, less); after = λ h. omega (arith, few, less); failures = λ h. absurd (cc h) })),
        same_left g.retries m new (copy_ended g.plan m e s (Some ending)) (left g.retries m) is
            (left_ends g.plan g.retries m kept e.op e.task c.0 s ending (omega (arith, some, less))),
      )

  again_step : IsReport g.plan m e → (state_at g.plan m e.op e.task).failures ≢ g.retries → new ≡ copy_ended g.plan m e (failed_now (state_at g.plan m e.op e.task)) None
      → Kept g.plan g.retries new × (left g.retries new + 1 ≤ left g.retries m)
  again_step can more is =
      let s = state_at g.plan m e.op e.task in
      let c = counted g.plan g.retries m kept e.worker e.op e.task can.runs in
      let task = c.0 in
      let some = c.1 in
      let small = state_small g.plan g.retries m kept e.op e.task task in
      let few = small.copies in
      let was = small.failures can.going can.undone in
      let below : s.failures + 1 ≤ g.retries = omega (arith, was, more) in
      let a = open_left g.retries m.ended can.going s ∙ open_undone g.retries s can.undone in
      let b = open_left g.retries m.ended can.going (failed_now s) ∙ open_undone g.retries (failed_now s) can.undone in
      let one = left_one g.plan g.retries m kept e.op e.task task (failed_now s) (omega (arith, a, b, some, below, few)) in (
        shape g.plan g.retries (copy_ended g.plan m e (failed_now s) None) new is
            (kept_end g.plan g.retries m kept e.worker e.op e.task (failed_now s) None can.runs refl (λ h. absurd (h can.going))
            (record { copies = omega (arith, few); after = λ h. omega (arith, few); failures = λ h undone. below })),
        same_left g.retries m new (copy_ended g.plan m e (failed_now s) None) (left g.retries m) is
            (subst (λ (o : Option Ending). sum_by (left_by g.retries o) (with_task g.plan m e.op e.task (failed_now s)) + 1 ≤ left g.retries m) can.going one),
      )

  failed_step : IsReport g.plan m e
      → new ≡ copy_ended g.plan m e (failed_now (state_at g.plan m e.op e.task)) (ending_after g.retries (state_at g.plan m e.op e.task).failures e.op e.task)
      → Kept g.plan g.retries new × (left g.retries new + 1 ≤ left g.retries m)
  failed_step can is =
      let s = state_at g.plan m e.op e.task in
      elim (cases_Bool (s.failures == g.retries)) [
        | inl last ↦ ending_step (failed_now s) (Broken e.op e.task) can refl can.undone
            (is ∙ ap (copy_ended g.plan m e (failed_now s)) (cond-true (s.failures == g.retries) (Some (Broken e.op e.task)) None last))
        | inr more ↦ again_step can (eqb-false s.failures g.retries more)
            (is ∙ ap (copy_ended g.plan m e (failed_now s)) (cond-false (s.failures == g.retries) (Some (Broken e.op e.task)) None more))
      ]

  late_by : (o : Option Ending) → o ≡ m.ended → (s : TaskState) → s ≡ state_at g.plan m e.op e.task → (s.done ≡ true) ⊎ ((ending : Ending) × (m.ended ≡ Some ending)) → 1 ≤ s.copies
      → left_by g.retries o (one_copy_less s) + 1 ≤ left_by g.retries o s
  late_by None is s at (inl done) some =
      let a = open_done g.retries s done in
      let b = open_done g.retries (one_copy_less s) done in
      omega (arith, a, b, some)
  late_by None is s at (inr (ending, ended)) some = absurd (cc (is, ended))
  late_by (Some x) is s at late some = omega (arith, some)

  late_step : IsLateReport g.plan m e → new ≡ copy_ended g.plan m e (one_copy_less (state_at g.plan m e.op e.task)) m.ended → Kept g.plan g.retries new × (left g.retries new + 1 ≤ left g.retries m)
  late_step can is =
      let s = state_at g.plan m e.op e.task in
      let c = counted g.plan g.retries m kept e.worker e.op e.task can.runs in
      let some = c.1 in
      let small = state_small g.plan g.retries m kept e.op e.task c.0 in
      let few = small.copies in (
        shape g.plan g.retries (copy_ended g.plan m e (one_copy_less s) m.ended) new is
            (kept_end g.plan g.retries m kept e.worker e.op e.task (one_copy_less s) m.ended can.runs refl (λ h. h)
            (record { copies = omega (arith, few); after = λ h. omega (arith, few); failures = small.failures })),
        same_left g.retries m new (copy_ended g.plan m e (one_copy_less s) m.ended) (left g.retries m) is
            (left_one g.plan g.retries m kept e.op e.task c.0 (one_copy_less s) (late_by m.ended refl s refl can.late some)),
      )

  kind_step : (kind : EventKind) → StepOf g m kind e new → Kept g.plan g.retries new × (left g.retries new + 1 ≤ left g.retries m)
  kind_step Start step = start_step step.0 step.1
  kind_step Done step = done_step step.0 step.1
  kind_step Failed step = failed_step step.0 step.1
  kind_step Halt step = ending_step (one_copy_less (state_at g.plan m e.op e.task)) (Halted step.1.0) step.0 refl step.0.undone step.1.2
  kind_step Late step = late_step step.0 step.1

pub step_kept : (g : Settings) (m : Machine) (e : Entry) (new : Machine) → Kept g.plan g.retries m → Step g m e new
    → Kept g.plan g.retries new × (left g.retries new + 1 ≤ left g.retries m)
step_kept g m e new kept step = kind_step g m e new kept e.kind step

-- ---- whole histories

pub run_kept : (g : Settings) (m : Machine) (es : List Entry) (new : Machine) → Kept g.plan g.retries m → Run g m es new
    → Kept g.plan g.retries new × (length es + left g.retries new ≤ left g.retries m)
run_kept g m [] new kept is = (shape g.plan g.retries m new is kept, let a = ap (left g.retries) is in omega (arith, a))
run_kept g m (e ∷ es) new kept (mid, step, run) =
    let (one, less) = step_kept g m e mid kept step in
    let (all, rest) = run_kept g mid es new one run in
    (all, omega (arith, less, rest))

pub run_more : (g : Settings) (m : Machine) (es : List Entry) (mid : Machine) (e : Entry) (new : Machine) → Run g m es mid
    → Step g mid e new → Run g m (es ++ e ∷ []) new
run_more g m [] mid e new is step = (new, subst (λ (x : Machine). Step g x e new) is step, refl)
run_more g m (f ∷ es) mid e new (next, first, run) step = (next, first, run_more g next es mid e new run step)

opening_small : (retries : ℕ) (done : List Bool) → All (IsSmall retries None) (map opened done)
opening_small retries done =
    All-map (IsSmall retries None) opened done (λ k d l. record { copies = omega arith; after = λ h. omega arith; failures = λ h i. omega arith })

pub opening_kept : (p : PlanView) (retries : ℕ) (done : List Bool) → length done ≡ task_count p → Kept p retries (opening done)
opening_kept p retries done all = record {
  tasks = length-map done opened ∙ all;
  listed = All-nil (λ (c : RunningCopy). IsTask p c.op c.task);
  apart = tt;
  counts = λ op task is.
      let n : task_number p op task < length (map opened done) = let b = number_below p op task is in let l = length-map done opened in omega (arith, b, l, all) in
      All-map (λ (s : TaskState). s.copies ≡ 0) opened done (λ k d l. refl) (task_number p op task) no_task n;
  small = opening_small retries done;
  total = none_run done;
}
  where
    none_run : (bs : List Bool) → sum_by (λ (s : TaskState). s.copies) (map opened bs) ≡ 0
    none_run [] = refl
    none_run (b ∷ bs) = let a = sum_by-cons (λ (s : TaskState). s.copies) (opened b) (map opened bs) in let i = none_run bs in omega (arith, a, i)

left_at_most : (retries : ℕ) (done : List Bool) → left retries (opening done) ≤ length done * (2 * (retries + 2))
left_at_most retries done =
    let a = sum_by-le (left_open retries) (2 * (retries + 2)) (map opened done) (All-map (λ (s : TaskState). left_open retries s ≤ 2 * (retries + 2)) opened done (λ k d l. at_most (get_or done k d))) in
    let l = length-map done opened in
    subst (λ (n : ℕ). sum_by (left_open retries) (map opened done) ≤ n * (2 * (retries + 2))) l a
  where
    at_most : (b : Bool) → left_open retries (opened b) ≤ 2 * (retries + 2)
    at_most true = omega arith
    at_most false = omega arith

pub replay_kept : (g : Settings) (done : List Bool) (history : List Entry) (m : Machine) → Replays g done history m
    → Kept g.plan g.retries m × (length history + left g.retries m ≤ task_count g.plan * (2 * (g.retries + 2)))
replay_kept g done history m (all, run) =
    let (kept, few) = run_kept g (opening done) history m (opening_kept g.plan g.retries done all) run in
    let most = left_at_most g.retries done in
    let bound : length history + left g.retries m ≤ length done * (2 * (g.retries + 2)) = omega (arith, few, most) in
    (kept, subst (λ (n : ℕ). length history + left g.retries m ≤ n * (2 * (g.retries + 2))) all bound)

pub history_few : (g : Settings) (done : List Bool) (history : List Entry) → Legal g done history
    → length history ≤ 2 * (g.retries + 2) * task_count g.plan
history_few g done history (m, replay) =
    turned (length history) (left g.retries m) (task_count g.plan) (2 * (g.retries + 2)) (replay_kept g done history m replay).1
  where
    turned : (h l n k : ℕ) → h + l ≤ n * k → h ≤ k * n
    turned h l n k b = grind (arith, b, mul_comm n k)

-- a run in two parts
pub run_front : (g : Settings) (old : Machine) (es fs : List Entry) (new : Machine) → Run g old (es ++ fs) new → (mid : Machine) × Run g old es mid × Run g mid fs new
run_front g old [] fs new run = (old, refl, run)
run_front g old (e ∷ es) fs new (next, step, run) = let (mid, one, two) = run_front g next es fs new run in (mid, (next, step, one), two)
