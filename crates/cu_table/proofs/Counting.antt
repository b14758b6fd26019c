-- Each start ends once, or runs; each task that is done was not done at first, or has one entry Done.
use Rattle.std.proofs.Common.{◌≡◌, inl, inr, ℕ, ◌+◌, ◌-◌, ◌≤◌, Bool, true, false, List, [], ◌∷◌, length, All, Option, Some, None, refl, ap, sym, ◌∙◌, subst, arith}
use Rattle.std.proofs.lemmas.Bool.{cond-true, cond-false}
use Rattle.std.specs.Prelude.{if◌then◌else◌}
use Rattle.std.proofs.lemmas.List.{length_push}
use Rattle.std.proofs.lemmas.List.Sums.{sum_by-set}
use Rattle.std.proofs.lemmas.List.Elements.{All-set, All-map}
use Rattle.cu_history.specs.declared.entry.Entry.{Entry}
use Rattle.cu_history.specs.declared.entry.EventKind.{EventKind}
use Rattle.cu_history.specs.declared.entry.EventKind.TheVariants.{Start, Done, Failed, Halt, Late}
use Rattle.cu_table.specs.declared.state.TaskState.{TaskState}
use Rattle.cu_table.specs.declared.state.RunningCopy.{RunningCopy}
use Rattle.cu_table.specs.declared.state.Ending.{Ending}
use Rattle.cu_table.specs.Numbers.{IsTask, task_count, task_number}
use Rattle.cu_table.specs.Machine.{Machine, no_task, state_at, Runs, with_task, without, copy_ended, opened, opening, one_copy_more, one_copy_less, done_now, failed_now}
use Rattle.cu_table.specs.Step.{Settings, StepOf, CanStart, Run, ending_after}
use Rattle.cu_table.specs.declared.state.Ending.TheVariants.{Halted}
use Rattle.cu_table.specs.Table.{undone_weight, undone_among}
use Rattle.cu_history.specs.History.{is_start, is_done, is_failed, count_kind}
use Rattle.cu_table.specs.Own.{is_end}
use Rattle.cu_table.proofs.Copies.{a_copy, sum_without}
use Rattle.cu_table.proofs.Keeping.{Kept, inside, counted, step_kept, length_sum, opening_kept}

abbrev pub one : Bool → ℕ
one b = if b then 1 else 0

module _ (g : Settings) (old : Machine) (kept : Kept g.plan g.retries old) (e : Entry) (new : Machine) where
  -- one copy less
  ended_length : Runs old e.worker e.op e.task → (s : TaskState) (ended : Option Ending) → new ≡ copy_ended g.plan old e s ended → length new.copies + 1 ≡ length old.copies
  ended_length runs s ended is =
      let a = ap (λ (m : Machine). length m.copies) is in
      let w = sum_without (λ (c : RunningCopy). 1) e.worker e.op e.task old.copies kept.apart runs in
      let l = length_sum old.copies in
      let n = length_sum (without e.worker old.copies) in
      omega (arith, a, w, l, n)

  -- a task that stays done or not
  same_undone : (is : IsTask g.plan e.op e.task) (s : TaskState) → new.tasks ≡ with_task g.plan old e.op e.task s → s.done ≡ (state_at g.plan old e.op e.task).done → undone_among new.tasks ≡ undone_among old.tasks
  same_undone is s tasks same =
      let a = sum_by-set undone_weight old.tasks (task_number g.plan e.op e.task) s no_task (inside g.plan g.retries old kept e.op e.task is s) in
      let w : undone_weight s ≡ undone_weight (state_at g.plan old e.op e.task) = ap (λ (b : Bool). undone_weight (record { done = b; failures = 0; copies = 0 })) same in
      let b = ap undone_among tasks in
      omega (arith, a, w, b)

  less_undone : (is : IsTask g.plan e.op e.task) (s : TaskState) → new.tasks ≡ with_task g.plan old e.op e.task s → s.done ≡ true → (state_at g.plan old e.op e.task).done ≡ false
      → undone_among new.tasks + 1 ≡ undone_among old.tasks
  less_undone is s tasks done undone =
      let a = sum_by-set undone_weight old.tasks (task_number g.plan e.op e.task) s no_task (inside g.plan g.retries old kept e.op e.task is s) in
      let w : undone_weight s ≡ 0 = cond-true {A = ℕ} s.done 0 1 done in
      let v : undone_weight (state_at g.plan old e.op e.task) ≡ 1 = cond-false {A = ℕ} (state_at g.plan old e.op e.task).done 0 1 undone in
      let b = ap undone_among tasks in
      omega (arith, a, w, v, b)

  pub count_step : (kind : EventKind) → StepOf g old kind e new
      → (one (is_start kind) + length old.copies ≡ one (is_end kind) + length new.copies) × (one (is_done kind) + undone_among new.tasks ≡ undone_among old.tasks)
  count_step Start step =
      let a = ap (λ (m : Machine). length m.copies) step.1 in
      let l = length_push old.copies (a_copy e.worker e.op e.task) in
      let u = same_undone step.0.task (one_copy_more (state_at g.plan old e.op e.task)) (ap (λ (m : Machine). m.tasks) step.1) refl in
      (omega (arith, a, l), omega (arith, u))
  count_step Done step =
      let a = ended_length step.0.runs (done_now (state_at g.plan old e.op e.task)) None step.1 in
      let u = less_undone (counted g.plan g.retries old kept e.worker e.op e.task step.0.runs).0 (done_now (state_at g.plan old e.op e.task)) (ap (λ (m : Machine). m.tasks) step.1) refl step.0.undone in
      (omega (arith, a), omega (arith, u))
  count_step Failed step =
      let a = ended_length step.0.runs (failed_now (state_at g.plan old e.op e.task)) (ending_after g.retries (state_at g.plan old e.op e.task).failures e.op e.task) step.1 in
      let u = same_undone (counted g.plan g.retries old kept e.worker e.op e.task step.0.runs).0 (failed_now (state_at g.plan old e.op e.task)) (ap (λ (m : Machine). m.tasks) step.1) refl in
      (omega (arith, a), omega (arith, u))
  count_step Halt step =
      let a = ended_length step.0.runs (one_copy_less (state_at g.plan old e.op e.task)) (Some (Halted step.1.0)) step.1.2 in
      let u = same_undone (counted g.plan g.retries old kept e.worker e.op e.task step.0.runs).0 (one_copy_less (state_at g.plan old e.op e.task)) (ap (λ (m : Machine). m.tasks) step.1.2) refl in
      (omega (arith, a), omega (arith, u))
  count_step Late step =
      let a = ended_length step.0.runs (one_copy_less (state_at g.plan old e.op e.task)) old.ended step.1 in
      let u = same_undone (counted g.plan g.retries old kept e.worker e.op e.task step.0.runs).0 (one_copy_less (state_at g.plan old e.op e.task)) (ap (λ (m : Machine). m.tasks) step.1) refl in
      (omega (arith, a), omega (arith, u))

pub count_run : (g : Settings) (old : Machine) (es : List Entry) (new : Machine) → Kept g.plan g.retries old → Run g old es new
    → (count_kind is_start es + length old.copies ≡ count_kind is_end es + length new.copies) × (count_kind is_done es + undone_among new.tasks ≡ undone_among old.tasks)
count_run g old [] new kept is = ((let a = ap (λ (m : Machine). length m.copies) is in omega (arith, a)), (let a = ap (λ (m : Machine). undone_among m.tasks) is in omega (arith, a)))
count_run g old (e ∷ es) new kept (mid, step, run) =
    let (o0, o1) = count_step g old kept e mid e.kind step in
    let (r0, r1) = count_run g mid es new (step_kept g old e mid kept step).0 run in
    let a : count_kind is_start (e ∷ es) ≡ one (is_start e.kind) + count_kind is_start es = refl in
    let b : count_kind is_end (e ∷ es) ≡ one (is_end e.kind) + count_kind is_end es = refl in
    let d : count_kind is_done (e ∷ es) ≡ one (is_done e.kind) + count_kind is_done es = refl in
    (omega (arith, o0, r0, a, b), omega (arith, o1, r1, d))

-- ---- without second copies

abbrev pub IsAlone : TaskState → Type 0
IsAlone s = (s.copies ≤ 1) × (s.done ≡ true → s.copies ≡ 0)

-- a task that is started waited
pub alone_started : (g : Settings) → g.backups ≡ false → (m : Machine) (op task : ℕ) → CanStart g m op task → IsAlone (one_copy_more (state_at g.plan m op task))
alone_started g off m op task (inl (ready, w)) = ((let c = w.1 in omega (arith, c)), (λ done. absurd (cc (done, w.0))))
alone_started g off m op task (inr (n, on, single)) = absurd (cc (on, off))

module _ (g : Settings) (off : g.backups ≡ false) (old : Machine) (kept : Kept g.plan g.retries old) (e : Entry) (new : Machine) (alone : All IsAlone old.tasks) where
  alone_at : IsTask g.plan e.op e.task → IsAlone (state_at g.plan old e.op e.task)
  alone_at is = alone (task_number g.plan e.op e.task) no_task (inside g.plan g.retries old kept e.op e.task is no_task)

  -- a copy of a task that ends: the task had one, and has none
  pub alone_ended : Runs old e.worker e.op e.task → (s : TaskState) → s.copies ≡ (state_at g.plan old e.op e.task).copies - 1 → (ended : Option Ending) → new ≡ copy_ended g.plan old e s ended
      → All IsAlone new.tasks
  alone_ended runs s less ended is =
      let c = counted g.plan g.retries old kept e.worker e.op e.task runs in
      let a = (alone_at c.0).0 in
      subst (All IsAlone) (sym (ap (λ (m : Machine). m.tasks) is))
      (All-set IsAlone old.tasks (task_number g.plan e.op e.task) s (omega (arith, a, less), (λ done. omega (arith, a, less))) alone)

  pub alone_step : (kind : EventKind) → StepOf g old kind e new → new.ended ≡ None
      → All IsAlone new.tasks × (old.ended ≡ None) × (one (is_end kind) ≡ one (is_done kind) + one (is_failed kind))
  alone_step Start step none = (
    subst (All IsAlone) (sym (ap (λ (m : Machine). m.tasks) step.1))
        (All-set IsAlone old.tasks (task_number g.plan e.op e.task) (one_copy_more (state_at g.plan old e.op e.task)) (alone_started g off old e.op e.task step.0.can) alone),
    step.0.going,
    refl,
  )
  alone_step Done step none = (alone_ended step.0.runs (done_now (state_at g.plan old e.op e.task)) refl None step.1, step.0.going, refl)
  alone_step Failed step none =
      (alone_ended step.0.runs (failed_now (state_at g.plan old e.op e.task)) refl (ending_after g.retries (state_at g.plan old e.op e.task).failures e.op e.task) step.1, step.0.going, refl)
  alone_step Halt step none = absurd (not_some new.ended (Halted step.1.0) (ap (λ (m : Machine). m.ended) step.1.2) none)
    where
      not_some : (o : Option Ending) (x : Ending) → o ≡ Some x → o ≡ None → ⊥
      not_some o x e n = cc (e, n)
  alone_step Late step none =
      let c = counted g.plan g.retries old kept e.worker e.op e.task step.0.runs in
      let some = c.1 in
      let ended = sym (ap (λ (m : Machine). m.ended) step.1) ∙ none in
      absurd (elim step.0.late [
        | inl done ↦ (let z = (alone_at c.0).1 done in omega (arith, z, some))
        | inr ending ↦ both old.ended ending.0 ending.1 ended
      ])
    where
      both : (o : Option Ending) (x : Ending) → o ≡ Some x → o ≡ None → ⊥
      both o x e n = cc (e, n)

going_step : (g : Settings) (old : Machine) (e : Entry) (new : Machine) (kind : EventKind) → StepOf g old kind e new → new.ended ≡ None → old.ended ≡ None
going_step g old e new Start step none = step.0.going
going_step g old e new Done step none = step.0.going
going_step g old e new Failed step none = step.0.going
going_step g old e new Halt step none = step.0.going
going_step g old e new Late step none = sym (ap (λ (m : Machine). m.ended) step.1) ∙ none

-- a machine that goes on at the end went on before
pub going_run : (g : Settings) (old : Machine) (es : List Entry) (new : Machine) → Run g old es new → new.ended ≡ None → old.ended ≡ None
going_run g old [] new is none = sym (ap (λ (m : Machine). m.ended) is) ∙ none
going_run g old (e ∷ es) new (mid, step, run) none = going_step g old e mid e.kind step (going_run g mid es new run none)

alone_run : (g : Settings) → g.backups ≡ false → (old : Machine) (es : List Entry) (new : Machine) → Kept g.plan g.retries old → All IsAlone old.tasks → Run g old es new → new.ended ≡ None
    → count_kind is_end es ≡ count_kind is_done es + count_kind is_failed es
alone_run g off old [] new kept alone is none = refl
alone_run g off old (e ∷ es) new kept alone (mid, step, run) none =
    let (still, going, ends) = alone_step g off old kept e mid alone e.kind step (going_run g mid es new run none) in
    let rest = alone_run g off mid es new (step_kept g old e mid kept step).0 still run none in
    let b : count_kind is_end (e ∷ es) ≡ one (is_end e.kind) + count_kind is_end es = refl in
    let d : count_kind is_done (e ∷ es) ≡ one (is_done e.kind) + count_kind is_done es = refl in
    let f : count_kind is_failed (e ∷ es) ≡ one (is_failed e.kind) + count_kind is_failed es = refl in
    omega (arith, ends, rest, b, d, f)

-- Where backups are off and the machine goes on, each start failed, made its task done, or runs.
pub starts_are : (g : Settings) (done : List Bool) (es : List Entry) (new : Machine) → length done ≡ task_count g.plan → g.backups ≡ false → Run g (opening done) es new → new.ended ≡ None
    → count_kind is_start es + undone_among new.tasks ≡ count_kind is_failed es + undone_among (opening done).tasks + length new.copies
starts_are g done es new all off run none =
    let kept = opening_kept g.plan g.retries done all in
    let (a, b) = count_run g (opening done) es new kept run in
    let z = alone_run g off (opening done) es new kept (All-map IsAlone opened done (λ k d l. (omega arith, (λ so. refl)))) run none in
    omega (arith, a, b, z)
