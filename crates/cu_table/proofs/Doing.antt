-- What a step makes done, which tasks may run, and which faults end a run.
use Rattle.std.proofs.Common.{◌≡◌, ◌⊎◌, inl, inr, ℕ, zero, suc, ◌+◌, ◌==◌, Bool, true, false, cond, List, [], ◌∷◌, get_or, set, All, Option, Some, None, refl, sym, ap, ◌∙◌, subst, arith}
use Rattle.std.specs.Prelude.{◌&&◌}
use Rattle.std.proofs.lemmas.Bool.{cases_Bool, and_parts, eqb-true, cond-false}
use Rattle.std.proofs.lemmas.List.Elements.{All-nil, All-push, All-contains}
use Rattle.cu_store.specs.declared.faults.TaskFault.{TaskFault}
use Rattle.cu_op.specs.PlanView.{PlanView}
use Rattle.cu_history.specs.declared.entry.Entry.{Entry}
use Rattle.cu_history.specs.declared.entry.EventKind.{EventKind}
use Rattle.cu_history.specs.declared.entry.EventKind.TheVariants.{Start, Done, Failed, Halt, Late}
use Rattle.cu_history.specs.History.{is_start, count_of_task}
use Rattle.cu_table.specs.declared.state.Ending.{Ending}
use Rattle.cu_table.specs.declared.state.Ending.TheVariants.{Broken, Halted}
use Rattle.cu_table.specs.declared.state.RunningCopy.{RunningCopy}
use Rattle.cu_table.specs.declared.state.TaskState.{TaskState}
use Rattle.cu_table.specs.Numbers.{IsTask, task_number}
use Rattle.cu_table.specs.Machine.{Machine, no_task, state_at, IsDone, AreInputsDone, opening, with_task, without, copy_of, one_copy_more, one_copy_less, done_now, failed_now}
use Rattle.cu_table.specs.Step.{Settings, Step, StepOf, CanStart, Halts, Run, Replays}
use Rattle.cu_table.proofs.Copies.{All-without, some_copy}
use Rattle.cu_table.proofs.Keeping.{Kept, counted, state_same, state_other, same_task, step_kept, opening_kept, replay_kept}

-- ---- what becomes done

-- where a task got another state, a task that is done then was so before, or it is that one
changed_done : (p : PlanView) (retries : ℕ) (m : Machine) → Kept p retries m → (o k : ℕ) → IsTask p o k → (s : TaskState) (op task : ℕ) → IsTask p op task
    → (get_or (with_task p m o k s) (task_number p op task) no_task).done ≡ true → IsDone p m op task ⊎ ((o ≡ op) × (k ≡ task) × (s.done ≡ true))
changed_done p retries m kept o k is s op task that d =
    elim (same_task o k op task) [
      | inl same ↦ inr (
        same.0,
        same.1,
        sym (ap (λ (t : TaskState). t.done) (state_same p retries m kept o k is s))
            ∙ ap (λ (x : ℕ × ℕ). (get_or (with_task p m o k s) (task_number p x.0 x.1) no_task).done) (λ i. (same.0 i, same.1 i)) ∙ d,
      )
      | inr apart ↦ inl (sym (ap (λ (t : TaskState). t.done) (state_other p retries m kept o k is s op task that apart)) ∙ d)
    ]

-- where that state is done only if the old one was
kept_done : (p : PlanView) (retries : ℕ) (m n : Machine) → Kept p retries m → (o k : ℕ) → IsTask p o k → (s : TaskState) → s.done ≡ (state_at p m o k).done → n.tasks ≡ with_task p m o k s
    → (op task : ℕ) → IsTask p op task → IsDone p n op task → IsDone p m op task
kept_done p retries m n kept o k is s same now op task that d =
    elim (changed_done p retries m kept o k is s op task that (sym (ap (λ (ts : List TaskState). (get_or ts (task_number p op task) no_task).done) now) ∙ d)) [
      | inl was ↦ was
      | inr there ↦ subst (λ (x : ℕ × ℕ). IsDone p m x.0 x.1) (λ i. (there.0 i, there.1 i)) (sym same ∙ there.2)
    ]

abbrev MadeDone : PlanView → Machine → EventKind → Entry → ℕ → ℕ → Type 0
MadeDone p old kind e op task = IsDone p old op task ⊎ ((kind ≡ Done) × (e.op ≡ op) × (e.task ≡ task))

done_step : (g : Settings) (kind : EventKind) (old new : Machine) (e : Entry) → Kept g.plan g.retries old → StepOf g old kind e new → (op task : ℕ) → IsTask g.plan op task
    → IsDone g.plan new op task → MadeDone g.plan old kind e op task
done_step g Start old new e kept (may, now) op task that d =
    inl (kept_done g.plan g.retries old new kept e.op e.task may.task (one_copy_more (state_at g.plan old e.op e.task)) refl (ap (λ (m : Machine). m.tasks) now) op task that d)
done_step g Failed old new e kept (may, now) op task that d =
    inl (kept_done g.plan g.retries old new kept e.op e.task (counted g.plan g.retries old kept e.worker e.op e.task may.runs).0
    (failed_now (state_at g.plan old e.op e.task)) refl (ap (λ (m : Machine). m.tasks) now) op task that d)
done_step g Halt old new e kept (may, (fault, halts, now)) op task that d =
    inl (kept_done g.plan g.retries old new kept e.op e.task (counted g.plan g.retries old kept e.worker e.op e.task may.runs).0
    (one_copy_less (state_at g.plan old e.op e.task)) refl (ap (λ (m : Machine). m.tasks) now) op task that d)
done_step g Late old new e kept (may, now) op task that d =
    inl (kept_done g.plan g.retries old new kept e.op e.task (counted g.plan g.retries old kept e.worker e.op e.task may.runs).0
    (one_copy_less (state_at g.plan old e.op e.task)) refl (ap (λ (m : Machine). m.tasks) now) op task that d)
done_step g Done old new e kept (may, now) op task that d =
    elim (changed_done g.plan g.retries old kept e.op e.task (counted g.plan g.retries old kept e.worker e.op e.task may.runs).0 (done_now (state_at g.plan old e.op e.task)) op task that
    (sym (ap (λ (m : Machine). (get_or m.tasks (task_number g.plan op task) no_task).done) now) ∙ d)) [
      | inl was ↦ inl was
      | inr there ↦ inr (refl, there.0, there.1)
    ]

made_done : (g : Settings) (done : List Bool) (history : List Entry) (old new : Machine) (e : Entry) → Replays g done history old → Step g old e new
    → (op task : ℕ) → IsTask g.plan op task → IsDone g.plan new op task → IsDone g.plan old op task ⊎ ((e.kind ≡ Done) × (e.op ≡ op) × (e.task ≡ task))
made_done g done history old new e replay step op task that d = done_step g e.kind old new e (replay_kept g done history old replay).0 step op task that d

-- ---- what stays done

set_done : (ts : List TaskState) (i j : ℕ) (s : TaskState) → ((get_or ts i no_task).done ≡ true → s.done ≡ true) → (get_or ts j no_task).done ≡ true → (get_or (set ts i s) j no_task).done ≡ true
set_done [] i j s f d = d
set_done (x ∷ xs) zero zero s f d = f d
set_done (x ∷ xs) zero (suc j) s f d = d
set_done (x ∷ xs) (suc i) zero s f d = d
set_done (x ∷ xs) (suc i) (suc j) s f d = set_done xs i j s f d

stays_by : (p : PlanView) (old new : Machine) (o k : ℕ) (s : TaskState) → ((state_at p old o k).done ≡ true → s.done ≡ true) → new.tasks ≡ with_task p old o k s
    → (op task : ℕ) → IsDone p old op task → IsDone p new op task
stays_by p old new o k s f now op task d =
    ap (λ (ts : List TaskState). (get_or ts (task_number p op task) no_task).done) now ∙ set_done old.tasks (task_number p o k) (task_number p op task) s f d

pub stays_done : (g : Settings) (kind : EventKind) (old new : Machine) (e : Entry) → StepOf g old kind e new → (op task : ℕ) → IsDone g.plan old op task → IsDone g.plan new op task
stays_done g Start old new e (may, now) op task d = stays_by g.plan old new e.op e.task (one_copy_more (state_at g.plan old e.op e.task)) (λ x. x) (ap (λ (m : Machine). m.tasks) now) op task d
stays_done g Done old new e (may, now) op task d = stays_by g.plan old new e.op e.task (done_now (state_at g.plan old e.op e.task)) (λ x. refl) (ap (λ (m : Machine). m.tasks) now) op task d
stays_done g Failed old new e (may, now) op task d = stays_by g.plan old new e.op e.task (failed_now (state_at g.plan old e.op e.task)) (λ x. x) (ap (λ (m : Machine). m.tasks) now) op task d
stays_done g Halt old new e (may, (fault, halts, now)) op task d =
    stays_by g.plan old new e.op e.task (one_copy_less (state_at g.plan old e.op e.task)) (λ x. x) (ap (λ (m : Machine). m.tasks) now) op task d
stays_done g Late old new e (may, now) op task d = stays_by g.plan old new e.op e.task (one_copy_less (state_at g.plan old e.op e.task)) (λ x. x) (ap (λ (m : Machine). m.tasks) now) op task d

-- the task of an entry Done is done
own_done : (g : Settings) (kind : EventKind) (old new : Machine) (e : Entry) → Kept g.plan g.retries old → StepOf g old kind e new → kind ≡ Done → IsDone g.plan new e.op e.task
own_done g Done old new e kept (may, now) is =
    ap (λ (m : Machine). (get_or m.tasks (task_number g.plan e.op e.task) no_task).done) now
    ∙ ap (λ (t : TaskState). t.done) (state_same g.plan g.retries old kept e.op e.task (counted g.plan g.retries old kept e.worker e.op e.task may.runs).0 (done_now (state_at g.plan old e.op e.task)))
own_done g Start old new e kept step is = absurd (cc)
own_done g Failed old new e kept step is = absurd (cc)
own_done g Halt old new e kept step is = absurd (cc)
own_done g Late old new e kept step is = absurd (cc)

-- a step makes a task done exactly if it is the task's Done
pub done_exact : (g : Settings) (done : List Bool) (history : List Entry) (old new : Machine) (e : Entry) (op task : ℕ) → Replays g done history old → Step g old e new → IsTask g.plan op task
    → (IsDone g.plan new op task → IsDone g.plan old op task ⊎ ((e.kind ≡ Done) × (e.op ≡ op) × (e.task ≡ task)))
    × (IsDone g.plan old op task ⊎ ((e.kind ≡ Done) × (e.op ≡ op) × (e.task ≡ task)) → IsDone g.plan new op task)
done_exact g done history old new e op task replay step that = (
  made_done g done history old new e replay step op task that,
  λ h. elim h [
    | inl was ↦ stays_done g e.kind old new e step op task was
    | inr here ↦ subst (λ (x : ℕ × ℕ). IsDone g.plan new x.0 x.1) (λ i. (here.1 i, here.2 i)) (own_done g e.kind old new e (replay_kept g done history old replay).0 step here.0)
  ],
)

-- ---- along a history

pub stays_run : (g : Settings) (old : Machine) (es : List Entry) (new : Machine) (op task : ℕ) → Run g old es new → IsDone g.plan old op task → IsDone g.plan new op task
stays_run g old [] new op task is d = subst (λ (m : Machine). IsDone g.plan m op task) (sym is) d
stays_run g old (e ∷ es) new op task (mid, step, run) d = stays_run g mid es new op task run (stays_done g e.kind old mid e step op task d)

-- what can be started isn't done
can_undone : (g : Settings) (m : Machine) (op task : ℕ) → CanStart g m op task → (state_at g.plan m op task).done ≡ false
can_undone g m op task (inl (ready, waits)) = waits.0
can_undone g m op task (inr (none, on, single)) = single.0

-- an entry that isn't a Start of a task that is done
no_start : (g : Settings) (kind : EventKind) (old mid : Machine) (e : Entry) → StepOf g old kind e mid → (op task : ℕ) → IsDone g.plan old op task
    → (is_start kind && (e.op == op) && (e.task == task)) ≡ false
no_start g Start old mid e (may, now) op task d =
    elim (cases_Bool ((e.op == op) && (e.task == task))) [
      | inl here ↦
          let (a, b) = and_parts (e.op == op) (e.task == task) here in
          let undone = can_undone g old e.op e.task may.can in
          let done = subst (λ (x : ℕ × ℕ). IsDone g.plan old x.0 x.1) (λ i. (sym (eqb-true e.op op a) i, sym (eqb-true e.task task b) i)) d in
          absurd (cc (undone, done))
      | inr other ↦ other
    ]
no_start g Done old mid e step op task d = refl
no_start g Failed old mid e step op task d = refl
no_start g Halt old mid e step op task d = refl
no_start g Late old mid e step op task d = refl

-- a task that is done isn't started again
pub never_again : (g : Settings) (old : Machine) (es : List Entry) (new : Machine) (op task : ℕ) → Run g old es new → IsDone g.plan old op task → count_of_task is_start op task es ≡ 0
never_again g old [] new op task is d = refl
never_again g old (e ∷ es) new op task (mid, step, run) d =
    let a = cond-false {A = ℕ} (is_start e.kind && (e.op == op) && (e.task == task)) 1 0 (no_start g e.kind old mid e step op task d) in
    let r = never_again g mid es new op task run (stays_done g e.kind old mid e step op task d) in
    let h : count_of_task is_start op task (e ∷ es) ≡ cond {A = ℕ} (is_start e.kind && (e.op == op) && (e.task == task)) 1 0 + count_of_task is_start op task es = refl in
    omega (arith, a, r, h)

-- ---- a task that runs is ready

abbrev RunReady : PlanView → Machine → Type 0
RunReady p m = All (λ (c : RunningCopy). AreInputsDone p m c.op c.task) m.copies

ready_more : (g : Settings) (kind : EventKind) (old new : Machine) (e : Entry) → StepOf g old kind e new → (op task : ℕ) → AreInputsDone g.plan old op task → AreInputsDone g.plan new op task
ready_more g kind old new e step op task ready k t makes = stays_done g kind old new e step k t (ready k t makes)

can_ready : (g : Settings) (m : Machine) (op task : ℕ) → Kept g.plan g.retries m → IsTask g.plan op task → RunReady g.plan m → CanStart g m op task → AreInputsDone g.plan m op task
can_ready g m op task kept is ready (inl first) = first.0
can_ready g m op task kept is ready (inr (none, backups, single)) =
    let n = kept.counts op task is in
    let one = single.1 in
    let (worker, among) = some_copy op task m.copies (omega (arith, n, one)) in
    All-contains (λ (c : RunningCopy). AreInputsDone g.plan m c.op c.task) m.copies (record { worker = worker; op = op; task = task }) ready among

ended_ready : (g : Settings) (kind : EventKind) (old new : Machine) (e : Entry) → StepOf g old kind e new → new.copies ≡ without e.worker old.copies → RunReady g.plan old → RunReady g.plan new
ended_ready g kind old new e step now ready =
    let P = λ (c : RunningCopy). AreInputsDone g.plan new c.op c.task in
    subst (All P) (sym now) (All-without P e.worker old.copies (λ i d low. ready_more g kind old new e step (get_or old.copies i d).op (get_or old.copies i d).task (ready i d low)))

ready_step : (g : Settings) (kind : EventKind) (old new : Machine) (e : Entry) → Kept g.plan g.retries old → StepOf g old kind e new → RunReady g.plan old → RunReady g.plan new
ready_step g Start old new e kept (may, now) ready =
    let P = λ (c : RunningCopy). AreInputsDone g.plan new c.op c.task in
    subst (All P) (sym (ap (λ (m : Machine). m.copies) now))
    (All-push P old.copies (copy_of e)
    (λ i d low. ready_more g Start old new e (may, now) (get_or old.copies i d).op (get_or old.copies i d).task (ready i d low))
    (ready_more g Start old new e (may, now) e.op e.task (can_ready g old e.op e.task kept may.task ready may.can)))
ready_step g Done old new e kept (may, now) ready = ended_ready g Done old new e (may, now) (ap (λ (m : Machine). m.copies) now) ready
ready_step g Failed old new e kept (may, now) ready = ended_ready g Failed old new e (may, now) (ap (λ (m : Machine). m.copies) now) ready
ready_step g Halt old new e kept (may, (fault, halts, now)) ready = ended_ready g Halt old new e (may, (fault, halts, now)) (ap (λ (m : Machine). m.copies) now) ready
ready_step g Late old new e kept (may, now) ready = ended_ready g Late old new e (may, now) (ap (λ (m : Machine). m.copies) now) ready

ready_run : (g : Settings) (old : Machine) (es : List Entry) (new : Machine) → Kept g.plan g.retries old → Run g old es new → RunReady g.plan old → RunReady g.plan new
ready_run g old [] new kept is ready = subst (RunReady g.plan) (sym is) ready
ready_run g old (e ∷ es) new kept (mid, step, run) ready =
    ready_run g mid es new (step_kept g old e mid kept step).0 run (ready_step g e.kind old mid e kept step ready)

start_can : (g : Settings) (kind : EventKind) (m new : Machine) (e : Entry) → kind ≡ Start → StepOf g m kind e new → IsTask g.plan e.op e.task × CanStart g m e.op e.task
start_can g Start m new e is (may, now) = (may.task, may.can)
start_can g Done m new e is step = absurd (cc)
start_can g Failed m new e is step = absurd (cc)
start_can g Halt m new e is step = absurd (cc)
start_can g Late m new e is step = absurd (cc)

pub started_ready : (g : Settings) (done : List Bool) (history : List Entry) (m new : Machine) (e : Entry) → Replays g done history m → Step g m e new → e.kind ≡ Start
    → AreInputsDone g.plan m e.op e.task
started_ready g done history m new e (long, run) step is =
    let (task, can) = start_can g e.kind m new e is step in
    let first = opening_kept g.plan g.retries done long in
    can_ready g m e.op e.task (replay_kept g done history m (long, run)).0 task
    (ready_run g (opening done) history m first run (All-nil (λ (c : RunningCopy). AreInputsDone g.plan (opening done) c.op c.task))) can

-- ---- which faults end a run

abbrev EndsSo : Option Ending → Type 0
EndsSo o = (fault : TaskFault) → o ≡ Some (Halted fault) → Halts fault

no_end : (fault : TaskFault) → ◌≡◌ {A = Option Ending} None (Some (Halted fault)) → ⊥
no_end fault e = cc

broken_end : (b : Bool) (op task : ℕ) (fault : TaskFault) → cond b (Some (Broken op task)) None ≡ Some (Halted fault) → ⊥
broken_end true op task fault e = cc
broken_end false op task fault e = cc

ends_step : (g : Settings) (kind : EventKind) (old mid : Machine) (e : Entry) → StepOf g old kind e mid → EndsSo old.ended → EndsSo mid.ended
ends_step g Start old mid e (may, now) so fault is = so fault (sym (ap (λ (m : Machine). m.ended) now) ∙ is)
ends_step g Done old mid e (may, now) so fault is = absurd (no_end fault (sym (ap (λ (m : Machine). m.ended) now) ∙ is))
ends_step g Failed old mid e (may, now) so fault is = absurd (broken_end _ e.op e.task fault (sym (ap (λ (m : Machine). m.ended) now) ∙ is))
ends_step g Halt old mid e (may, (f, halts, now)) so fault is =
    let same : Some (Halted f) ≡ Some (Halted fault) = sym (ap (λ (m : Machine). m.ended) now) ∙ is in
    subst Halts (fault_same f fault same) halts
  where
    fault_same : (f fault : TaskFault) → Some (Halted f) ≡ Some (Halted fault) → f ≡ fault
    fault_same f fault e = cc
ends_step g Late old mid e (may, now) so fault is = so fault (sym (ap (λ (m : Machine). m.ended) now) ∙ is)

ends_run : (g : Settings) (old : Machine) (es : List Entry) (new : Machine) → Run g old es new → EndsSo old.ended → EndsSo new.ended
ends_run g old [] new is so = subst (λ (m : Machine). EndsSo m.ended) (sym is) so
ends_run g old (e ∷ es) new (mid, step, run) so = ends_run g mid es new run (ends_step g e.kind old mid e step so)

pub halts_so : (g : Settings) (done : List Bool) (history : List Entry) (m : Machine) (fault : TaskFault) → Replays g done history m → m.ended ≡ Some (Halted fault) → Halts fault
halts_so g done history m fault (long, run) is = ends_run g (opening done) history m run (λ f e. absurd (no_end f e)) fault is
