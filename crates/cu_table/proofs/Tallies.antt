-- The entries of one task, counted; and a machine that a task broke.
use Rattle.std.proofs.Common.{◌≡◌, ◌≢◌, inl, inr, ℕ, ◌+◌, ◌<◌, ◌≤◌, ◌==◌, Bool, true, false, cond, List, [], ◌∷◌, length, get_or, map, Option, Some, None, refl, ap, sym, ◌∙◌, subst, arith}
use Rattle.std.specs.Prelude.{◌&&◌, if◌then◌else◌}
use Rattle.std.proofs.lemmas.Bool.{cases_Bool, eqb-true, eq-eqb, cond-true, cond-false}
use Rattle.std.proofs.lemmas.List.{length-map}
use Rattle.std.proofs.lemmas.List.Elements.{All-map}
use Rattle.cu_store.specs.declared.faults.TaskFault.{TaskFault}
use Rattle.cu_op.specs.PlanView.{PlanView}
use Rattle.cu_history.specs.declared.entry.Entry.{Entry}
use Rattle.cu_history.specs.declared.entry.EventKind.{EventKind}
use Rattle.cu_history.specs.declared.entry.EventKind.TheVariants.{Start, Done, Failed, Halt, Late}
use Rattle.cu_history.specs.History.{is_start, is_done, is_failed, count_of_task}
use Rattle.cu_table.specs.declared.state.Ending.{Ending}
use Rattle.cu_table.specs.declared.state.Ending.TheVariants.{Broken, Halted}
use Rattle.cu_table.specs.declared.state.TaskState.{TaskState}
use Rattle.cu_table.specs.Numbers.{IsTask, task_count, task_number}
use Rattle.cu_table.specs.Machine.{Machine, no_task, state_at, IsDone, opened, opening, with_task, one_copy_more, one_copy_less, done_now, failed_now}
use Rattle.cu_table.specs.Own.{is_end}
use Rattle.cu_table.specs.Step.{Settings, StepOf, Run, Replays, ending_after}
use Rattle.cu_table.specs.Table.{undone_weight}
use Rattle.cu_table.proofs.Numbers.{number_below}
use Rattle.cu_table.proofs.Copies.{a_copy, weight, weight_own, weight_other}
use Rattle.cu_table.proofs.Keeping.{Kept, counted, state_same, state_other, same_task, step_kept, opening_kept}

-- ---- what one entry makes of each task

-- 1 where an entry is of this kind and this task
abbrev pub hit : (EventKind → Bool) → EventKind → Entry → ℕ → ℕ → ℕ
hit f kind e op task = if f kind && (e.op == op) && (e.task == task) then 1 else 0

-- how a task's numbers change where an entry starts it, ends a copy of it, fails or makes it done so often
pub record Tally (before after : TaskState) (starts ends fails dones : ℕ) : Type 0 where
  pub copies : starts + before.copies ≡ ends + after.copies
  pub failures : after.failures ≡ before.failures + fails
  pub undone : dones + undone_weight after ≡ undone_weight before

same_tally : (s : TaskState) → Tally s s 0 0 0 0
same_tally s = record { copies = refl; failures = omega arith; undone = omega arith }

module _ (p : PlanView) (retries : ℕ) (old : Machine) (kept : Kept p retries old) (e : Entry) (is : IsTask p e.op e.task) (s : TaskState) (new : Machine) (now : new.tasks ≡ with_task p old e.op e.task s) where
  -- the entry's own task gets the new state, and each other task stays
  by_task : (Q : TaskState → TaskState → ℕ → Type 0) → Q (state_at p old e.op e.task) s 1 → ((x : TaskState) → Q x x 0)
      → (op task : ℕ) → IsTask p op task → Q (state_at p old op task) (state_at p new op task) (weight op task (a_copy e.worker e.op e.task))
  by_task Q own other op task that =
      elim (same_task e.op e.task op task) [
        | inl same ↦
            subst (λ (x : ℕ × ℕ). Q (state_at p old x.0 x.1) (state_at p new x.0 x.1) (weight x.0 x.1 (a_copy e.worker e.op e.task))) (λ i. (same.0 i, same.1 i))
            (subst (λ (t : TaskState). Q (state_at p old e.op e.task) t (weight e.op e.task (a_copy e.worker e.op e.task)))
            (sym (ap (λ (ts : List TaskState). get_or ts (task_number p e.op e.task) no_task) now ∙ state_same p retries old kept e.op e.task is s))
            (subst (λ (n : ℕ). Q (state_at p old e.op e.task) s n) (sym (weight_own e.op e.task e.worker)) own))
        | inr apart ↦
            subst (λ (t : TaskState). Q (state_at p old op task) t (weight op task (a_copy e.worker e.op e.task)))
            (sym (ap (λ (ts : List TaskState). get_or ts (task_number p op task) no_task) now ∙ state_other p retries old kept e.op e.task is s op task that apart))
            (subst (λ (n : ℕ). Q (state_at p old op task) (state_at p old op task) n) (sym (weight_other e.op e.task e.worker op task apart)) (other (state_at p old op task)))
      ]

module _ (g : Settings) (old : Machine) (kept : Kept g.plan g.retries old) (e : Entry) (new : Machine) (op task : ℕ) (that : IsTask g.plan op task) where
  abbrev Tells : EventKind → Type 0
  Tells kind = Tally (state_at g.plan old op task) (state_at g.plan new op task) (hit is_start kind e op task) (hit is_end kind e op task) (hit is_failed kind e op task) (hit is_done kind e op task)

  tally_step : (kind : EventKind) → StepOf g old kind e new → Tells kind
  tally_step Start (may, now) =
      by_task g.plan g.retries old kept e may.task (one_copy_more (state_at g.plan old e.op e.task)) new (ap (λ (m : Machine). m.tasks) now) (λ a b n. Tally a b n 0 0 0)
      (record { copies = omega arith; failures = omega arith; undone = omega arith })
      same_tally op task that
  tally_step Done (may, now) =
      let c = counted g.plan g.retries old kept e.worker e.op e.task may.runs in
      let one = c.1 in
      let w = cond-false {A = ℕ} (state_at g.plan old e.op e.task).done 0 1 may.undone in
      by_task g.plan g.retries old kept e c.0 (done_now (state_at g.plan old e.op e.task)) new (ap (λ (m : Machine). m.tasks) now) (λ a b n. Tally a b 0 n 0 n)
      (record { copies = omega (arith, one); failures = omega arith; undone = omega (arith, w) })
      same_tally op task that
  tally_step Failed (may, now) =
      let c = counted g.plan g.retries old kept e.worker e.op e.task may.runs in
      let one = c.1 in
      by_task g.plan g.retries old kept e c.0 (failed_now (state_at g.plan old e.op e.task)) new (ap (λ (m : Machine). m.tasks) now) (λ a b n. Tally a b 0 n n 0)
      (record { copies = omega (arith, one); failures = refl; undone = omega arith })
      same_tally op task that
  tally_step Halt (may, (fault, halts, now)) =
      let c = counted g.plan g.retries old kept e.worker e.op e.task may.runs in
      let one = c.1 in
      by_task g.plan g.retries old kept e c.0 (one_copy_less (state_at g.plan old e.op e.task)) new (ap (λ (m : Machine). m.tasks) now) (λ a b n. Tally a b 0 n 0 0)
      (record { copies = omega (arith, one); failures = omega arith; undone = omega arith })
      same_tally op task that
  tally_step Late (may, now) =
      let c = counted g.plan g.retries old kept e.worker e.op e.task may.runs in
      let one = c.1 in
      by_task g.plan g.retries old kept e c.0 (one_copy_less (state_at g.plan old e.op e.task)) new (ap (λ (m : Machine). m.tasks) now) (λ a b n. Tally a b 0 n 0 0)
      (record { copies = omega (arith, one); failures = omega arith; undone = omega arith })
      same_tally op task that

-- ---- what a history makes of each task

abbrev pub TallyOf : Settings → Machine → List Entry → Machine → ℕ → ℕ → Type 0
TallyOf g old es new op task =
    Tally (state_at g.plan old op task) (state_at g.plan new op task)
    (count_of_task is_start op task es) (count_of_task is_end op task es) (count_of_task is_failed op task es) (count_of_task is_done op task es)

pub tally_run : (g : Settings) (old : Machine) (es : List Entry) (new : Machine) → Kept g.plan g.retries old → Run g old es new → (op task : ℕ) → IsTask g.plan op task → TallyOf g old es new op task
tally_run g old [] new kept is op task that = subst (λ (m : Machine). TallyOf g old [] m op task) (sym is) (same_tally (state_at g.plan old op task))
tally_run g old (e ∷ es) new kept (mid, step, run) op task that =
    let one = tally_step g old kept e mid op task that e.kind step in
    let rest = tally_run g mid es new (step_kept g old e mid kept step).0 run op task that in
    let c = one.copies in
    let f = one.failures in
    let u = one.undone in
    let cs = rest.copies in
    let fs = rest.failures in
    let us = rest.undone in
    let s : count_of_task is_start op task (e ∷ es) ≡ hit is_start e.kind e op task + count_of_task is_start op task es = refl in
    let n : count_of_task is_end op task (e ∷ es) ≡ hit is_end e.kind e op task + count_of_task is_end op task es = refl in
    let l : count_of_task is_failed op task (e ∷ es) ≡ hit is_failed e.kind e op task + count_of_task is_failed op task es = refl in
    let d : count_of_task is_done op task (e ∷ es) ≡ hit is_done e.kind e op task + count_of_task is_done op task es = refl in
    record { copies = omega (arith, c, cs, s, n); failures = omega (arith, f, fs, l); undone = omega (arith, u, us, d) }

-- a task at first has failed never, and no copy of it runs
opening_fresh : (p : PlanView) (done : List Bool) → length done ≡ task_count p → (op task : ℕ) → IsTask p op task
    → ((state_at p (opening done) op task).failures ≡ 0) × ((state_at p (opening done) op task).copies ≡ 0)
opening_fresh p done all op task is =
    let n : task_number p op task < length (map opened done) = let b = number_below p op task is in let l = length-map done opened in omega (arith, b, l, all) in (
      All-map (λ (s : TaskState). s.failures ≡ 0) opened done (λ k d l. refl) (task_number p op task) no_task n,
      All-map (λ (s : TaskState). s.copies ≡ 0) opened done (λ k d l. refl) (task_number p op task) no_task n,
    )

module _ (g : Settings) (done : List Bool) (history : List Entry) (m : Machine) (op task : ℕ) (replay : Replays g done history m) (is : IsTask g.plan op task) where
  tally : TallyOf g (opening done) history m op task
  tally = tally_run g (opening done) history m (opening_kept g.plan g.retries done replay.0) replay.1 op task is

  pub starts_of_task : count_of_task is_start op task history ≡ count_of_task is_end op task history + (state_at g.plan m op task).copies
  starts_of_task = let a = tally.copies in let z = (opening_fresh g.plan done replay.0 op task is).1 in omega (arith, a, z)

  pub failures_of_task : (state_at g.plan m op task).failures ≡ count_of_task is_failed op task history
  failures_of_task = let a = tally.failures in let z = (opening_fresh g.plan done replay.0 op task is).0 in omega (arith, a, z)

  pub done_of_task : count_of_task is_done op task history + undone_weight (state_at g.plan m op task) ≡ undone_weight (state_at g.plan (opening done) op task)
  done_of_task = tally.undone

-- ---- a machine that a task broke

-- it failed once more than it is tried again, and isn't done
pub record IsBroken (g : Settings) (m : Machine) (op task : ℕ) : Type 0 where
  pub listed : IsTask g.plan op task
  pub failures : (state_at g.plan m op task).failures ≡ g.retries + 1
  pub undone : (state_at g.plan m op task).done ≡ false

abbrev EndsAt : Settings → Machine → Type 0
EndsAt g m = (op task : ℕ) → m.ended ≡ Some (Broken op task) → IsBroken g m op task

not_broken : (op task : ℕ) → ◌≡◌ {A = Option Ending} None (Some (Broken op task)) → ⊥
not_broken op task e = cc

halted_broken : (fault : TaskFault) (op task : ℕ) → Some (Halted fault) ≡ Some (Broken op task) → ⊥
halted_broken fault op task e = cc

broken_same : (o k op task : ℕ) → Some (Broken o k) ≡ Some (Broken op task) → (o ≡ op) × (k ≡ task)
broken_same o k op task e = (cc e, cc e)

-- the end that a failure makes
after_broken : (retries failures o k op task : ℕ) → ending_after retries failures o k ≡ Some (Broken op task) → (failures ≡ retries) × (o ≡ op) × (k ≡ task)
after_broken retries failures o k op task is =
    elim (cases_Bool (failures == retries)) [
      | inl last ↦
          let (p, q) = broken_same o k op task (sym (cond-true (failures == retries) (Some (Broken o k)) None last) ∙ is) in
          (eqb-true failures retries last, p, q)
      | inr more ↦ absurd (not_broken op task (sym (cond-false (failures == retries) (Some (Broken o k)) None more) ∙ is))
    ]

module _ (g : Settings) (old : Machine) (kept : Kept g.plan g.retries old) (e : Entry) (new : Machine) where
  ends_step : (kind : EventKind) → StepOf g old kind e new → EndsAt g old → EndsAt g new
  ends_step Start (may, now) was op task is = absurd (not_broken op task (sym (ap (λ (m : Machine). m.ended) now ∙ may.going) ∙ is))
  ends_step Done (may, now) was op task is = absurd (not_broken op task (sym (ap (λ (m : Machine). m.ended) now) ∙ is))
  ends_step Halt (may, (fault, halts, now)) was op task is = absurd (halted_broken fault op task (sym (ap (λ (m : Machine). m.ended) now) ∙ is))
  ends_step Failed (may, now) was op task is =
      let s = state_at g.plan old e.op e.task in
      let (last, o, k) = after_broken g.retries s.failures e.op e.task op task (sym (ap (λ (m : Machine). m.ended) now) ∙ is) in
      let here = (counted g.plan g.retries old kept e.worker e.op e.task may.runs).0 in
      let at = ap (λ (m : Machine). get_or m.tasks (task_number g.plan e.op e.task) no_task) now ∙ state_same g.plan g.retries old kept e.op e.task here (failed_now s) in
      subst (λ (x : ℕ × ℕ). IsBroken g new x.0 x.1) (λ i. (o i, k i))
      (record { listed = here; failures = ap (λ (t : TaskState). t.failures) at ∙ ap (λ (n : ℕ). n + 1) last; undone = ap (λ (t : TaskState). t.done) at ∙ may.undone })
  ends_step Late (may, now) was op task is =
      let b = was op task (sym (ap (λ (m : Machine). m.ended) now) ∙ is) in
      let here = (counted g.plan g.retries old kept e.worker e.op e.task may.runs).0 in
      let both = by_task g.plan g.retries old kept e here (one_copy_less (state_at g.plan old e.op e.task)) new (ap (λ (m : Machine). m.tasks) now)
      (λ x y n. (x.failures ≡ g.retries + 1) → (x.done ≡ false) → (y.failures ≡ g.retries + 1) × (y.done ≡ false))
      (λ f d. (f, d)) (λ x f d. (f, d)) op task b.listed b.failures b.undone in
      record { listed = b.listed; failures = both.0; undone = both.1 }

ends_run : (g : Settings) (old : Machine) (es : List Entry) (new : Machine) → Kept g.plan g.retries old → Run g old es new → EndsAt g old → EndsAt g new
ends_run g old [] new kept is was = subst (EndsAt g) (sym is) was
ends_run g old (e ∷ es) new kept (mid, step, run) was = ends_run g mid es new (step_kept g old e mid kept step).0 run (ends_step g old kept e mid e.kind step was)

pub broken_is : (g : Settings) (done : List Bool) (history : List Entry) (m : Machine) (op task : ℕ) → Replays g done history m → m.ended ≡ Some (Broken op task) → IsBroken g m op task
broken_is g done history m op task (all, run) is =
    ends_run g (opening done) history m (opening_kept g.plan g.retries done all) run (λ o k at. absurd (not_broken o k at)) op task is

-- a task fails at most once more than it is tried again, and then it has ended the machine
record MayBreak (g : Settings) (m : Machine) (op task : ℕ) : Type 0 where
  few : (state_at g.plan m op task).failures ≤ g.retries + 1
  last : (state_at g.plan m op task).failures ≡ g.retries + 1 → m.ended ≡ Some (Broken op task)

going_few : (g : Settings) (m : Machine) (op task : ℕ) → MayBreak g m op task → m.ended ≡ None → (state_at g.plan m op task).failures ≤ g.retries
going_few g m op task may going =
    let f = may.few in
    let n : (state_at g.plan m op task).failures ≢ g.retries + 1 = λ is. not_broken op task (sym going ∙ may.last is) in
    omega (arith, f, n)

-- an entry that is no failure
stays_few : (g : Settings) (m new : Machine) (op task : ℕ) → MayBreak g m op task → m.ended ≡ None → (state_at g.plan new op task).failures ≡ (state_at g.plan m op task).failures + 0 → MayBreak g new op task
stays_few g m new op task may going same =
    let f = going_few g m op task may going in
    record { few = omega (arith, f, same); last = λ is. absurd (omega (arith, f, same, is)) }

module _ (g : Settings) (old : Machine) (kept : Kept g.plan g.retries old) (e : Entry) (new : Machine) (op task : ℕ) (that : IsTask g.plan op task) (was : MayBreak g old op task) where
  -- a failure: of this task, and of another
  failed_few : (f : ℕ) → f ≡ (state_at g.plan old e.op e.task).failures → old.ended ≡ None → (state_at g.plan new op task).failures ≡ (state_at g.plan old op task).failures + hit is_failed Failed e op task
      → new.ended ≡ ending_after g.retries f e.op e.task → MayBreak g new op task
  failed_few f is_f going tally ended =
      let few = going_few g old op task was going in
      elim (same_task e.op e.task op task) [
        | inl same ↦
            let h : hit is_failed Failed e op task ≡ 1 =
            subst (λ (x : ℕ × ℕ). weight x.0 x.1 (a_copy e.worker e.op e.task) ≡ 1) (λ i. (same.0 i, same.1 i)) (weight_own e.op e.task e.worker) in
            record {
              few = omega (arith, few, tally, h);
              last = λ is.
                  let last : (state_at g.plan old op task).failures ≡ g.retries = omega (arith, tally, h, is) in
                  let own = is_f ∙ ap (λ (x : ℕ × ℕ). (state_at g.plan old x.0 x.1).failures) (λ i. (same.0 i, same.1 i)) ∙ last in
                  ended ∙ cond-true (f == g.retries) (Some (Broken e.op e.task)) None (eq-eqb f g.retries own)
                  ∙ ap (λ (x : ℕ × ℕ). Some (Broken x.0 x.1)) (λ i. (same.0 i, same.1 i));
            }
        | inr apart ↦
            let h : hit is_failed Failed e op task ≡ 0 = weight_other e.op e.task e.worker op task apart in
            record { few = omega (arith, few, tally, h); last = λ is. absurd (omega (arith, few, tally, h, is)) }
      ]

  few_step : (kind : EventKind) → StepOf g old kind e new → MayBreak g new op task
  few_step Start step = stays_few g old new op task was step.0.going (tally_step g old kept e new op task that Start step).failures
  few_step Done step = stays_few g old new op task was step.0.going (tally_step g old kept e new op task that Done step).failures
  few_step Halt step = stays_few g old new op task was step.0.going (tally_step g old kept e new op task that Halt step).failures
  few_step Failed step =
      failed_few (state_at g.plan old e.op e.task).failures refl step.0.going (tally_step g old kept e new op task that Failed step).failures (ap (λ (m : Machine). m.ended) step.1)
  few_step Late step =
      let f = (tally_step g old kept e new op task that Late step).failures in
      let few = was.few in
      record { few = omega (arith, few, f); last = λ is. ap (λ (m : Machine). m.ended) step.1 ∙ was.last (omega (arith, f, is)) }

few_run : (g : Settings) (old : Machine) (es : List Entry) (new : Machine) → Kept g.plan g.retries old → Run g old es new → (op task : ℕ) → IsTask g.plan op task → MayBreak g old op task → MayBreak g new op task
few_run g old [] new kept is op task that was = subst (λ (m : Machine). MayBreak g m op task) (sym is) was
few_run g old (e ∷ es) new kept (mid, step, run) op task that was =
    few_run g mid es new (step_kept g old e mid kept step).0 run op task that (few_step g old kept e mid op task that was e.kind step)

pub broken_where : (g : Settings) (done : List Bool) (history : List Entry) (m : Machine) (op task : ℕ) → Replays g done history m → IsTask g.plan op task
    → (state_at g.plan m op task).failures ≡ g.retries + 1 → m.ended ≡ Some (Broken op task)
broken_where g done history m op task (all, run) is failures =
    let z = (opening_fresh g.plan done all op task is).0 in
    (few_run g (opening done) history m (opening_kept g.plan g.retries done all) run op task is (record { few = omega (arith, z); last = λ at. absurd (omega (arith, z, at)) })).last failures

pub none_done : (g : Settings) (done : List Bool) (history : List Entry) (m : Machine) (op task : ℕ) → Replays g done history m → m.ended ≡ Some (Broken op task)
    → (count_of_task is_done op task history ≡ 0) × (IsDone g.plan m op task → ⊥)
none_done g done history m op task replay ended =
    let b = broken_is g done history m op task replay ended in
    let undone = b.undone in
    let t = done_of_task g done history m op task replay b.listed in
    let w = cond-false {A = ℕ} (state_at g.plan m op task).done 0 1 undone in
    let few = weight_few (state_at g.plan (opening done) op task).done in
    (omega (arith, t, w, few), λ is. cc (is, undone))
  where
    weight_few : (b : Bool) → cond {A = ℕ} b 0 1 ≤ 1
    weight_few true = omega arith
    weight_few false = omega arith
