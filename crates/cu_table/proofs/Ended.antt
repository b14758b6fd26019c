-- A machine that has ended stays as it ended, with a task that isn't done; it was halted exactly where its history has a Halt.
use Rattle.std.proofs.Common.{◌≡◌, ◌≢◌, ◌⊎◌, ℕ, ◌||◌, Bool, true, false, true≢false, cond, List, [], ◌∷◌, Option, Some, None, refl, sym, ap, ◌∙◌, subst, inl, inr}
use Rattle.cu_store.specs.declared.faults.TaskFault.{TaskFault}
use Rattle.cu_op.specs.PlanView.{PlanView}
use Rattle.cu_history.specs.declared.entry.Entry.{Entry}
use Rattle.cu_history.specs.declared.entry.EventKind.{EventKind}
use Rattle.cu_history.specs.declared.entry.EventKind.TheVariants.{Start, Done, Failed, Halt, Late}
use Rattle.cu_history.specs.History.{is_halt, has_halt}
use Rattle.cu_table.specs.declared.state.Ending.{Ending}
use Rattle.cu_table.specs.declared.state.Ending.TheVariants.{Broken, Halted}
use Rattle.cu_table.specs.declared.state.TaskState.{TaskState}
use Rattle.cu_table.specs.Numbers.{IsTask}
use Rattle.cu_table.specs.Machine.{Machine, state_at, AllDone, Runs, opening, copy_ended, failed_now, one_copy_less}
use Rattle.cu_table.specs.Step.{Settings, StepOf, Run, Replays, ending_after}
use Rattle.cu_table.proofs.Keeping.{Kept, counted, state_same, state_other, same_task, step_kept, opening_kept}

-- ---- an ending stays

ended_step : (g : Settings) (kind : EventKind) (old new : Machine) (e : Entry) (x : Ending) → StepOf g old kind e new → old.ended ≡ Some x → new.ended ≡ Some x
ended_step g Start old new e x (may, now) is = absurd (let n = may.going in cc (n, is))
ended_step g Done old new e x (may, now) is = absurd (let n = may.going in cc (n, is))
ended_step g Failed old new e x (may, now) is = absurd (let n = may.going in cc (n, is))
ended_step g Halt old new e x (may, (fault, halts, now)) is = absurd (let n = may.going in cc (n, is))
ended_step g Late old new e x (may, now) is = ap (λ (m : Machine). m.ended) now ∙ is

pub ended_stays : (g : Settings) (old : Machine) (es : List Entry) (new : Machine) (x : Ending) → Run g old es new → old.ended ≡ Some x → new.ended ≡ Some x
ended_stays g old [] new x run is = ap (λ (m : Machine). m.ended) run ∙ is
ended_stays g old (e ∷ es) new x (mid, step, run) is = ended_stays g mid es new x run (ended_step g e.kind old mid e x step is)

-- ---- a history with a Halt

abbrev IsHalted : Option Ending → Type 0
IsHalted o = (fault : TaskFault) × (o ≡ Some (Halted fault))

halted_stays : (g : Settings) (old : Machine) (es : List Entry) (new : Machine) → Run g old es new → IsHalted old.ended → IsHalted new.ended
halted_stays g old es new run (fault, is) = (fault, ended_stays g old es new (Halted fault) run is)

halt_step : (g : Settings) (kind : EventKind) (old mid : Machine) (e : Entry) → StepOf g old kind e mid → is_halt kind ≡ true → IsHalted mid.ended
halt_step g Halt old mid e (may, (fault, halts, now)) is = (fault, ap (λ (m : Machine). m.ended) now)
halt_step g Start old mid e step is = absurd (true≢false (sym is))
halt_step g Done old mid e step is = absurd (true≢false (sym is))
halt_step g Failed old mid e step is = absurd (true≢false (sym is))
halt_step g Late old mid e step is = absurd (true≢false (sym is))

or_cases : (a b : Bool) → a || b ≡ true → (a ≡ true) ⊎ (b ≡ true)
or_cases true b e = inl refl
or_cases false b e = inr e

pub halt_halted : (g : Settings) (old : Machine) (es : List Entry) (new : Machine) → Run g old es new → has_halt es ≡ true → IsHalted new.ended
halt_halted g old [] new run has = absurd (true≢false (sym has))
halt_halted g old (e ∷ es) new (mid, step, run) has =
    elim (or_cases (is_halt e.kind) (has_halt es) has) [
      | inl here ↦ halted_stays g mid es new run (halt_step g e.kind old mid e step here)
      | inr later ↦ halt_halted g mid es new run later
    ]

-- a step that isn't a Halt halts nothing
not_halted : (fault : TaskFault) → ◌≡◌ {A = Option Ending} None (Some (Halted fault)) → ⊥
not_halted fault e = cc

broken_halted : (b : Bool) (op task : ℕ) (fault : TaskFault) → cond b (Some (Broken op task)) None ≡ Some (Halted fault) → ⊥
broken_halted true op task fault e = cc
broken_halted false op task fault e = cc

other_step : (g : Settings) (kind : EventKind) (old mid : Machine) (e : Entry) → StepOf g old kind e mid → IsHalted mid.ended → IsHalted old.ended ⊎ (is_halt kind ≡ true)
other_step g Start old mid e (may, now) (fault, is) = inl (fault, sym (ap (λ (m : Machine). m.ended) now) ∙ is)
other_step g Done old mid e (may, now) (fault, is) = absurd (not_halted fault (sym (ap (λ (m : Machine). m.ended) now) ∙ is))
other_step g Failed old mid e (may, now) (fault, is) = absurd (broken_halted _ e.op e.task fault (sym (ap (λ (m : Machine). m.ended) now) ∙ is))
other_step g Halt old mid e step is = inr refl
other_step g Late old mid e (may, now) (fault, is) = inl (fault, sym (ap (λ (m : Machine). m.ended) now) ∙ is)

or_left : (a b : Bool) → a ≡ true → a || b ≡ true
or_left true b e = refl
or_left false b e = absurd (true≢false (sym e))

or_right : (a b : Bool) → b ≡ true → a || b ≡ true
or_right true b e = refl
or_right false b e = e

pub halted_halt : (g : Settings) (old : Machine) (es : List Entry) (new : Machine) → Run g old es new → IsHalted new.ended → IsHalted old.ended ⊎ (has_halt es ≡ true)
halted_halt g old [] new run (fault, is) = inl (fault, sym (ap (λ (m : Machine). m.ended) run) ∙ is)
halted_halt g old (e ∷ es) new (mid, step, run) is =
    elim (halted_halt g mid es new run is) [
      | inr later ↦ inr (or_right (is_halt e.kind) (has_halt es) later)
      | inl halted ↦ elim (other_step g e.kind old mid e step halted) [
        | inl was ↦ inl was
        | inr here ↦ inr (or_left (is_halt e.kind) (has_halt es) here)
      ]
    ]

-- ---- a machine that has ended has a task that isn't done

abbrev HasUndone : PlanView → Machine → Type 0
HasUndone p m = (op : ℕ) × (task : ℕ) × IsTask p op task × ((state_at p m op task).done ≡ false)

module _ (g : Settings) (old : Machine) (kept : Kept g.plan g.retries old) (e : Entry) (new : Machine) where
  -- a copy of an undone task ends, and leaves it so
  still_undone : (s : TaskState) (ended : Option Ending) → Runs old e.worker e.op e.task → s.done ≡ false → new ≡ copy_ended g.plan old e s ended → HasUndone g.plan new
  still_undone s ended runs undone now =
      let is = (counted g.plan g.retries old kept e.worker e.op e.task runs).0 in
      (e.op, e.task, is, ap (λ (m : Machine). (state_at g.plan m e.op e.task).done) now ∙ ap (λ (x : TaskState). x.done) (state_same g.plan g.retries old kept e.op e.task is s) ∙ undone)

  -- a task that a step leaves as done as it was
  same_undone : (s : TaskState) → IsTask g.plan e.op e.task → s.done ≡ (state_at g.plan old e.op e.task).done → (copies : Machine) → HasUndone g.plan old
      → copies.tasks ≡ (copy_ended g.plan old e s None).tasks → HasUndone g.plan copies
  same_undone s is same copies (op, task, that, undone) tasks = (
    op,
    task,
    that,
    elim (same_task e.op e.task op task) [
      | inr apart ↦ ap (λ (ts : List TaskState). (state_at g.plan (record { tasks = ts; copies = []; ended = None }) op task).done) tasks
          ∙ ap (λ (x : TaskState). x.done) (state_other g.plan g.retries old kept e.op e.task is s op task that apart) ∙ undone
      | inl h ↦ ap (λ (ts : List TaskState). (state_at g.plan (record { tasks = ts; copies = []; ended = None }) op task).done) tasks
          ∙ subst (λ (k : ℕ). (state_at g.plan (copy_ended g.plan old e s None) k task).done ≡ false) h.0
          (subst (λ (t : ℕ). (state_at g.plan (copy_ended g.plan old e s None) e.op t).done ≡ false) h.1
          (ap (λ (x : TaskState). x.done) (state_same g.plan g.retries old kept e.op e.task is s) ∙ same
          ∙ subst (λ (k : ℕ). (state_at g.plan old k e.task).done ≡ false) (sym h.0) (subst (λ (t : ℕ). (state_at g.plan old op t).done ≡ false) (sym h.1) undone)))
    ],
  )

  undone_step : (kind : EventKind) → StepOf g old kind e new → (old.ended ≢ None → HasUndone g.plan old) → new.ended ≢ None → HasUndone g.plan new
  undone_step Start (may, now) was ended = absurd (ended (ap (λ (m : Machine). m.ended) now ∙ may.going))
  undone_step Done (may, now) was ended = absurd (ended (ap (λ (m : Machine). m.ended) now))
  undone_step Failed (may, now) was ended =
      still_undone (failed_now (state_at g.plan old e.op e.task)) (ending_after g.retries (state_at g.plan old e.op e.task).failures e.op e.task) may.runs may.undone now
  undone_step Halt (may, (fault, halts, now)) was ended = still_undone (one_copy_less (state_at g.plan old e.op e.task)) (Some (Halted fault)) may.runs may.undone now
  undone_step Late (may, now) was ended =
      let is = (counted g.plan g.retries old kept e.worker e.op e.task may.runs).0 in
      same_undone (one_copy_less (state_at g.plan old e.op e.task)) is refl new (was (λ none. ended (ap (λ (m : Machine). m.ended) now ∙ none))) (ap (λ (m : Machine). m.tasks) now)

undone_run : (g : Settings) (old : Machine) (es : List Entry) (new : Machine) → Kept g.plan g.retries old → Run g old es new → (old.ended ≢ None → HasUndone g.plan old) → new.ended ≢ None → HasUndone g.plan new
undone_run g old [] new kept run was ended = subst (HasUndone g.plan) (sym run) (was (λ none. ended (ap (λ (m : Machine). m.ended) run ∙ none)))
undone_run g old (e ∷ es) new kept (mid, step, run) was ended =
    undone_run g mid es new (step_kept g old e mid kept step).0 run (undone_step g old kept e mid e.kind step was) ended

pub ended_undone : (g : Settings) (done : List Bool) (history : List Entry) (m : Machine) (x : Ending) → Replays g done history m → m.ended ≡ Some x → AllDone g.plan m → ⊥
ended_undone g done history m x (long, run) is all =
    let (op, task, that, undone) = undone_run g (opening done) history m (opening_kept g.plan g.retries done long) run (λ h. absurd (h refl)) (λ none. cc (none, is)) in
    let so = all op task that in
    cc (so, undone)
