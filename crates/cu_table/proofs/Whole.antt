-- A machine that has done all tasks: which copies still run, and how often tasks were started.
use Rattle.std.proofs.Common.{◌≡◌, ◌≢◌, inl, inr, ℕ, zero, suc, ◌+◌, ◌<◌, ◌≤◌, ◌==◌, Bool, true, false, List, [], ◌∷◌, length, get_or, map, All, Contains, sum_by, Option, Some, None, refl, ap, sym, ◌∙◌, subst, arith}
use Rattle.std.proofs.lemmas.Bool.{cases_Bool, cases_eq, eqb-true, cond-true, cond-false}
use Rattle.std.proofs.lemmas.List.{get_or_default}
use Rattle.std.proofs.lemmas.List.Elements.{All-set, All-head, All-tail, All-map}
use Rattle.std.proofs.lemmas.List.Sums.{sum_by-cons, sum_by-le, get_or-le-sum_by}
use Rattle.cu_history.specs.declared.entry.Entry.{Entry}
use Rattle.cu_history.specs.declared.entry.EventKind.{EventKind}
use Rattle.cu_history.specs.declared.entry.EventKind.TheVariants.{Start, Done, Failed, Halt, Late}
use Rattle.cu_history.specs.History.{is_start, is_done, is_failed, count_kind}
use Rattle.std.specs.Prelude.{if◌then◌else◌}
use Rattle.cu_table.specs.declared.state.Ending.{Ending}
use Rattle.cu_table.specs.declared.state.Ending.TheVariants.{Halted}
use Rattle.cu_table.specs.declared.state.RunningCopy.{RunningCopy}
use Rattle.cu_table.specs.declared.state.TaskState.{TaskState}
use Rattle.cu_table.specs.Numbers.{task_number}
use Rattle.cu_table.specs.Machine.{Machine, no_task, state_at, IsDone, AllDone, Runs, without, opened, opening, one_copy_more, one_copy_less, done_now, failed_now}
use Rattle.cu_table.specs.Own.{is_end}
use Rattle.cu_table.specs.Step.{Settings, StepOf, Run, Replays, ending_after}
use Rattle.cu_table.specs.Table.{undone_weight, undone_among}
use Rattle.cu_table.proofs.Numbers.{number_some}
use Rattle.cu_table.proofs.Copies.{a_copy, weight, weight_own, Apart, sum_without, copies_of}
use Rattle.cu_table.proofs.Keeping.{Kept, inside, state_small, counted, step_kept, opening_kept, replay_kept}
use Rattle.cu_table.proofs.Counting.{one, IsAlone, alone_started, alone_ended, alone_step, count_step, count_run}
use Rattle.cu_table.proofs.Ended.{ended_stays}

-- ---- at most one copy of a task that is done

-- a copy that isn't the first
past_first : (worker : ℕ) (c d : RunningCopy) (ds : List RunningCopy) → c.worker ≢ worker → d.worker ≡ worker → Contains (d ∷ ds) c → Contains ds c
past_first worker c d ds other same (zero, l, e) = absurd (other (sym (ap (λ (x : RunningCopy). x.worker) e) ∙ same))
past_first worker c d ds other same (suc k, l, e) = (k, omega (arith, l), e)

-- a copy that is the first or among the others
still_first : (c d : RunningCopy) (ds rest : List RunningCopy) → (Contains ds c → Contains rest c) → Contains (d ∷ ds) c → Contains (d ∷ rest) c
still_first c d ds rest others (zero, l, e) = (zero, omega arith, e)
still_first c d ds rest others (suc k, l, e) = let (j, m, f) = others (k, omega (arith, l), e) in (suc j, omega (arith, m), f)

contains_without : (worker : ℕ) (c : RunningCopy) (cs : List RunningCopy) → c.worker ≢ worker → Contains cs c → Contains (without worker cs) c
contains_without worker c [] other (k, l, e) = absurd (omega (arith, l))
contains_without worker c (d ∷ ds) other there =
    elim (cases_Bool (d.worker == worker)) [
      | inl is ↦
          subst (λ (xs : List RunningCopy). Contains xs c) (sym (cond-true (d.worker == worker) ds (d ∷ without worker ds) is))
          (past_first worker c d ds other (eqb-true d.worker worker is) there)
      | inr isnt ↦
          subst (λ (xs : List RunningCopy). Contains xs c) (sym (cond-false (d.worker == worker) ds (d ∷ without worker ds) isnt))
          (still_first c d ds (without worker ds) (contains_without worker c ds other) there)
    ]

-- the copies of two workers count twice
two_copies : (op task v w : ℕ) (cs : List RunningCopy) → Apart cs → w ≢ v → Contains cs (a_copy v op task) → Contains cs (a_copy w op task) → 2 ≤ copies_of op task cs
two_copies op task v w cs apart other first second =
    let a = sum_without (weight op task) v op task cs apart first in
    let one = weight_own op task v in
    let (k, l, e) = contains_without v (a_copy w op task) cs other second in
    let b = get_or-le-sum_by (weight op task) (without v cs) k (a_copy w op task) l in
    let two : weight op task (get_or (without v cs) k (a_copy w op task)) ≡ 1 = ap (weight op task) e ∙ weight_own op task w in
    omega (arith, a, one, b, two)

pub one_of_done : (g : Settings) (done : List Bool) (history : List Entry) (m : Machine) (op task v w : ℕ) → Replays g done history m → IsDone g.plan m op task
    → Runs m v op task → Runs m w op task → v ≡ w
one_of_done g done history m op task v w replay is first second =
    let kept = (replay_kept g done history m replay).0 in
    let here = (counted g.plan g.retries m kept v op task first).0 in
    elim (cases_eq w v) [
      | inl same ↦ sym same
      | inr other ↦
          let few = (state_small g.plan g.retries m kept op task here).after is in
          let n = kept.counts op task here in
          let two = two_copies op task v w m.copies kept.apart other first second in
          absurd (omega (arith, few, n, two))
    ]

-- ---- without second copies

module _ (g : Settings) (off : g.backups ≡ false) (old : Machine) (kept : Kept g.plan g.retries old) (e : Entry) (new : Machine) (alone : All IsAlone old.tasks) where
  -- whatever comes of the machine
  alone_keeps : (kind : EventKind) → StepOf g old kind e new → All IsAlone new.tasks
  alone_keeps Start step =
      subst (All IsAlone) (sym (ap (λ (m : Machine). m.tasks) step.1))
      (All-set IsAlone old.tasks (task_number g.plan e.op e.task) (one_copy_more (state_at g.plan old e.op e.task)) (alone_started g off old e.op e.task step.0.can) alone)
  alone_keeps Done step = alone_ended g off old kept e new alone step.0.runs (done_now (state_at g.plan old e.op e.task)) refl None step.1
  alone_keeps Failed step =
      alone_ended g off old kept e new alone step.0.runs (failed_now (state_at g.plan old e.op e.task)) refl
      (ending_after g.retries (state_at g.plan old e.op e.task).failures e.op e.task) step.1
  alone_keeps Halt step = alone_ended g off old kept e new alone step.0.runs (one_copy_less (state_at g.plan old e.op e.task)) refl (Some (Halted step.1.0)) step.1.2
  alone_keeps Late step = alone_ended g off old kept e new alone step.0.runs (one_copy_less (state_at g.plan old e.op e.task)) refl old.ended step.1

alone_all : (g : Settings) → g.backups ≡ false → (old : Machine) (es : List Entry) (new : Machine) → Kept g.plan g.retries old → All IsAlone old.tasks → Run g old es new → All IsAlone new.tasks
alone_all g off old [] new kept alone is = subst (λ (m : Machine). All IsAlone m.tasks) (sym is) alone
alone_all g off old (e ∷ es) new kept alone (mid, step, run) =
    alone_all g off mid es new (step_kept g old e mid kept step).0 (alone_keeps g off old kept e mid alone e.kind step) run

opening_alone : (done : List Bool) → All IsAlone (opening done).tasks
opening_alone done = All-map IsAlone opened done (λ k d l. (omega arith, (λ so. refl)))

-- where all tasks are done none runs
pub none_runs : (g : Settings) (done : List Bool) (history : List Entry) (m : Machine) → Replays g done history m → g.backups ≡ false → AllDone g.plan m → m.copies ≡ []
none_runs g done history m (long, run) off all = none m.copies refl
  where
    first : Kept g.plan g.retries (opening done)
    first = opening_kept g.plan g.retries done long

    kept : Kept g.plan g.retries m
    kept = (replay_kept g done history m (long, run)).0

    alone : All IsAlone m.tasks
    alone = alone_all g off (opening done) history m first (opening_alone done) run

    none : (cs : List RunningCopy) → m.copies ≡ cs → cs ≡ []
    none [] is = refl
    none (c ∷ cs) is =
        let runs = subst (λ (xs : List RunningCopy). Contains xs c) (sym is) (0, omega arith, refl) in
        let (here, some) = counted g.plan g.retries m kept c.worker c.op c.task runs in
        let zero_run = (alone (task_number g.plan c.op c.task) no_task (inside g.plan g.retries m kept c.op c.task here no_task)).1 (all c.op c.task here) in
        absurd (omega (arith, some, zero_run))

-- ---- how many tasks aren't done, and how often tasks were started

pub none_undone : (g : Settings) (done : List Bool) (history : List Entry) (m : Machine) → Replays g done history m → AllDone g.plan m → undone_among m.tasks ≡ 0
none_undone g done history m replay all =
    let a = sum_by-le undone_weight 0 m.tasks (λ k d l. each k d l) in
    omega (arith, a)
  where
    kept : Kept g.plan g.retries m
    kept = (replay_kept g done history m replay).0

    each : (k : ℕ) (d : TaskState) → k < length m.tasks → undone_weight (get_or m.tasks k d) ≤ 0
    each k d l =
        let n = kept.tasks in
        let (op, task, is, e) = number_some g.plan k (omega (arith, l, n)) in
        let here : (get_or m.tasks k d).done ≡ true = ap (λ (s : TaskState). s.done) (get_or_default m.tasks k d no_task l ∙ ap (λ (i : ℕ). get_or m.tasks i no_task) (sym e)) ∙ all op task is in
        rw (cond-true {A = ℕ} (get_or m.tasks k d).done 0 1 here) (omega arith)

-- where no task is done at first, none of them
pub opening_undone : (done : List Bool) → All (λ d. d ≡ false) done → undone_among (opening done).tasks ≡ length done
opening_undone [] none = refl
opening_undone (d ∷ ds) none =
    let a = sum_by-cons undone_weight (opened d) (map opened ds) in
    let i = opening_undone ds (All-tail (λ b. b ≡ false) d ds none) in
    let w = cond-false {A = ℕ} d 0 1 (All-head (λ b. b ≡ false) d ds none) in
    omega (arith, a, i, w)

kinds_least : (kind : EventKind) → one (is_done kind) + one (is_failed kind) ≤ one (is_end kind)
kinds_least Start = omega arith
kinds_least Done = omega arith
kinds_least Failed = omega arith
kinds_least Halt = omega arith
kinds_least Late = omega arith

ends_least : (es : List Entry) → count_kind is_done es + count_kind is_failed es ≤ count_kind is_end es
ends_least [] = omega arith
ends_least (e ∷ es) =
    let k = kinds_least e.kind in
    let i = ends_least es in
    let b : count_kind is_end (e ∷ es) ≡ one (is_end e.kind) + count_kind is_end es = refl in
    let d : count_kind is_done (e ∷ es) ≡ one (is_done e.kind) + count_kind is_done es = refl in
    let f : count_kind is_failed (e ∷ es) ≡ one (is_failed e.kind) + count_kind is_failed es = refl in
    omega (arith, k, i, b, d, f)

-- each failure, and each task that became done, began with a start
pub starts_least : (g : Settings) (done : List Bool) (history : List Entry) (m : Machine) → Replays g done history m
    → count_kind is_failed history + undone_among (opening done).tasks ≤ count_kind is_start history + undone_among m.tasks
starts_least g done history m (long, run) =
    let (a, b) = count_run g (opening done) history m (opening_kept g.plan g.retries done long) run in
    let c = ends_least history in
    omega (arith, a, b, c)

-- an ended machine starts no task
starts_ended : (g : Settings) (old : Machine) (es : List Entry) (new : Machine) (x : Ending) → Run g old es new → old.ended ≡ Some x → count_kind is_start es ≡ 0
starts_ended g old [] new x is ended = refl
starts_ended g old (e ∷ es) new x (mid, step, run) ended =
    let s = ended_start g old mid e x e.kind step ended in
    let r = starts_ended g mid es new x run (ended_stays g old (e ∷ []) mid x (mid, step, refl) ended) in
    let b : count_kind is_start (e ∷ es) ≡ one (is_start e.kind) + count_kind is_start es = refl in
    omega (arith, s, r, b)
  where
    ended_start : (g : Settings) (old mid : Machine) (e : Entry) (x : Ending) (kind : EventKind) → StepOf g old kind e mid → old.ended ≡ Some x → one (is_start kind) ≡ 0
    ended_start g old mid e x Start step ended = absurd (let n = step.0.going in cc (n, ended))
    ended_start g old mid e x Done step ended = refl
    ended_start g old mid e x Failed step ended = refl
    ended_start g old mid e x Halt step ended = refl
    ended_start g old mid e x Late step ended = refl

-- without second copies each copy that runs is of a task of its own that isn't done
alone_sum : (ts : List TaskState) → All IsAlone ts → sum_by (λ (s : TaskState). s.copies) ts ≤ sum_by undone_weight ts
alone_sum [] alone = omega arith
alone_sum (t ∷ ts) alone =
    let h = All-head IsAlone t ts alone in
    let r = alone_sum ts (All-tail IsAlone t ts alone) in
    let a = sum_by-cons (λ (s : TaskState). s.copies) t ts in
    let b = sum_by-cons undone_weight t ts in
    let w = weight_of t.done h in
    omega (arith, r, a, b, w)
  where
    weight_of : (b : Bool) → (t.copies ≤ 1) × (b ≡ true → t.copies ≡ 0) → t.copies ≤ (if b then 0 else 1)
    weight_of true h = let z = h.1 refl in omega (arith, z)
    weight_of false h = h.0

few_run : (g : Settings) (m : Machine) → Kept g.plan g.retries m → All IsAlone m.tasks → length m.copies ≤ undone_among m.tasks
few_run g m kept alone = let a = alone_sum m.tasks alone in let t = kept.total in omega (arith, a, t)

-- the starts that follow, by what follows after the first entry
module _ (g : Settings) (off : g.backups ≡ false) (old : Machine) (kept : Kept g.plan g.retries old) (e : Entry) (mid : Machine) (alone : All IsAlone old.tasks) (step : StepOf g old e.kind e mid) (starts failed : ℕ) where
  not_a_start : (kind : EventKind) → StepOf g old kind e mid → (x : Ending) → mid.ended ≡ Some x → one (is_start kind) ≡ 0
  not_a_start Start now x ended = absurd (let n = now.0.going in let m = ap (λ (m : Machine). m.ended) now.1 in cc (n, m, ended))
  not_a_start Done now x ended = refl
  not_a_start Failed now x ended = refl
  not_a_start Halt now x ended = refl
  not_a_start Late now x ended = refl

  most_by : (o : Option Ending) → mid.ended ≡ o → ((x : Ending) → o ≡ Some x → starts ≡ 0) → (All IsAlone mid.tasks → starts + length mid.copies ≤ failed + undone_among mid.tasks)
      → one (is_start e.kind) + starts + length old.copies ≤ one (is_failed e.kind) + failed + undone_among old.tasks
  most_by None going ended follows =
      let (still, was, ends) = alone_step g off old kept e mid alone e.kind step going in
      let (a, b) = count_step g old kept e mid e.kind step in
      let i = follows still in
      omega (arith, ends, a, b, i)
  most_by (Some x) is ended follows =
      let z = not_a_start e.kind step x is in
      let r = ended x refl in
      let w = few_run g old kept alone in
      omega (arith, z, r, w)

most_run : (g : Settings) → g.backups ≡ false → (old : Machine) (es : List Entry) (new : Machine) → Kept g.plan g.retries old → All IsAlone old.tasks → Run g old es new
    → count_kind is_start es + length old.copies ≤ count_kind is_failed es + undone_among old.tasks
most_run g off old [] new kept alone is = let w = few_run g old kept alone in omega (arith, w)
most_run g off old (e ∷ es) new kept alone (mid, step, run) =
    let s : count_kind is_start (e ∷ es) ≡ one (is_start e.kind) + count_kind is_start es = refl in
    let f : count_kind is_failed (e ∷ es) ≡ one (is_failed e.kind) + count_kind is_failed es = refl in
    let m = most_by g off old kept e mid alone step (count_kind is_start es) (count_kind is_failed es) mid.ended refl (λ x ended. starts_ended g mid es new x run ended)
    (λ still. most_run g off mid es new (step_kept g old e mid kept step).0 still run) in
    omega (arith, s, f, m)

-- without second copies each start ended in a failure, or is the only one of a task that wasn't done at first that didn't
pub starts_most : (g : Settings) (done : List Bool) (history : List Entry) (m : Machine) → Replays g done history m → g.backups ≡ false
    → count_kind is_start history ≤ count_kind is_failed history + undone_among (opening done).tasks
starts_most g done history m (long, run) off =
    let a = most_run g off (opening done) history m (opening_kept g.plan g.retries done long) (opening_alone done) run in
    omega (arith, a)

pub starts_whole : (g : Settings) (done : List Bool) (history : List Entry) (m : Machine) → Replays g done history m → g.backups ≡ false → AllDone g.plan m
    → count_kind is_start history ≡ count_kind is_failed history + undone_among (opening done).tasks
starts_whole g done history m replay off all =
    let a = starts_least g done history m replay in
    let b = starts_most g done history m replay off in
    let z = none_undone g done history m replay all in
    omega (arith, a, b, z)
