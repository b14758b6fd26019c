-- A worker's own entries tell which task it runs; a machine that has ended stays so.
use Rattle.std.proofs.Common.{◌≡◌, ◌≢◌, ℕ, zero, suc, ◌==◌, Bool, true, false, true≢false, cond, List, [], ◌∷◌, ◌++◌, Option, Some, None, refl, sym, ap, ◌∙◌, subst, inl, inr, arith, eq-eqb, ne_eqb}
use Rattle.std.specs.Prelude.{All, Contains}
use Rattle.std.proofs.lemmas.Bool.{cases_eq, eqb-true}
use Rattle.cu_history.specs.declared.entry.Entry.{Entry}
use Rattle.cu_history.specs.declared.entry.EventKind.{EventKind}
use Rattle.cu_history.specs.declared.entry.EventKind.TheVariants.{Start, Done, Failed, Halt, Late}
use Rattle.cu_history.specs.History.{is_start, own}
use Rattle.cu_table.specs.declared.state.RunningCopy.{RunningCopy}
use Rattle.cu_table.specs.Machine.{Machine, without, RunsNothing, Runs, opening, copy_of}
use Rattle.cu_table.specs.Own.{left_running, running_of}
use Rattle.cu_table.specs.Step.{Settings, Step, StepOf, Run, Replays}

abbrev Free : List RunningCopy → ℕ → Type 0
Free cs worker = All (λ c. c.worker ≢ worker) cs

-- no worker has two copies
abbrev Single : List RunningCopy → Type 0
Single [] = Unit {0}
Single (c ∷ cs) = (running_of cs c.worker ≡ None) × Single cs

-- the first copy isn't the worker's, and the others aren't either
single_first : (b : Bool) (x : ℕ × ℕ) (rest : Option (ℕ × ℕ)) → cond b (Some x) rest ≡ None → (b ≡ false) × (rest ≡ None)
single_first true x rest e = absurd (cc)
single_first false x rest e = (refl, e)

eq_false : (a b : ℕ) → (a == b) ≡ false → a ≢ b
eq_false a b e is = true≢false (sym (eq-eqb a b is) ∙ e)

by_test : (P : Bool → Type 0) (a b : ℕ) → (a ≡ b → P true) → (a ≢ b → P false) → P (a == b)
by_test P a b same other =
    elim (cases_eq a b) [
      | inl e ↦ subst P (sym (eq-eqb a b e)) (same e)
      | inr n ↦ subst P (sym (ne_eqb a b n)) (other n)
    ]

-- ---- one more copy

choose : (x y : Bool) (d c l r : Option (ℕ × ℕ)) → (x ≡ true → y ≡ true → ⊥) → l ≡ cond y c r → cond x d l ≡ cond y c (cond x d r)
choose true true d c l r not_both e = absurd (not_both refl refl)
choose true false d c l r not_both e = refl
choose false y d c l r not_both e = e

running_last : (cs : List RunningCopy) (c : RunningCopy) (w : ℕ) → running_of cs c.worker ≡ None → running_of (cs ++ c ∷ []) w ≡ cond (c.worker == w) (Some (c.op, c.task)) (running_of cs w)
running_last [] c w free = refl
running_last (d ∷ ds) c w free =
    let (other, rest) = single_first (d.worker == c.worker) (d.op, d.task) (running_of ds c.worker) free in
    choose (d.worker == w) (c.worker == w) (Some (d.op, d.task)) (Some (c.op, c.task)) (running_of (ds ++ c ∷ []) w) (running_of ds w)
    (λ a b. eq_false d.worker c.worker other (eqb-true d.worker w a ∙ sym (eqb-true c.worker w b)))
    (running_last ds c w rest)

single_last : (cs : List RunningCopy) (c : RunningCopy) → Single cs → running_of cs c.worker ≡ None → Single (cs ++ c ∷ [])
single_last [] c a free = (refl, tt)
single_last (d ∷ ds) c (one, more) free =
    let (other, rest) = single_first (d.worker == c.worker) (d.op, d.task) (running_of ds c.worker) free in (
      running_last ds c d.worker rest
          ∙ ap (λ (b : Bool). cond b (Some (c.op, c.task)) (running_of ds d.worker)) (ne_eqb c.worker d.worker (λ e. eq_false d.worker c.worker other (sym e))) ∙ one,
      single_last ds c more rest,
    )

-- ---- one less

without_self : (cs : List RunningCopy) (w : ℕ) → Single cs → running_of (without w cs) w ≡ None
without_self [] w a = refl
without_self (c ∷ cs) w (one, more) = by_test (λ b. running_of (cond b cs (c ∷ without w cs)) w ≡ None) c.worker w
    (λ e. subst (λ (v : ℕ). running_of cs v ≡ None) e one)
    (λ n. subst (λ (b : Bool). cond b (Some (c.op, c.task)) (running_of (without w cs) w) ≡ None) (sym (ne_eqb c.worker w n)) (without_self cs w more))

without_other : (cs : List RunningCopy) (v w : ℕ) → v ≢ w → running_of (without v cs) w ≡ running_of cs w
without_other [] v w ne = refl
without_other (c ∷ cs) v w ne = by_test (λ b. running_of (cond b cs (c ∷ without v cs)) w ≡ running_of (c ∷ cs) w) c.worker v
    (λ e. sym (ap (λ (b : Bool). cond b (Some (c.op, c.task)) (running_of cs w)) (ne_eqb c.worker w (λ k. ne (sym e ∙ k)))))
    (λ n. ap (λ (r : Option (ℕ × ℕ)). cond (c.worker == w) (Some (c.op, c.task)) r) (without_other cs v w ne))

single_without : (cs : List RunningCopy) (w : ℕ) → Single cs → Single (without w cs)
single_without [] w a = tt
single_without (c ∷ cs) w (one, more) = by_test (λ b. Single (cond b cs (c ∷ without w cs))) c.worker w
    (λ e. more)
    (λ n. (without_other cs w c.worker (λ e. n (sym e)) ∙ one, single_without cs w more))

-- ---- a worker that runs nothing, and one that runs a task

free_none : (cs : List RunningCopy) (w : ℕ) → Free cs w → running_of cs w ≡ None
free_none [] w free = refl
free_none (c ∷ cs) w free =
    ap (λ (b : Bool). cond b (Some (c.op, c.task)) (running_of cs w)) (ne_eqb c.worker w (free 0 c (omega arith))) ∙ free_none cs w (λ k d low. free (suc k) d (omega (arith, low)))

pub none_free : (cs : List RunningCopy) (w : ℕ) → running_of cs w ≡ None → All (λ c. c.worker ≢ w) cs
none_free (c ∷ cs) w is zero d low = eq_false c.worker w (single_first (c.worker == w) (c.op, c.task) (running_of cs w) is).0
none_free (c ∷ cs) w is (suc k) d low = none_free cs w (single_first (c.worker == w) (c.op, c.task) (running_of cs w) is).1 k d (omega (arith, low))
none_free [] w is k d low = absurd (omega (arith, low))

abbrev task_or : ℕ × ℕ → Option (ℕ × ℕ) → ℕ × ℕ
task_or d None = d
task_or d (Some x) = x

pub running_runs : (cs : List RunningCopy) (w op task : ℕ) → running_of cs w ≡ Some (op, task) → Contains cs (record { worker = w; op = op; task = task })
running_runs [] w op task = λ is. absurd (cc)
running_runs (c ∷ cs) w op task = by_test (λ b. cond b (Some (c.op, c.task)) (running_of cs w) ≡ Some (op, task) → Contains (c ∷ cs) (record { worker = w; op = op; task = task })) c.worker w
    (λ same is. let pair = ap (task_or (op, task)) is in (0, omega arith, λ i. record { worker = same i; op = (ap (λ (x : ℕ × ℕ). x.0) pair) i; task = (ap (λ (x : ℕ × ℕ). x.1) pair) i }))
    (λ ne is. let (k, low, at) = running_runs cs w op task is in (suc k, omega (arith, low), at))

-- ---- a step

-- what a worker's entry makes of what it ran
abbrev after_entry : Option (ℕ × ℕ) → Entry → Option (ℕ × ℕ)
after_entry now e = cond (is_start e.kind) (Some (e.op, e.task)) None

abbrev Tells : List RunningCopy → Entry → List RunningCopy → Type 0
Tells old e new = (running_of new e.worker ≡ after_entry None e) × ((w : ℕ) → e.worker ≢ w → running_of new w ≡ running_of old w) × Single new

end_tells : (old new : List RunningCopy) (e : Entry) → is_start e.kind ≡ false → Single old → new ≡ without e.worker old → Tells old e new
end_tells old new e not_start a now = (
  ap (λ (l : List RunningCopy). running_of l e.worker) now ∙ without_self old e.worker a ∙ sym (ap (λ (b : Bool). cond b (Some (e.op, e.task)) None) not_start),
  λ w ne. ap (λ (l : List RunningCopy). running_of l w) now ∙ without_other old e.worker w ne,
  subst Single (sym now) (single_without old e.worker a),
)

start_tells : (old new : List RunningCopy) (e : Entry) → is_start e.kind ≡ true → Single old → Free old e.worker → new ≡ old ++ copy_of e ∷ [] → Tells old e new
start_tells old new e starts a free now =
    let none = free_none old e.worker free in (
      ap (λ (l : List RunningCopy). running_of l e.worker) now ∙ running_last old (copy_of e) e.worker none
          ∙ ap (λ (b : Bool). cond b (Some (e.op, e.task)) (running_of old e.worker)) (eq-eqb e.worker e.worker refl)
          ∙ sym (ap (λ (b : Bool). cond b (Some (e.op, e.task)) None) starts),
      λ w ne. ap (λ (l : List RunningCopy). running_of l w) now ∙ running_last old (copy_of e) w none ∙ ap (λ (b : Bool). cond b (Some (e.op, e.task)) (running_of old w)) (ne_eqb e.worker w ne),
      subst Single (sym now) (single_last old (copy_of e) a none),
    )

step_tells : (g : Settings) (kind : EventKind) (old new : Machine) (e : Entry) → e.kind ≡ kind → Single old.copies → StepOf g old kind e new → Tells old.copies e new.copies
step_tells g Start old new e is a (may, now) = start_tells old.copies new.copies e (ap is_start is) a may.free (ap (λ (m : Machine). m.copies) now)
step_tells g Done old new e is a (may, now) = end_tells old.copies new.copies e (ap is_start is) a (ap (λ (m : Machine). m.copies) now)
step_tells g Failed old new e is a (may, now) = end_tells old.copies new.copies e (ap is_start is) a (ap (λ (m : Machine). m.copies) now)
step_tells g Halt old new e is a (may, (fault, halts, now)) = end_tells old.copies new.copies e (ap is_start is) a (ap (λ (m : Machine). m.copies) now)
step_tells g Late old new e is a (may, now) = end_tells old.copies new.copies e (ap is_start is) a (ap (λ (m : Machine). m.copies) now)

run_tells : (g : Settings) (old : Machine) (es : List Entry) (new : Machine) (w : ℕ) → Single old.copies → Run g old es new → left_running (running_of old.copies w) (own w es) ≡ running_of new.copies w
run_tells g old [] new w a is = ap (λ (m : Machine). running_of m.copies w) (sym is)
run_tells g old (e ∷ es) new w a (mid, step, run) =
    let (self, others, still) = step_tells g e.kind old mid e refl a step in
    let rest = run_tells g mid es new w still run in
    by_test (λ b. left_running (running_of old.copies w) (cond b (e ∷ own w es) (own w es)) ≡ running_of new.copies w) e.worker w
    (λ same. ap (λ (x : Option (ℕ × ℕ)). left_running x (own w es)) (sym self ∙ ap (running_of mid.copies) same) ∙ rest)
    (λ ne. ap (λ (x : Option (ℕ × ℕ)). left_running x (own w es)) (sym (others w ne)) ∙ rest)

single_run : (g : Settings) (old : Machine) (es : List Entry) (new : Machine) → Single old.copies → Run g old es new → Single new.copies
single_run g old [] new a is = subst (λ (m : Machine). Single m.copies) (sym is) a
single_run g old (e ∷ es) new a (mid, step, run) = single_run g mid es new (step_tells g e.kind old mid e refl a step).2 run

-- of the workers an entry changes what its own runs
pub step_running : (g : Settings) (done : List Bool) (history : List Entry) (old new : Machine) (e : Entry) (w : ℕ) → Replays g done history old → Step g old e new
    → running_of new.copies w ≡ left_running (running_of old.copies w) (own w (e ∷ []))
step_running g done history old new e w (long, run) step = sym (run_tells g old (e ∷ []) new w (single_run g (opening done) history old tt run) (new, step, refl))

pub own_running : (g : Settings) (done : List Bool) (history : List Entry) (m : Machine) (w : ℕ) → Replays g done history m → running_of m.copies w ≡ left_running None (own w history)
own_running g done history m w (long, run) = sym (run_tells g (opening done) history m w tt run)

-- a worker whose own entries leave no task running runs nothing
pub own_rests : (g : Settings) (done : List Bool) (history : List Entry) (m : Machine) (w : ℕ) → Replays g done history m → left_running None (own w history) ≡ None → RunsNothing m w
own_rests g done history m w replays rests = none_free m.copies w (own_running g done history m w replays ∙ rests)

-- and one whose own entries leave a task running runs it
pub own_runs : (g : Settings) (done : List Bool) (history : List Entry) (m : Machine) (w op task : ℕ) → Replays g done history m → left_running None (own w history) ≡ Some (op, task) → Runs m w op task
own_runs g done history m w op task replays runs = running_runs m.copies w op task (own_running g done history m w replays ∙ runs)
