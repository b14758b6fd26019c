-- How often any workers start each task, and what all starts call for.
use Rattle.std.proofs.Common.{◌≡◌, inl, inr, ℕ, ◌+◌, ◌*◌, ◌<◌, ◌≤◌, Bool, true, false, List, [], ◌∷◌, ◌++◌, length, All, Option, Some, None, get_or, refl, ap, sym, ◌∙◌, subst, arith, ne_eqb}
use Rattle.std.specs.Prelude.{◌==◌, ◌&&◌, not, if◌then◌else◌}
use Rattle.std.proofs.Math.Nat.{mul-add, mul_comm}
use Rattle.std.proofs.lemmas.Bool.{cases_Bool}
use Rattle.std.proofs.lemmas.Bool.Decides.{eqb_tells}
use Rattle.cu_history.specs.declared.entry.Entry.{Entry}
use Rattle.cu_history.specs.declared.entry.EventKind.{EventKind}
use Rattle.cu_history.specs.declared.entry.EventKind.TheVariants.{Start, Done, Failed, Halt, Late}
use Rattle.cu_history.specs.History.{is_start, count_kind, count_of_task}
use Rattle.cu_op.specs.Cells.{tasks_of}
use Rattle.cu_op.specs.PlanView.{PlanView}
use Rattle.cu_op.specs.Schedule.{op_of}
use Rattle.cu_task.specs.Calls.{calls_of}
use Rattle.cu_table.specs.declared.state.TaskState.{TaskState}
use Rattle.cu_table.specs.declared.state.Ending.{Ending}
use Rattle.cu_table.specs.declared.state.Ending.TheVariants.{Halted}
use Rattle.cu_table.specs.Numbers.{IsTask, task_number}
use Rattle.cu_table.specs.Machine.{Machine, no_task, state_at, opening, with_task, one_copy_more, one_copy_less, done_now, failed_now}
use Rattle.cu_table.specs.Step.{Settings, StepOf, Run, Replays}
use Rattle.cu_table.proofs.Copies.{a_copy, weight, weight_own, weight_other}
use Rattle.cu_table.proofs.Keeping.{Kept, counted, state_same, state_other, state_small, same_task, step_kept, opening_kept}
use Rattle.cu_table.proofs.Tallies.{starts_of_task, failures_of_task}
use Rattle.cu_work.specs.Calls.{calls_of_tasks}
use Rattle.cu_work.specs.Drive.{IsTaskMost}
use Rattle.cu_work.specs.Starts.{started_calls, most_starts, IsOfWorkers}
use Rattle.cu_work.proofs.Sums.{sum_same}
use Rattle.cu_work.proofs.Tries.{spent, spent_in, spent_more, spent_few, spent_none}

-- one more where it is so
abbrev pub one_if : Bool → ℕ
one_if b = if b then 1 else 0

none_ended : (ending : Ending) → ◌≡◌ {A = Option Ending} None (Some ending) → ⊥
none_ended ending e = cc

true_false : true ≡ false → ⊥
true_false e = cc

-- ---- the starts of one task

-- A task was started so often: once more than it is tried again at most, and once more with second copies. While the
-- run goes on and it isn't done, each of these starts failed or runs.
pub record IsStartedFew (g : Settings) (m : Machine) (n op task : ℕ) : Type 0 where
  pub few : n ≤ g.retries + 1 + one_if g.backups
  pub undone : m.ended ≡ None → (state_at g.plan m op task).done ≡ false
      → n ≡ (state_at g.plan m op task).failures + (state_at g.plan m op task).copies

module _ (g : Settings) (old : Machine) (kept : Kept g.plan g.retries old) (e : Entry) (new : Machine) where
  module _ (is : IsTask g.plan e.op e.task) (s : TaskState) (now : new.tasks ≡ with_task g.plan old e.op e.task s) where
    own_after : state_at g.plan new e.op e.task ≡ s
    own_after =
        ap (λ (ts : List TaskState). get_or ts (task_number g.plan e.op e.task) no_task) now
        ∙ state_same g.plan g.retries old kept e.op e.task is s

    other_after : (op task : ℕ) → IsTask g.plan op task → ((e.op ≡ op) × (e.task ≡ task) → ⊥)
        → state_at g.plan new op task ≡ state_at g.plan old op task
    other_after op task that apart =
        ap (λ (ts : List TaskState). get_or ts (task_number g.plan op task) no_task) now
        ∙ state_other g.plan g.retries old kept e.op e.task is s op task that apart

    module _ (h : ℕ) (going : new.ended ≡ None → old.ended ≡ None)
        (own : (n : ℕ) → IsStartedFew g old n e.op e.task
        → (n + h ≤ g.retries + 1 + one_if g.backups) × (new.ended ≡ None → s.done ≡ false → n + h ≡ s.failures + s.copies)) where
      own_few : (n : ℕ) → IsStartedFew g old n e.op e.task
          → IsStartedFew g new (n + h * weight e.op e.task (a_copy e.worker e.op e.task)) e.op e.task
      own_few n was =
          let (few, undone) = own n was in
          subst (λ (k : ℕ). IsStartedFew g new (n + h * k) e.op e.task) (sym (weight_own e.op e.task e.worker))
          (record {
            few = omega (arith, few);
            undone = λ none isnt.
                let so = undone none (sym (ap (λ (x : TaskState). x.done) own_after) ∙ isnt) in
                let f = ap (λ (x : TaskState). x.failures) own_after in
                let c = ap (λ (x : TaskState). x.copies) own_after in
                omega (arith, so, f, c);
          })

      other_few : (n op task : ℕ) → IsTask g.plan op task → ((e.op ≡ op) × (e.task ≡ task) → ⊥) → IsStartedFew g old n op task
          → IsStartedFew g new (n + h * weight op task (a_copy e.worker e.op e.task)) op task
      other_few n op task that apart was =
          subst (λ (k : ℕ). IsStartedFew g new (n + h * k) op task) (sym (weight_other e.op e.task e.worker op task apart))
          (record {
            few = let few = was.few in omega (arith, few);
            undone = λ none isnt.
                let same = other_after op task that apart in
                let so = was.undone (going none) (sym (ap (λ (x : TaskState). x.done) same) ∙ isnt) in
                let f = ap (λ (x : TaskState). x.failures) same in
                let c = ap (λ (x : TaskState). x.copies) same in
                omega (arith, so, f, c);
          })

      few_with : (n op task : ℕ) → IsTask g.plan op task → IsStartedFew g old n op task
          → IsStartedFew g new (n + h * weight op task (a_copy e.worker e.op e.task)) op task
      few_with n op task that was =
          elim (same_task e.op e.task op task) [
            | inl same ↦
                subst (λ (x : ℕ × ℕ). IsStartedFew g old n x.0 x.1
                → IsStartedFew g new (n + h * weight x.0 x.1 (a_copy e.worker e.op e.task)) x.0 x.1)
                (λ i. (same.0 i, same.1 i)) (own_few n) was
            | inr apart ↦ other_few n op task that apart was
          ]

  few_step : (kind : EventKind) → StepOf g old kind e new → (n op task : ℕ) → IsTask g.plan op task → IsStartedFew g old n op task
      → IsStartedFew g new (n + one_if (is_start kind) * weight op task (a_copy e.worker e.op e.task)) op task
  few_step Start (may, now) =
      few_with may.task (one_copy_more (state_at g.plan old e.op e.task)) (ap (λ (m : Machine). m.tasks) now) 1 (λ none. may.going)
      (λ n was. elim may.can [
        | inl waits ↦
            let so = was.undone may.going waits.1.0 in
            let small = (state_small g.plan g.retries old kept e.op e.task may.task).failures may.going waits.1.0 in
            let none = waits.1.1 in
            (omega (arith, so, small, none), λ going isnt. omega (arith, so))
        | inr single ↦
            let so = was.undone may.going single.2.0 in
            let small = (state_small g.plan g.retries old kept e.op e.task may.task).failures may.going single.2.0 in
            let one = single.2.1 in
            let on : one_if g.backups ≡ 1 = ap one_if single.1 in
            (omega (arith, so, small, one, on), λ going isnt. omega (arith, so))
      ])
  few_step Done (may, now) =
      few_with (counted g.plan g.retries old kept e.worker e.op e.task may.runs).0 (done_now (state_at g.plan old e.op e.task))
      (ap (λ (m : Machine). m.tasks) now) 0 (λ none. may.going)
      (λ n was. ((let few = was.few in omega (arith, few)), λ none isnt. absurd (true_false isnt)))
  few_step Failed (may, now) =
      let c = counted g.plan g.retries old kept e.worker e.op e.task may.runs in
      few_with c.0 (failed_now (state_at g.plan old e.op e.task)) (ap (λ (m : Machine). m.tasks) now) 0 (λ none. may.going)
      (λ n was. (
        (let few = was.few in omega (arith, few)),
        λ none isnt. (let so = was.undone may.going may.undone in let some = c.1 in omega (arith, so, some)),
      ))
  few_step Halt (may, (fault, halts, now)) =
      few_with (counted g.plan g.retries old kept e.worker e.op e.task may.runs).0 (one_copy_less (state_at g.plan old e.op e.task))
      (ap (λ (m : Machine). m.tasks) now) 0 (λ none. may.going)
      (λ n was. (
        (let few = was.few in omega (arith, few)),
        λ none isnt. absurd (none_ended (Halted fault) (sym none ∙ ap (λ (m : Machine). m.ended) now)),
      ))
  few_step Late (may, now) =
      few_with (counted g.plan g.retries old kept e.worker e.op e.task may.runs).0 (one_copy_less (state_at g.plan old e.op e.task))
      (ap (λ (m : Machine). m.tasks) now) 0 (λ none. sym (ap (λ (m : Machine). m.ended) now) ∙ none)
      (λ n was. (
        (let few = was.few in omega (arith, few)),
        λ none isnt. elim may.late [
          | inl done ↦ absurd (true_false (sym done ∙ isnt))
          | inr ending ↦ absurd (none_ended ending.0 (sym (sym (ap (λ (m : Machine). m.ended) now) ∙ none) ∙ ending.1))
        ],
      ))

-- 1 where an entry is a start of this task
abbrev hit_of : Entry → ℕ → ℕ → ℕ
hit_of e op task = if is_start e.kind && (e.op == op) && (e.task == task) then 1 else 0

hit_by : (a b c : Bool) → (if a && b && c then 1 else 0) ≡ one_if a * (if b && c then 1 else 0)
hit_by true b c = omega arith
hit_by false b c = omega arith

hit_more : (n x y k z : ℕ) → y ≡ x → z ≡ y + k → n + x + k ≡ n + z
hit_more n x y k z same all = omega (arith, same, all)

few_run : (g : Settings) (old : Machine) (es : List Entry) (new : Machine) → Kept g.plan g.retries old → Run g old es new → (n op task : ℕ)
    → IsTask g.plan op task → IsStartedFew g old n op task → IsStartedFew g new (n + count_of_task is_start op task es) op task
few_run g old [] new kept run n op task that was =
    let same : n ≡ n + 0 = omega arith in
    subst (λ (x : Machine × ℕ). IsStartedFew g x.0 x.1 op task) (λ i. (sym run i, same i)) was
few_run g old (e ∷ es) new kept (mid, step, run) n op task that was =
    let first = few_step g old kept e mid e.kind step n op task that was in
    let rest = few_run g mid es new (step_kept g old e mid kept step).0 run
    (n + one_if (is_start e.kind) * weight op task (a_copy e.worker e.op e.task)) op task that first in
    subst (λ (k : ℕ). IsStartedFew g new k op task)
    (hit_more n (one_if (is_start e.kind) * weight op task (a_copy e.worker e.op e.task)) (hit_of e op task)
    (count_of_task is_start op task es) (count_of_task is_start op task (e ∷ es)) (hit_by (is_start e.kind) (e.op == op) (e.task == task)) refl)
    rest

-- whatever workers did
pub started_few : (g : Settings) (done : List Bool) (history : List Entry) (m : Machine) → Replays g done history m → (op task : ℕ)
    → IsTask g.plan op task → count_of_task is_start op task history ≤ g.retries + 1 + one_if g.backups
started_few g done history m legal op task that =
    let f : (state_at g.plan (opening done) op task).failures ≡ 0 = failures_of_task g done [] (opening done) op task (legal.0, refl) that in
    let c : 0 ≡ 0 + (state_at g.plan (opening done) op task).copies = starts_of_task g done [] (opening done) op task (legal.0, refl) that in
    let first : IsStartedFew g (opening done) 0 op task = record { few = omega arith; undone = λ none isnt. omega (arith, f, c) } in
    let few = (few_run g (opening done) history m (opening_kept g.plan g.retries done legal.0) legal.1 0 op task that first).few in
    omega (arith, few)

-- ---- what all starts call for

pub started_push : (p : PlanView) (es : List Entry) (e : Entry)
    → started_calls p (es ++ e ∷ []) ≡ started_calls p es + (if is_start e.kind then calls_of p e.op e.task else 0)
started_push p [] e = omega arith
started_push p (d ∷ es) e = let rest = started_push p es e in omega (arith, rest)

-- the task of a start is one of the plan's
start_task : (g : Settings) (old new : Machine) (e : Entry) (kind : EventKind) → StepOf g old kind e new → is_start kind ≡ true → IsTask g.plan e.op e.task
start_task g old new e Start (may, now) is = may.task
start_task g old new e Done step is = absurd (true_false (sym is))
start_task g old new e Failed step is = absurd (true_false (sym is))
start_task g old new e Halt step is = absurd (true_false (sym is))
start_task g old new e Late step is = absurd (true_false (sym is))

hit_value : (a b c : Bool) (w : ℕ) → a ≡ true → (if b && c then 1 else 0) ≡ w → (if a && b && c then 1 else 0) ≡ w
hit_value a b c w is v = ap (λ (x : Bool). one_if (x && b && c)) is ∙ v

hit_none : (a b c : Bool) → a ≡ false → one_if (a && b && c) ≡ 0
hit_none a b c isnt = ap (λ (x : Bool). one_if (x && b && c)) isnt

spent_same : (p : PlanView) (cost a b : ℕ → ℕ → ℕ) → ((op task : ℕ) → b op task ≡ a op task) → spent p cost b ≡ spent p cost a
spent_same p cost a b same =
    sum_same (spent_in p cost a) (spent_in p cost b) (length p.ops)
    (λ k low. sum_same (λ t. a k t * cost k t) (λ t. b k t * cost k t) (tasks_of p.arrays (op_of p k)) (λ t below. ap (λ (n : ℕ). n * cost k t) (same k t)))

zero_is : (n : ℕ) → n ≤ 0 → 0 ≡ n
zero_is n none = omega (arith, none)

add_one : (h k : ℕ) → h ≡ 1 → h + k ≡ k + 1
add_one h k is = omega (arith, is)

add_none : (h k : ℕ) → h ≡ 0 → h + k ≡ k
add_none h k is = omega (arith, is)

add_cost : (x c s t u : ℕ) → x ≡ c → s ≡ t → u ≡ t + c → x + s ≡ u
add_cost x c s t u a b d = omega (arith, a, b, d)

-- the sum over the entries is that over the tasks, each as often as it is started
started_is : (g : Settings) (old : Machine) (es : List Entry) (new : Machine) → Run g old es new
    → started_calls g.plan es ≡ spent g.plan (calls_of g.plan) (λ op task. count_of_task is_start op task es)
started_is g old [] new run =
    zero_is (spent g.plan (calls_of g.plan) (λ op task. count_of_task is_start op task []))
    (spent_none g.plan (calls_of g.plan) (λ op task. count_of_task is_start op task []) (λ op task. refl))
started_is g old (e ∷ es) new (mid, step, run) =
    let cost = calls_of g.plan e.op e.task in
    let rest = started_is g mid es new run in
    elim (cases_Bool (is_start e.kind)) [
      | inl starts ↦
          add_cost (if is_start e.kind then cost else 0) cost (started_calls g.plan es)
          (spent g.plan (calls_of g.plan) (λ op task. count_of_task is_start op task es))
          (spent g.plan (calls_of g.plan) (λ op task. count_of_task is_start op task (e ∷ es)))
          (ap (λ (b : Bool). if b then cost else 0) starts) rest
          (spent_more g.plan (calls_of g.plan) (λ op task. count_of_task is_start op task es) (λ op task. count_of_task is_start op task (e ∷ es)) e.op e.task
          (start_task g old mid e e.kind step starts)
          (add_one (hit_of e e.op e.task) (count_of_task is_start e.op e.task es)
          (hit_value (is_start e.kind) (e.op == e.op) (e.task == e.task) 1 starts (weight_own e.op e.task e.worker)))
          (λ l other that apart. add_none (hit_of e l other) (count_of_task is_start l other es)
          (hit_value (is_start e.kind) (e.op == l) (e.task == other) 0 starts (weight_other e.op e.task e.worker l other apart))))
      | inr ends ↦
          add_cost (if is_start e.kind then cost else 0) 0 (started_calls g.plan es)
          (spent g.plan (calls_of g.plan) (λ op task. count_of_task is_start op task es))
          (spent g.plan (calls_of g.plan) (λ op task. count_of_task is_start op task (e ∷ es)))
          (ap (λ (b : Bool). if b then cost else 0) ends) rest
          (add_zero _ _ (spent_same g.plan (calls_of g.plan) (λ op task. count_of_task is_start op task es) (λ op task. count_of_task is_start op task (e ∷ es))
          (λ op task. add_none (hit_of e op task) (count_of_task is_start op task es) (hit_none (is_start e.kind) (e.op == op) (e.task == task) ends))))
    ]
  where
    add_zero : (a b : ℕ) → a ≡ b → a ≡ b + 0
    add_zero a b same = omega (arith, same)

-- at most so many starts of each task
pub started_within : (g : Settings) (done : List Bool) (history : List Entry) (m : Machine) → Replays g done history m → (most : ℕ)
    → ((op task : ℕ) → IsTask g.plan op task → count_of_task is_start op task history ≤ most) → started_calls g.plan history ≤ most * calls_of_tasks g.plan
started_within g done history m legal most few =
    let all : spent g.plan (calls_of g.plan) (λ op task. count_of_task is_start op task history) ≤ most * calls_of_tasks g.plan =
    spent_few g.plan (calls_of g.plan) (λ op task. count_of_task is_start op task history) most few in
    subst (λ (n : ℕ). n ≤ most * calls_of_tasks g.plan) (sym (started_is g (opening done) history m legal.1)) all

mul_sum : (m k r : ℕ) → (m + k) * r ≡ m * r + k * r
mul_sum m k r = mul_comm (m + k) r ∙ mul-add r m k ∙ ap (λ (x : ℕ). x + r * k) (mul_comm r m) ∙ ap (λ (x : ℕ). m * r + x) (mul_comm r k)

most_more : (x y s k m : ℕ) → x ≤ y * m → s ≤ k * m → x + s ≤ (y + k) * m
most_more x y s k m one rest = let e = mul_sum y k m in omega (arith, e, one, rest)

one_most : (a : Bool) (c m : ℕ) → (a ≡ true → c ≤ m) → (if a then c else 0) ≤ one_if a * m
one_most true c m most = let few = most refl in omega (arith, few)
one_most false c m most = omega arith

-- at most so many calls of each start
pub started_most : (g : Settings) (old : Machine) (es : List Entry) (new : Machine) → Run g old es new → (m : ℕ) → IsTaskMost g.plan m
    → started_calls g.plan es ≤ count_kind is_start es * m
started_most g old [] new run m most = omega arith
started_most g old (e ∷ es) new (mid, step, run) m most =
    most_more (if is_start e.kind then calls_of g.plan e.op e.task else 0) (one_if (is_start e.kind)) (started_calls g.plan es) (count_kind is_start es) m
    (one_most (is_start e.kind) (calls_of g.plan e.op e.task) m
    (λ starts. let is = start_task g old mid e e.kind step starts in most e.op e.task is.operation is.number))
    (started_most g mid es new run m most)

-- ---- the workers of a history

several : (n : ℕ) (backups : Bool) (retries k : ℕ) → (n == 1) ≡ false → k ≤ retries + 1 + one_if backups → k ≤ most_starts n backups retries
several n backups retries k isnt few =
    subst (λ (b : Bool). k ≤ retries + 1 + (if not b && backups then 1 else 0)) (sym isnt) few

-- several workers
pub of_several : (n : ℕ) → (n == 1) ≡ false → (g : Settings) (done : List Bool) (history : List Entry) (m : Machine) → Replays g done history m
    → All (λ e. e.worker < n) history → IsOfWorkers n g history
of_several n isnt g done history m legal numbers = record {
  numbers = numbers;
  starts = λ op task that. several n g.backups g.retries (count_of_task is_start op task history) isnt (started_few g done history m legal op task that);
}

plus_none : (k n : ℕ) → k ≤ n → k ≤ n + 0
plus_none k n few = omega (arith, few)

-- a worker alone
pub alone_starts : (backups : Bool) (retries k : ℕ) → k ≤ retries + 1 → k ≤ most_starts 1 backups retries
alone_starts backups retries k few = plus_none k (retries + 1) few

more_starts : (retries k x : ℕ) → k ≤ retries + 1 + 0 → k ≤ retries + 1 + x
more_starts retries k x few = omega (arith, few)

-- one of them
pub of_one : (n : ℕ) → 0 < n → (g : Settings) (history : List Entry) → IsOfWorkers 1 g history → IsOfWorkers n g history
of_one n some g history one = record {
  numbers = λ k d low. let first = one.numbers k d low in omega (arith, first, some);
  starts = λ op task that. more_starts g.retries (count_of_task is_start op task history) (if not (n == 1) && g.backups then 1 else 0) (one.starts op task that);
}

-- fewer of them
pub of_fewer : (few n : ℕ) → 0 < few → few ≤ n → (g : Settings) (history : List Entry) → IsOfWorkers few g history → IsOfWorkers n g history
of_fewer few n some most g history fewer =
    elim (eqb_tells few 1) [
      | inl one ↦ of_one n (omega (arith, some, most)) g history (subst (λ (k : ℕ). IsOfWorkers k g history) one.1 fewer)
      | inr more ↦
          let isnt : n ≡ 1 → ⊥ = λ e. more.1 (omega (arith, e, some, most)) in
          record {
            numbers = λ k d low. let first = fewer.numbers k d low in omega (arith, first, most);
            starts = λ op task that.
                subst (λ (b : Bool). count_of_task is_start op task history ≤ g.retries + 1 + (if not b && g.backups then 1 else 0))
                (more.0 ∙ sym (ne_eqb n 1 isnt)) (fewer.starts op task that);
          }
    ]
