-- The list of copies that run: each worker has one at most, and how many are of a task.
use Rattle.std.proofs.Common.{◌≡◌, ◌≢◌, ◌⊎◌, inl, inr, ℕ, zero, suc, ◌+◌, ◌<◌, ◌≤◌, ◌==◌, true, false, List, [], ◌∷◌, ◌++◌, length, get_or, All, Contains, sum_by, refl, ap, sym, ◌∙◌, subst, arith}
use Rattle.std.specs.List.{remove}
use Rattle.std.specs.Prelude.{◌&&◌, if◌then◌else◌}
use Rattle.std.proofs.lemmas.Bool.{cases_Bool, eqb-true, eq-eqb, ne_eqb, and_from, and_parts, cond-true, cond-false}
use Rattle.std.proofs.lemmas.List.Elements.{All-nil, All-cons, All-head, All-tail, All-contains, All-push}
use Rattle.std.proofs.lemmas.List.Sums.{sum_by-cons}
use Rattle.cu_table.specs.declared.state.RunningCopy.{RunningCopy}
use Rattle.cu_table.specs.Machine.{without}

abbrev pub a_copy : ℕ → ℕ → ℕ → RunningCopy
a_copy worker op task = record { worker = worker; op = op; task = task }

-- no worker has two
abbrev pub Apart : List RunningCopy → Type 0
Apart [] = Unit {0}
Apart (c ∷ cs) = All (λ d. d.worker ≢ c.worker) cs × Apart cs

-- 1 for a copy of the task
abbrev pub weight : ℕ → ℕ → RunningCopy → ℕ
weight op task c = if c.op == op && c.task == task then 1 else 0

abbrev pub copies_of : ℕ → ℕ → List RunningCopy → ℕ
copies_of op task copies = sum_by (weight op task) copies

pub weight_own : (op task worker : ℕ) → weight op task (a_copy worker op task) ≡ 1
weight_own op task worker = cond-true (op == op && task == task) 1 0 (and_from (op == op) (task == task) (eq-eqb op op refl) (eq-eqb task task refl))

pub weight_other : (op task worker l other : ℕ) → ((op ≡ l) × (task ≡ other) → ⊥) → weight l other (a_copy worker op task) ≡ 0
weight_other op task worker l other h =
    elim (cases_Bool (op == l && task == other)) [
      | inl is ↦ absurd (let (a, b) = and_parts (op == l) (task == other) is in h (eqb-true op l a, eqb-true task other b))
      | inr isnt ↦ cond-false (op == l && task == other) 1 0 isnt
    ]

pub apart_push : (cs : List RunningCopy) (c : RunningCopy) → Apart cs → All (λ d. d.worker ≢ c.worker) cs → Apart (cs ++ c ∷ [])
apart_push [] c h free = (All-nil (λ d. d.worker ≢ c.worker), tt)
apart_push (e ∷ cs) c h free = (
  All-push (λ d. d.worker ≢ e.worker) cs c h.0 (λ same. All-head (λ d. d.worker ≢ c.worker) e cs free (sym same)),
  apart_push cs c h.1 (All-tail (λ d. d.worker ≢ c.worker) e cs free),
)

contains_cons : (x y : RunningCopy) (xs : List RunningCopy) → Contains (x ∷ xs) y → (x ≡ y) ⊎ Contains xs y
contains_cons x y xs (zero, h, e) = inl e
contains_cons x y xs (suc k, h, e) = inr (k, omega (arith, h), e)

-- what is left is among what was
pub All-without : (P : RunningCopy → Type 0) (worker : ℕ) (cs : List RunningCopy) → All P cs → All P (without worker cs)
All-without P worker [] h = h
All-without P worker (c ∷ cs) h =
    elim (cases_Bool (c.worker == worker)) [
      | inl is ↦ subst (All P) (sym (cond-true (c.worker == worker) cs (c ∷ without worker cs) is)) (All-tail P c cs h)
      | inr isnt ↦ subst (All P) (sym (cond-false (c.worker == worker) cs (c ∷ without worker cs) isnt)) (All-cons P c (without worker cs) (All-head P c cs h) (All-without P worker cs (All-tail P c cs h)))
    ]

pub apart_without : (worker : ℕ) (cs : List RunningCopy) → Apart cs → Apart (without worker cs)
apart_without worker [] h = tt
apart_without worker (c ∷ cs) h =
    elim (cases_Bool (c.worker == worker)) [
      | inl is ↦ subst Apart (sym (cond-true (c.worker == worker) cs (c ∷ without worker cs) is)) h.1
      | inr isnt ↦ subst Apart (sym (cond-false (c.worker == worker) cs (c ∷ without worker cs) isnt)) (All-without (λ d. d.worker ≢ c.worker) worker cs h.0, apart_without worker cs h.1)
    ]

-- the one that goes is the worker's
pub sum_without : (f : RunningCopy → ℕ) (worker op task : ℕ) (cs : List RunningCopy) → Apart cs → Contains cs (a_copy worker op task)
    → sum_by f (without worker cs) + f (a_copy worker op task) ≡ sum_by f cs
sum_without f worker op task [] h in' = absurd (let l = in'.1 in omega (arith, l))
sum_without f worker op task (c ∷ cs) h in' =
    elim (contains_cons c (a_copy worker op task) cs in') [
      | inl same ↦
          let w : (c.worker == worker) ≡ true = eq-eqb c.worker worker (ap (λ (x : RunningCopy). x.worker) same) in
          let a = ap (sum_by f) (cond-true (c.worker == worker) cs (c ∷ without worker cs) w) in
          let b = ap f same in
          let s = sum_by-cons f c cs in
          omega (arith, a, b, s)
      | inr later ↦
          let w : (c.worker == worker) ≡ false = ne_eqb c.worker worker (λ same. All-contains (λ d. d.worker ≢ c.worker) cs (a_copy worker op task) h.0 later (sym same)) in
          let a = ap (sum_by f) (cond-false (c.worker == worker) cs (c ∷ without worker cs) w) in
          let s = sum_by-cons f c cs in
          let t = sum_by-cons f c (without worker cs) in
          let i = sum_without f worker op task cs h.1 later in
          omega (arith, a, s, t, i)
    ]

-- a list in which the worker has none stays
pub without_none : (worker : ℕ) (cs : List RunningCopy) → ((k : ℕ) (d : RunningCopy) → k < length cs → (get_or cs k d).worker ≢ worker) → without worker cs ≡ cs
without_none worker [] h = refl
without_none worker (c ∷ cs) h =
    cond-false (c.worker == worker) cs (c ∷ without worker cs) (ne_eqb c.worker worker (h 0 c (omega arith)))
    ∙ ap (λ (xs : List RunningCopy). c ∷ xs) (without_none worker cs (λ k d l. h (suc k) d (omega (arith, l))))

-- the first that is the worker's goes
pub without_first : (worker i : ℕ) (cs : List RunningCopy) (d : RunningCopy) → i < length cs → ((k : ℕ) (e : RunningCopy) → k < i → (get_or cs k e).worker ≢ worker)
    → (get_or cs i d).worker ≡ worker → without worker cs ≡ remove cs i
without_first worker i [] d l before at = absurd (omega (arith, l))
without_first worker zero (c ∷ cs) d l before at = cond-true (c.worker == worker) cs (c ∷ without worker cs) (eq-eqb c.worker worker at)
without_first worker (suc i) (c ∷ cs) d l before at =
    cond-false (c.worker == worker) cs (c ∷ without worker cs) (ne_eqb c.worker worker (before 0 c (omega arith)))
    ∙ ap (λ (xs : List RunningCopy). c ∷ xs) (without_first worker i cs d (omega (arith, l)) (λ k e b. before (suc k) e (omega (arith, b))) at)

-- where a task is counted there is a copy of it
pub some_copy : (op task : ℕ) (cs : List RunningCopy) → 1 ≤ copies_of op task cs → (worker : ℕ) × Contains cs (a_copy worker op task)
some_copy op task [] some = absurd (omega (arith, some))
some_copy op task (c ∷ cs) some =
    elim (cases_Bool (c.op == op && c.task == task)) [
      | inl is ↦
          let (a, b) = and_parts (c.op == op) (c.task == task) is in
          (c.worker, (0, omega arith, ap (λ (o : ℕ). a_copy c.worker o c.task) (eqb-true c.op op a) ∙ ap (λ (t : ℕ). a_copy c.worker op t) (eqb-true c.task task b)))
      | inr isnt ↦
          let s = sum_by-cons (weight op task) c cs in
          let w : weight op task c ≡ 0 = cond-false (c.op == op && c.task == task) 1 0 isnt in
          let (worker, (k, l, e)) = some_copy op task cs (omega (arith, some, s, w)) in
          (worker, (suc k, omega (arith, l), e))
    ]
