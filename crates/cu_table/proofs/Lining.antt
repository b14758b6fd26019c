-- The lists of waiting tasks: a task is put into one, or taken out.
use Rattle.std.proofs.Common.{◌≡◌, ◌≢◌, ◌⊎◌, inl, inr, ℕ, zero, suc, ◌+◌, ◌<◌, ◌≤◌, List, [], ◌∷◌, ◌++◌, length, get_or, sum_by, cond, refl, ap, sym, ◌∙◌, subst, arith}
use Rattle.std.specs.Prelude.{◌==◌}
use Rattle.std.proofs.lemmas.Bool.{cases_eq, cases_lt}
use Rattle.std.proofs.lemmas.List.{get_or-set_same, get_or-set_other, length-set, get_or_past}
use Rattle.std.proofs.lemmas.List.Sums.{sum_by-cons, sum_by_push, sum_by-set, get_or-le-sum_by}
use Rattle.cu_op.specs.PlanView.{PlanView}
use Rattle.cu_table.specs.declared.state.TaskId.{TaskId}
use Rattle.cu_table.specs.Numbers.{IsTask, task_count, task_number}
use Rattle.cu_table.specs.Machine.{Machine, IsDone, IsWaiting, AreInputsDone}
use Rattle.cu_table.specs.Queue.{Lined, times_in, watchers_of, held, pushed, watched, Blocks, IsOver, IsLined, HasListPlace, Settles, undone_of}
use Rattle.cu_table.proofs.Numbers.{number_below, number_once}
use Rattle.cu_table.proofs.Chains.{count_first, one_same, one_other}

-- ---- counts

abbrev one : ℕ → ℕ → ℕ
one i j = cond (i == j) 1 0

pub count_push : (j i : ℕ) (tasks : List ℕ) → times_in j (tasks ++ i ∷ []) ≡ times_in j tasks + one i j
count_push j i tasks = sum_by_push (λ (x : ℕ). cond (x == j) 1 0) tasks i

held_pushed : (q : Lined) (i j : ℕ) → held j (pushed q i) ≡ held j q + one i j
held_pushed q i j = let a = count_push j i q.waiting in omega (arith, a)

module _ (q : Lined) (x : ℕ) (within : x < length q.watching) where
  held_watched : (tasks : List ℕ) (j : ℕ) → held j (watched q x tasks) + times_in j (watchers_of q x) ≡ held j q + times_in j tasks
  held_watched tasks j = let a = sum_by-set (times_in j) q.watching x tasks [] within in omega (arith, a)

  held_more : (i j : ℕ) → held j (watched q x (i ∷ watchers_of q x)) ≡ held j q + one i j
  held_more i j = let a = held_watched (i ∷ watchers_of q x) j in let b = count_first j i (watchers_of q x) in omega (arith, a, b)

  held_less : (i : ℕ) (rest : List ℕ) → watchers_of q x ≡ i ∷ rest → (j : ℕ) → held j (watched q x rest) + one i j ≡ held j q
  held_less i rest at j = let a = held_watched rest j in let b = ap (times_in j) at in let c = count_first j i rest in omega (arith, a, b, c)

  watchers_own : (tasks : List ℕ) → watchers_of (watched q x tasks) x ≡ tasks
  watchers_own tasks = get_or-set_same q.watching x tasks [] within

watchers_other : (q : Lined) (x y : ℕ) (tasks : List ℕ) → y ≢ x → watchers_of (watched q x tasks) y ≡ watchers_of q y
watchers_other q x y tasks apart = get_or-set_other q.watching x y tasks [] apart

-- what stands in a list is held
in_waiting : (q : Lined) (j : ℕ) → times_in j q.waiting ≤ held j q
in_waiting q j = omega arith

pub in_watching : (q : Lined) (x j : ℕ) → times_in j (watchers_of q x) ≤ held j q
in_watching q x j =
    elim (cases_lt x (length q.watching)) [
      | inl within ↦ let a = get_or-le-sum_by (times_in j) q.watching x [] within in omega (arith, a)
      | inr past ↦ let e = ap (times_in j) (get_or_past q.watching x [] past) in omega (arith, e)
    ]

-- what is held in some list stands in one
pub some_list : (j : ℕ) (lists : List (List ℕ)) → 1 ≤ sum_by (times_in j) lists → (x : ℕ) × (1 ≤ times_in j (get_or lists x []))
some_list j [] some = absurd (omega (arith, some))
some_list j (l ∷ ls) some =
    let s = sum_by-cons (times_in j) l ls in
    elim (cases_lt 0 (times_in j l)) [
      | inl here ↦ (0, here)
      | inr none ↦ (let (x, there) = some_list j ls (omega (arith, s, some, none)) in (suc x, there))
    ]

-- a task whose number this is
same_as : (p : PlanView) (P : ℕ → ℕ → Type 0) (op task l other : ℕ) → IsTask p op task → IsTask p l other → task_number p op task ≡ task_number p l other → P op task → P l other
same_as p P op task l other is that e h =
    let (a, b) = number_once p op task l other is that e in
    subst (λ (k : ℕ). P k other) a (subst (λ (t : ℕ). P op t) b h)

-- ---- a thing that keeps a task waiting isn't over

pub not_over : (p : PlanView) (m : Machine) (x op task : ℕ) → Blocks p m x op task → IsOver p m x → ⊥
not_over p m x op task (inl w) (inl (k, t, is, done, e)) =
    let makes = w.makes.2 in
    let was = same_as p (λ l o. IsDone p m l o) k t w.maker w.number is (record { operation = makes.operation; number = makes.number }) (sym e ∙ w.thing) done in
    let undone = w.undone in
    cc (was, undone)
not_over p m x op task (inl w) (inr (k, within, none, e)) =
    let makes = w.makes.2 in
    let b = number_below p w.maker w.number (record { operation = makes.operation; number = makes.number }) in
    let f = w.thing in
    omega (arith, b, e, f)
not_over p m x op task (inr w) (inl (k, t, is, done, e)) = let b = number_below p k t is in let f = w.thing in omega (arith, b, e, f)
not_over p m x op task (inr w) (inr (k, within, none, e)) =
    let f = w.thing in
    let same : k ≡ w.maker = omega (arith, e, f) in
    w.undone (ap (λ (l : ℕ). undone_of p m l) (sym same) ∙ none)

-- ---- a waiting task is put into a list

module _ (p : PlanView) (m : Machine) (missing missing_after : ℕ → Type 0) (old new : Lined) (lined : IsLined p m missing old) (op task : ℕ) (is : IsTask p op task) (waits : IsWaiting p m op task)
    (apart : held (task_number p op task) old ≡ 0) (less : (j : ℕ) → missing j → (j ≡ task_number p op task) ⊎ missing_after j) where
  -- a record of what holds of the lists, by how often the task stands in them
  module _ (size : new.size ≡ old.size) (things : length new.watching ≡ length old.watching) (grown : (j : ℕ) → held j new ≡ held j old + one (task_number p op task) j)
      (ready : (l other : ℕ) → IsTask p l other → 1 ≤ times_in (task_number p l other) new.waiting → AreInputsDone p m l other × IsWaiting p m l other)
      (watching : (x l other : ℕ) → IsTask p l other → 1 ≤ times_in (task_number p l other) (watchers_of new x) → IsWaiting p m l other × (Blocks p m x l other ⊎ IsOver p m x)) where
    lined_grown : IsLined p m missing_after new
    lined_grown = record {
      limit = lined.limit;
      size = size ∙ lined.size;
      things = things ∙ lined.things;
      once = λ j. let g = grown j in let o = lined.once j in elim (cases_eq (task_number p op task) j) [
        | inl e ↦ let s = one_same (task_number p op task) j e in let a = ap (λ (k : ℕ). held k old) (sym e) in omega (arith, g, s, a, apart)
        | inr n ↦ let s = one_other (task_number p op task) j n in omega (arith, g, s, o)
      ];
      small = λ j h. let g = grown j in elim (cases_eq (task_number p op task) j) [
        | inl e ↦ let b = number_below p op task is in omega (arith, b, e)
        | inr n ↦ lined.small j (let s = one_other (task_number p op task) j n in omega (arith, g, s, h))
      ];
      ready = ready;
      watching_for = watching;
      all = λ l other that idle. let g = grown (task_number p l other) in elim (lined.all l other that idle) [
        | inl has ↦ inl (omega (arith, g, has))
        | inr none ↦ elim (less (task_number p l other) none) [
          | inl e ↦ inl (let s = one_same (task_number p op task) (task_number p l other) (sym e) in omega (arith, g, s))
          | inr still ↦ inr still
        ]
      ];
    }

  pub lined_pushed : AreInputsDone p m op task → new ≡ pushed old (task_number p op task) → IsLined p m missing_after new
  lined_pushed ready is_new =
      lined_grown (ap (λ (q : Lined). q.size) is_new) (ap (λ (q : Lined). length q.watching) is_new)
      (λ j. ap (held j) is_new ∙ held_pushed old (task_number p op task) j)
      (λ l other that h. elim (cases_eq (task_number p op task) (task_number p l other)) [
        | inl e ↦ same_as p (λ k t. AreInputsDone p m k t × IsWaiting p m k t) op task l other is that e (ready, waits)
        | inr n ↦ lined.ready l other that (
            let a = ap (λ (q : Lined). times_in (task_number p l other) q.waiting) is_new in
            let b = count_push (task_number p l other) (task_number p op task) old.waiting in
            let s = one_other (task_number p op task) (task_number p l other) n in
            omega (arith, a, b, s, h))
      ])
      (λ x l other that h. lined.watching_for x l other that (let a = ap (λ (q : Lined). times_in (task_number p l other) (watchers_of q x)) is_new in omega (arith, a, h)))

  pub lined_watched : (x : ℕ) → Blocks p m x op task → x < length old.watching → new ≡ watched old x (task_number p op task ∷ watchers_of old x) → IsLined p m missing_after new
  lined_watched x blocks within is_new =
      lined_grown (ap (λ (q : Lined). q.size) is_new)
      (ap (λ (q : Lined). length q.watching) is_new ∙ length-set old.watching x (task_number p op task ∷ watchers_of old x))
      (λ j. ap (held j) is_new ∙ held_more old x within (task_number p op task) j)
      (λ l other that h. lined.ready l other that (let a = ap (λ (q : Lined). times_in (task_number p l other) q.waiting) is_new in omega (arith, a, h)))
      (λ y l other that h. elim (cases_eq y x) [
        | inr other_thing ↦ lined.watching_for y l other that (
            let a = ap (λ (q : Lined). times_in (task_number p l other) (watchers_of q y)) is_new in
            let b = ap (times_in (task_number p l other)) (watchers_other old x y (task_number p op task ∷ watchers_of old x) other_thing) in
            omega (arith, a, b, h))
        | inl here ↦ elim (cases_eq (task_number p op task) (task_number p l other)) [
          | inl e ↦ (
            same_as p (λ k t. IsWaiting p m k t) op task l other is that e waits,
            inl (subst (λ (z : ℕ). Blocks p m z l other) (sym here) (same_as p (λ k t. Blocks p m x k t) op task l other is that e blocks)),
          )
          | inr n ↦ subst (λ (z : ℕ). IsWaiting p m l other × (Blocks p m z l other ⊎ IsOver p m z)) (sym here) (lined.watching_for x l other that (
              let a = ap (λ (q : Lined). times_in (task_number p l other) (watchers_of q y)) is_new in
              let b = ap (λ (z : ℕ). times_in (task_number p l other) (watchers_of (watched old x (task_number p op task ∷ watchers_of old x)) z)) here in
              let c = ap (times_in (task_number p l other)) (watchers_own old x within (task_number p op task ∷ watchers_of old x)) in
              let f = count_first (task_number p l other) (task_number p op task) (watchers_of old x) in
              let s = one_other (task_number p op task) (task_number p l other) n in
              omega (arith, a, b, c, f, s, h)))
        ]
      ])

  pub lined_settled : Settles p m (record { op = op; task = task }) old new → IsLined p m missing_after new
  lined_settled (inl (ready, is_new)) = lined_pushed ready is_new
  lined_settled (inr (x, blocks, within, is_new)) = lined_watched x blocks within is_new

-- any other task stands in the lists as often as before
pub held_settled : (p : PlanView) (m : Machine) (id : TaskId) (old new : Lined) → Settles p m id old new → (j : ℕ) → (j ≡ task_number p id.op id.task → ⊥) → held j new ≡ held j old
held_settled p m id old new (inl (ready, is_new)) j other =
    let a = ap (held j) is_new ∙ held_pushed old (task_number p id.op id.task) j in
    let s = one_other (task_number p id.op id.task) j (λ e. other (sym e)) in
    omega (arith, a, s)
held_settled p m id old new (inr (x, blocks, within, is_new)) j other =
    let a = ap (held j) is_new ∙ held_more old x within (task_number p id.op id.task) j in
    let s = one_other (task_number p id.op id.task) j (λ e. other (sym e)) in
    omega (arith, a, s)

-- no task is put where it watches a thing that is over
pub same_watchers : (p : PlanView) (m : Machine) (id : TaskId) (old new : Lined) → Settles p m id old new → (y : ℕ) → IsOver p m y → watchers_of new y ≡ watchers_of old y
same_watchers p m id old new (inl (ready, is_new)) y over = ap (λ (q : Lined). watchers_of q y) is_new
same_watchers p m id old new (inr (x, blocks, within, is_new)) y over =
    ap (λ (q : Lined). watchers_of q y) is_new
    ∙ watchers_other old x y (task_number p id.op id.task ∷ watchers_of old x) (λ e. not_over p m x id.op id.task blocks (subst (IsOver p m) e over))

pub still_quiet : (p : PlanView) (m : Machine) (id : TaskId) (old new : Lined) → Settles p m id old new → (y : ℕ) → IsOver p m y → watchers_of old y ≡ [] → watchers_of new y ≡ []
still_quiet p m id old new settles y over none = same_watchers p m id old new settles y over ∙ none

-- ---- a task is taken out of a list

module _ (p : PlanView) (m : Machine) (missing : ℕ → Type 0) (old new : Lined) (lined : IsLined p m missing old) (x j : ℕ) (within : x < length old.watching)
    (at : watchers_of old x ≡ j ∷ watchers_of new x) (is_new : new ≡ watched old x (watchers_of new x)) where
  less_at : (i : ℕ) → held i new + one j i ≡ held i old
  less_at i = let a = held_less old x within j (watchers_of new x) at i in let b = ap (held i) is_new in omega (arith, a, b)

  pub taken_apart : held j new ≡ 0
  taken_apart = let a = less_at j in let s = one_same j j refl in let o = lined.once j in omega (arith, a, s, o)

  pub taken_small : j < task_count p
  taken_small = lined.small j (let a = less_at j in let s = one_same j j refl in omega (arith, a, s))

  pub taken_waits : (op task : ℕ) → IsTask p op task → task_number p op task ≡ j → IsWaiting p m op task
  taken_waits op task is e =
      (lined.watching_for x op task is (
      let a = ap (times_in (task_number p op task)) at in
      let f = count_first (task_number p op task) j (watchers_of new x) in
      let s = one_same j (task_number p op task) (sym e) in
      omega (arith, a, f, s))).0

  pub lined_taken : IsLined p m (λ i. (i ≡ j) ⊎ missing i) new
  lined_taken = record {
    limit = lined.limit;
    size = ap (λ (q : Lined). q.size) is_new ∙ lined.size;
    things = ap (λ (q : Lined). length q.watching) is_new ∙ length-set old.watching x (watchers_of new x) ∙ lined.things;
    once = λ i. let a = less_at i in let o = lined.once i in omega (arith, a, o);
    small = λ i h. lined.small i (let a = less_at i in omega (arith, a, h));
    ready = λ l other that h. lined.ready l other that (let a = ap (λ (q : Lined). times_in (task_number p l other) q.waiting) is_new in omega (arith, a, h));
    watching_for = λ y l other that h. lined.watching_for y l other that (elim (cases_eq y x) [
      | inl here ↦
          let a = ap (λ (z : ℕ). times_in (task_number p l other) (watchers_of new z)) here in
          let b = ap (λ (z : ℕ). times_in (task_number p l other) (watchers_of old z)) here in
          let c = ap (times_in (task_number p l other)) at in
          let f = count_first (task_number p l other) j (watchers_of new x) in
          omega (arith, a, b, c, f, h)
      | inr elsewhere ↦
          let a = ap (λ (q : Lined). times_in (task_number p l other) (watchers_of q y)) is_new in
          let b = ap (times_in (task_number p l other)) (watchers_other old x y (watchers_of new x) elsewhere) in
          omega (arith, a, b, h)
    ]);
    all = λ l other that idle. elim (lined.all l other that idle) [
      | inr none ↦ inr (inr none)
      | inl has ↦ elim (cases_eq (task_number p l other) j) [
        | inl e ↦ inr (inl e)
        | inr n ↦ inl (let a = less_at (task_number p l other) in let s = one_other j (task_number p l other) (λ e. n (sym e)) in omega (arith, a, s, has))
      ]
    ];
  }

  pub quiet_taken : (y : ℕ) → watchers_of old y ≡ [] → watchers_of new y ≡ []
  quiet_taken y none = elim (cases_eq y x) [
    | inl here ↦ absurd (let e = ap length (sym at ∙ ap (watchers_of old) (sym here) ∙ none) in omega (arith, e))
    | inr elsewhere ↦ ap (λ (q : Lined). watchers_of q y) is_new ∙ watchers_other old x y (watchers_of new x) elsewhere ∙ none
  ]

  pub shorter : length (watchers_of new x) + 1 ≡ length (watchers_of old x)
  shorter = let e = ap length at in omega (arith, e)

-- ---- few tasks stand in a list

upto : ℕ → (ℕ → ℕ) → ℕ
upto zero f = 0
upto (suc n) f = upto n f + f n

upto_past : (n i : ℕ) (tasks : List ℕ) → n ≤ i → upto n (λ j. times_in j (i ∷ tasks)) ≡ upto n (λ j. times_in j tasks)
unfolding upto
upto_past zero i tasks h = refl
upto_past (suc n) i tasks h =
    let r = upto_past n i tasks (omega (arith, h)) in
    let f = count_first n i tasks in
    let s = one_other i n (λ e. omega (arith, e, h)) in
    omega (arith, r, f, s)

upto_in : (n i : ℕ) (tasks : List ℕ) → i < n → upto n (λ j. times_in j (i ∷ tasks)) ≡ upto n (λ j. times_in j tasks) + 1
unfolding upto
upto_in zero i tasks h = absurd (omega (arith, h))
upto_in (suc n) i tasks h =
    let f = count_first n i tasks in
    elim (cases_eq i n) [
      | inl e ↦ let r = upto_past n i tasks (omega (arith, e)) in let s = one_same i n e in omega (arith, r, f, s)
      | inr d ↦ let r = upto_in n i tasks (omega (arith, h, d)) in let s = one_other i n d in omega (arith, r, f, s)
    ]

upto_none : (n : ℕ) → upto n (λ j. times_in j []) ≡ 0
unfolding upto
upto_none zero = refl
upto_none (suc n) = let r = upto_none n in omega (arith, r)

upto_few : (n : ℕ) (f : ℕ → ℕ) → ((j : ℕ) → f j ≤ 1) → upto n f ≤ n
unfolding upto
upto_few zero f h = omega arith
upto_few (suc n) f h = let r = upto_few n f h in let a = h n in omega (arith, r, a)

upto_all : (n : ℕ) (tasks : List ℕ) → ((j : ℕ) → 1 ≤ times_in j tasks → j < n) → length tasks ≡ upto n (λ j. times_in j tasks)
upto_all n [] small = sym (upto_none n)
upto_all n (i ∷ tasks) small =
    let r = upto_all n tasks (λ j h. small j (let f = count_first j i tasks in omega (arith, f, h))) in
    let s = upto_in n i tasks (small i (let f = count_first i i tasks in let o = one_same i i refl in omega (arith, f, o))) in
    omega (arith, r, s)

-- numbers below n, each once, are at most n
pub few_once : (n : ℕ) (tasks : List ℕ) → ((j : ℕ) → times_in j tasks ≤ 1) → ((j : ℕ) → 1 ≤ times_in j tasks → j < n) → length tasks ≤ n
few_once n tasks once small = let a = upto_all n tasks small in let b = upto_few n (λ j. times_in j tasks) once in omega (arith, a, b)

-- a task in no list has place
pub has_place : (p : PlanView) (m : Machine) (missing : ℕ → Type 0) (q : Lined) → IsLined p m missing q → (j : ℕ) → j < task_count p → held j q ≡ 0 → HasListPlace p q j
has_place p m missing q lined j small apart = record {
  size = lined.size;
  things = lined.things;
  within = small;
  apart = apart;
  room = (
      let n = few_once (task_count p) (j ∷ q.waiting)
      (λ i. let f = count_first i j q.waiting in let o = lined.once i in let w = in_waiting q i in elim (cases_eq j i) [
        | inl e ↦ let s = one_same j i e in let a = ap (λ (k : ℕ). held k q) e in omega (arith, f, w, s, a, apart)
        | inr d ↦ let s = one_other j i d in omega (arith, f, o, w, s)
      ])
      (λ i h. let f = count_first i j q.waiting in let w = in_waiting q i in elim (cases_eq j i) [
        | inl e ↦ omega (arith, small, e)
        | inr d ↦ lined.small i (let s = one_other j i d in omega (arith, f, w, s, h))
      ]) in
      let s = lined.size in
      omega (arith, n, s));
  few = λ x. (
      let n = few_once (task_count p) (watchers_of q x)
      (λ i. let o = lined.once i in let w = in_watching q x i in omega (arith, o, w))
      (λ i h. lined.small i (let w = in_watching q x i in omega (arith, w, h))) in
      let t = lined.limit in
      omega (arith, n, t));
}

-- a thing that keeps a task waiting has a list
pub thing_within : (p : PlanView) (m : Machine) (x op task : ℕ) (n : ℕ) → Blocks p m x op task → n ≡ task_count p + length p.ops → x < n
thing_within p m x op task n (inl w) e =
    let makes = w.makes.2 in
    let b = number_below p w.maker w.number (record { operation = makes.operation; number = makes.number }) in
    let f = w.thing in
    omega (arith, b, e, f)
thing_within p m x op task n (inr w) e = let b = w.within in let f = w.thing in omega (arith, b, e, f)

-- ---- a task that was put into a list, named by its number

module _ (p : PlanView) (m : Machine) (at : TaskId) (is : IsTask p at.op at.task) (number : ℕ) (is_number : task_number p at.op at.task ≡ number) (old new : Lined) where
  pub settle_pushed : AreInputsDone p m at.op at.task → new ≡ pushed old number → (id : TaskId) → IsTask p id.op id.task → task_number p id.op id.task ≡ number → Settles p m id old new
  settle_pushed ready is_new id that n =
      inl (same_as p (λ k t. AreInputsDone p m k t) at.op at.task id.op id.task is that (is_number ∙ sym n) ready, is_new ∙ ap (pushed old) (sym n))

  pub settle_watched : (x : ℕ) → Blocks p m x at.op at.task → x < length old.watching → new ≡ watched old x (number ∷ watchers_of old x)
      → (id : TaskId) → IsTask p id.op id.task → task_number p id.op id.task ≡ number → Settles p m id old new
  settle_watched x blocks within is_new id that n =
      inr (
        x,
        same_as p (λ k t. Blocks p m x k t) at.op at.task id.op id.task is that (is_number ∙ sym n) blocks,
        within,
        is_new ∙ ap (λ (k : ℕ). watched old x (k ∷ watchers_of old x)) (sym n),
      )

-- a thing that is over has a list
pub over_within : (p : PlanView) (m : Machine) (x n : ℕ) → IsOver p m x → n ≡ task_count p + length p.ops → x < n
over_within p m x n (inl (k, t, is, done, at)) e = let b = number_below p k t is in omega (arith, b, e, at)
over_within p m x n (inr (k, within, none, at)) e = omega (arith, within, e, at)
