-- The lists of waiting tasks after a change of one task.
use Rattle.std.proofs.Common.{◌≡◌, ◌≢◌, ◌⊎◌, inl, inr, ℕ, ◌+◌, ◌≤◌, ◌==◌, Bool, true, false, List, [], length, get_or, set, sum_by, cond, refl, ap, sym, ◌∙◌, subst, arith}
use Rattle.std.proofs.lemmas.Bool.{cases_eq, cases_lt, cond-true, cond-false}
use Rattle.cu_op.specs.PlanView.{PlanView}
use Rattle.cu_table.specs.declared.line.Undone.{Undone}
use Rattle.cu_table.specs.declared.state.TaskId.{TaskId}
use Rattle.cu_table.specs.declared.state.TaskState.{TaskState}
use Rattle.cu_table.specs.Numbers.{IsTask, task_count, task_number}
use Rattle.cu_table.specs.Machine.{Machine, state_at, IsDone, IsWaiting, AreInputsDone}
use Rattle.cu_table.specs.Table.{undone_weight}
use Rattle.cu_table.specs.Queue.{Lined, times_in, watchers_of, held, pushed, of_tasks, undone_of, Blocks, IsOver, IsLined, IsQueue, IsWoken, IsTakenLast, HasListPlace, AreUndone}
use Rattle.cu_table.proofs.Numbers.{number_below, number_once}
use Rattle.cu_table.proofs.Chains.{one_same, one_other}
use Rattle.cu_table.proofs.Lining.{count_push, in_watching, some_list, lined_pushed, has_place}
use Rattle.cu_table.proofs.Changing.{SameDone, same_task, as_task, made_task, ready_as, blocks_as, over_as, turned, state_own, state_other, left_is, undone_own, undone_other}

-- ---- the same lists for another machine

module _ (p : PlanView) (a b : Machine) (before after : ℕ → Type 0) (q : Lined) (lined : IsLined p a before q)
    (ready_more : (l other : ℕ) → AreInputsDone p a l other → AreInputsDone p b l other)
    (waits_more : (l other : ℕ) → IsTask p l other → 1 ≤ held (task_number p l other) q → IsWaiting p a l other → IsWaiting p b l other)
    (waits_less : (l other : ℕ) → IsTask p l other → IsWaiting p b l other → (IsWaiting p a l other × (before (task_number p l other) → after (task_number p l other))) ⊎ after (task_number p l other))
    (blocks_more : (x l other : ℕ) → Blocks p a x l other → Blocks p b x l other ⊎ IsOver p b x)
    (over_more : (x : ℕ) → IsOver p a x → IsOver p b x) where
  in_watched : (x j : ℕ) → 1 ≤ times_in j (watchers_of q x) → 1 ≤ held j q
  in_watched x j h = let w = in_watching q x j in omega (arith, w, h)

  pub lined_change : IsLined p b after q
  lined_change = record {
    limit = lined.limit;
    size = lined.size;
    things = lined.things;
    once = lined.once;
    small = lined.small;
    ready = λ l other is h. let (ready, waits) = lined.ready l other is h in (ready_more l other ready, waits_more l other is (omega (arith, h)) waits);
    watching_for = λ x l other is h. let (waits, why) = lined.watching_for x l other is h in
        (waits_more l other is (in_watched x (task_number p l other) h) waits, elim why [ inl blocks ↦ blocks_more x l other blocks | inr over ↦ inr (over_more x over) ]);
    all = λ l other is waits. elim (waits_less l other is waits) [
      | inr missing ↦ inr missing
      | inl was ↦ elim (lined.all l other is was.0) [ inl has ↦ inl has | inr missing ↦ inr (was.1 missing) ]
    ];
  }

-- a task that is held waits
pub held_waits : (p : PlanView) (a : Machine) (missing : ℕ → Type 0) (q : Lined) → IsLined p a missing q → (op task : ℕ) → IsTask p op task → 1 ≤ held (task_number p op task) q → IsWaiting p a op task
held_waits p a missing q lined op task is h =
    elim (cases_lt 0 (times_in (task_number p op task) q.waiting)) [
      | inl here ↦ (lined.ready op task is here).1
      | inr none ↦
          let (x, some) = some_list (task_number p op task) q.watching (omega (arith, h, none)) in
          (lined.watching_for x op task is some).0
    ]

-- ---- the last of the ready ones is taken

module _ (p : PlanView) (a : Machine) (id : TaskId) (old new : Lined) (lined : IsLined p a (λ j. ⊥) old) (taken : IsTakenLast p id old new) where
  abbrev pub taken_number : ℕ
  taken_number = task_number p id.op id.task

  taken_held : (j : ℕ) → held j new + cond (taken_number == j) 1 0 ≡ held j old
  taken_held j =
      let e = ap (times_in j) taken.waiting in
      let c = count_push j taken_number new.waiting in
      let w = ap (λ (ls : List (List ℕ)). sum_by (times_in j) ls) taken.watching in
      omega (arith, e, c, w)

  pub taken_gone : held taken_number new ≡ 0
  taken_gone = let h = taken_held taken_number in let s = one_same taken_number taken_number refl in let o = lined.once taken_number in omega (arith, h, s, o)

  pub taken_ready : IsTask p id.op id.task → AreInputsDone p a id.op id.task × IsWaiting p a id.op id.task
  taken_ready is =
      lined.ready id.op id.task is (
      let e = ap (times_in taken_number) taken.waiting in
      let c = count_push taken_number taken_number new.waiting in
      let s = one_same taken_number taken_number refl in
      omega (arith, e, c, s))

  pub lined_without : IsLined p a (λ j. j ≡ taken_number) new
  lined_without = record {
    limit = lined.limit;
    size = taken.size ∙ lined.size;
    things = ap length taken.watching ∙ lined.things;
    once = λ j. let h = taken_held j in let o = lined.once j in omega (arith, h, o);
    small = λ j some. lined.small j (let h = taken_held j in omega (arith, h, some));
    ready = λ l other is some. lined.ready l other is (
        let e = ap (times_in (task_number p l other)) taken.waiting in
        let c = count_push (task_number p l other) taken_number new.waiting in
        omega (arith, e, c, some));
    watching_for = λ x l other is some. lined.watching_for x l other is (let e = ap (λ (ls : List (List ℕ)). times_in (task_number p l other) (get_or ls x [])) taken.watching in omega (arith, e, some));
    all = λ l other is waits. elim (lined.all l other is waits) [
      | inr none ↦ absurd none
      | inl has ↦ elim (cases_eq (task_number p l other) taken_number) [
        | inl e ↦ inr e
        | inr n ↦ inl (let h = taken_held (task_number p l other) in let s = one_other taken_number (task_number p l other) (λ e. n (sym e)) in omega (arith, h, s, has))
      ]
    ];
  }

  pub quiet_without : (x : ℕ) → watchers_of old x ≡ [] → watchers_of new x ≡ []
  quiet_without x none = ap (λ (ls : List (List ℕ)). get_or ls x []) taken.watching ∙ none

-- ---- one task changes

module _ (p : PlanView) (old new : List TaskState) (long : length old ≡ task_count p) (op task : ℕ) (is : IsTask p op task) (s : TaskState) (set_is : new ≡ set old (task_number p op task) s) where
  abbrev a : Machine
  a = of_tasks old

  abbrev b : Machine
  b = of_tasks new

  now_is : state_at p b op task ≡ s
  now_is = state_own p old new long op task is s set_is

  other_is : (l other : ℕ) → IsTask p l other → ((op ≡ l) × (task ≡ other) → ⊥) → state_at p b l other ≡ state_at p a l other
  other_is = state_other p old new long op task is s set_is

  waits_other : (l other : ℕ) → IsTask p l other → ((op ≡ l) × (task ≡ other) → ⊥) → IsWaiting p a l other → IsWaiting p b l other
  waits_other l other that apart (undone, idle) =
      let e = other_is l other that apart in (ap (λ (x : TaskState). x.done) e ∙ undone, ap (λ (x : TaskState). x.copies) e ∙ idle)

  waits_before : (l other : ℕ) → IsTask p l other → ((op ≡ l) × (task ≡ other) → ⊥) → IsWaiting p b l other → IsWaiting p a l other
  waits_before l other that apart (undone, idle) =
      let e = other_is l other that apart in (sym (ap (λ (x : TaskState). x.done) e) ∙ undone, sym (ap (λ (x : TaskState). x.copies) e) ∙ idle)

  -- ---- a task that is as done as before

  module _ (same : s.done ≡ (state_at p a op task).done) where
    weight_same : undone_weight s ≡ undone_weight (state_at p a op task)
    weight_same = ap (λ (x : Bool). undone_weight (record { failures = 0; copies = 0; done = x })) same

    pub same_done : SameDone p a b
    same_done = record {
      done = λ l other that. elim (same_task op task l other) [
        | inl h ↦ as_task (λ k t. (state_at p b k t).done ≡ (state_at p a k t).done) op task l other h (ap (λ (x : TaskState). x.done) now_is ∙ same)
        | inr apart ↦ ap (λ (x : TaskState). x.done) (other_is l other that apart)
      ];
      undone = λ k h. elim (cases_eq k op) [
        | inl e ↦ subst (λ (j : ℕ). undone_of p b j ≡ undone_of p a j) (sym e) (let u = undone_own p old new long op task is s set_is in let w = weight_same in omega (arith, u, w))
        | inr n ↦ undone_other p old new long op task is s set_is k h n
      ];
    }

    -- the counts stay
    pub undone_same : (u : Undone) → AreUndone p old u → AreUndone p new u
    undone_same u counts = record {
      counts = record { operations = counts.counts.operations; counts = λ k h. counts.counts.counts k h ∙ sym (same_done.undone k h) };
      left_is = counts.left_is ∙ (let l = left_is p old new long op task is s set_is in let w = weight_same in omega (arith, l, w));
    }

    module _ (q : Lined) (queue : IsQueue p a q) where
      -- a running task is ready, and so it is after it ended or began
      running_same : (AreInputsDone p a op task ⊎ ((s.done ≡ false) × (1 ≤ s.copies) → ⊥)) → (l other : ℕ) → IsTask p l other → (state_at p b l other).done ≡ false → 1 ≤ (state_at p b l other).copies → AreInputsDone p b l other
      running_same own l other that undone some =
          ready_as p a b same_done l other (elim (same_task op task l other) [
            | inr apart ↦
                let e = other_is l other that apart in
                queue.running l other that (sym (ap (λ (x : TaskState). x.done) e) ∙ undone) (subst (λ (x : TaskState). 1 ≤ x.copies) e some)
            | inl h ↦ elim own [
              | inl ready ↦ as_task (λ k t. AreInputsDone p a k t) op task l other h ready
              | inr not ↦ absurd (as_task (λ k t. (state_at p b k t).done ≡ false → 1 ≤ (state_at p b k t).copies → ⊥) op task l other h
                  (λ u c. not (sym (ap (λ (x : TaskState). x.done) now_is) ∙ u, subst (λ (x : TaskState). 1 ≤ x.copies) now_is c)) undone some)
            ]
          ])

      quiet_same : (x : ℕ) → IsOver p b x → watchers_of q x ≡ []
      quiet_same x over = queue.quiet x (over_as p b a (turned p a b same_done) x over)

      -- it waits neither before nor after
      pub queue_same : (IsWaiting p a op task → ⊥) → (IsWaiting p b op task → ⊥) → (AreInputsDone p a op task ⊎ ((s.done ≡ false) × (1 ≤ s.copies) → ⊥)) → IsQueue p b q
      queue_same before after own = record {
        lined = lined_change p a b (λ j. ⊥) (λ j. ⊥) q queue.lined (ready_as p a b same_done)
            (λ l other that has waits. elim (same_task op task l other) [
              | inr apart ↦ waits_other l other that apart waits
              | inl h ↦ absurd (before (as_task (λ k t. IsWaiting p a k t) l other op task (sym h.0, sym h.1) waits))
            ])
            (λ l other that waits. elim (same_task op task l other) [
              | inr apart ↦ inl (waits_before l other that apart waits, λ h. h)
              | inl h ↦ absurd (after (as_task (λ k t. IsWaiting p b k t) l other op task (sym h.0, sym h.1) waits))
            ])
            (λ x l other blocks. inl (blocks_as p a b same_done x l other blocks)) (over_as p a b same_done);
        quiet = quiet_same;
        running = running_same own;
      }

      -- it waits now, and is ready
      module _ (before : IsWaiting p a op task → ⊥) (after : IsWaiting p b op task) (ready : AreInputsDone p a op task) where
        pub apart_again : held (task_number p op task) q ≡ 0
        apart_again = elim (cases_lt 0 (held (task_number p op task) q)) [
          | inl some ↦ absurd (before (held_waits p a (λ j. ⊥) q queue.lined op task is some))
          | inr none ↦ omega (arith, none)
        ]

        lined_again : IsLined p b (λ j. j ≡ task_number p op task) q
        lined_again =
            lined_change p a b (λ j. ⊥) (λ j. j ≡ task_number p op task) q queue.lined (ready_as p a b same_done)
            (λ l other that has waits. elim (same_task op task l other) [
              | inr apart ↦ waits_other l other that apart waits
              | inl h ↦ absurd (before (as_task (λ k t. IsWaiting p a k t) l other op task (sym h.0, sym h.1) waits))
            ])
            (λ l other that waits. elim (same_task op task l other) [
              | inr apart ↦ inl (waits_before l other that apart waits, λ h. absurd h)
              | inl h ↦ inr (as_task (λ k t. task_number p k t ≡ task_number p op task) op task l other h refl)
            ])
            (λ x l other blocks. inl (blocks_as p a b same_done x l other blocks)) (over_as p a b same_done)

        pub place_again : HasListPlace p q (task_number p op task)
        place_again = has_place p b (λ j. j ≡ task_number p op task) q lined_again (task_number p op task) (number_below p op task is) apart_again

        pub queue_again : (r : Lined) → r ≡ pushed q (task_number p op task) → IsQueue p b r
        queue_again r is_new = record {
          lined = lined_pushed p b (λ j. j ≡ task_number p op task) (λ j. ⊥) q r lined_again op task is after apart_again (λ j h. inl h) (ready_as p a b same_done op task ready) is_new;
          quiet = λ x over. ap (λ (z : Lined). watchers_of z x) is_new ∙ quiet_same x over;
          running = running_same (inl ready);
        }

    -- it is taken from the waiting ones, and runs
    pub queue_taken : (id : TaskId) (q r : Lined) → IsQueue p a q → IsTakenLast p id q r → id.op ≡ op → id.task ≡ task → (IsWaiting p b op task → ⊥) → IsQueue p b r
    queue_taken id q r queue taken same_op same_number after =
        let n : task_number p id.op id.task ≡ task_number p op task = ap (λ (k : ℕ). task_number p k id.task) same_op ∙ ap (task_number p op) same_number in
        let gone = taken_gone p a id q r queue.lined taken in
        record {
          lined = lined_change p a b (λ j. j ≡ task_number p id.op id.task) (λ j. ⊥) r (lined_without p a id q r queue.lined taken) (ready_as p a b same_done)
              (λ l other that has waits. elim (same_task op task l other) [
                | inr apart ↦ waits_other l other that apart waits
                | inl h ↦ absurd (as_task (λ k t. 1 ≤ held (task_number p k t) r → ⊥) op task l other h (λ some. let e = ap (λ (j : ℕ). held j r) n in omega (arith, e, gone, some)) has)
              ])
              (λ l other that waits. elim (same_task op task l other) [
                | inl h ↦ absurd (after (as_task (λ k t. IsWaiting p b k t) l other op task (sym h.0, sym h.1) waits))
                | inr apart ↦ inl (waits_before l other that apart waits, λ e. (let (x, y) = number_once p op task l other is that (sym (e ∙ n)) in absurd (apart (x, y))))
              ])
              (λ x l other blocks. inl (blocks_as p a b same_done x l other blocks)) (over_as p a b same_done);
          quiet = λ x over. quiet_without p a id q r queue.lined taken x (queue.quiet x (over_as p b a (turned p a b same_done) x over));
          running = running_same q queue (inl (
              as_task (λ k t. AreInputsDone p a k t) id.op id.task op task (same_op, same_number)
              (taken_ready p a id q r queue.lined taken (as_task (λ k t. IsTask p k t) op task id.op id.task (sym same_op, sym same_number) is)).0));
        }

  -- ---- a task that becomes done

  module _ (done : s.done ≡ true) (undone : (state_at p a op task).done ≡ false) where
    weight_now : undone_weight s ≡ 0
    weight_now = cond-true {A = ℕ} s.done 0 1 done

    weight_was : undone_weight (state_at p a op task) ≡ 1
    weight_was = cond-false {A = ℕ} (state_at p a op task).done 0 1 undone

    pub own_less : undone_of p b op + 1 ≡ undone_of p a op
    own_less = let u = undone_own p old new long op task is s set_is in let x = weight_now in let y = weight_was in omega (arith, u, x, y)

    done_own : IsDone p b op task
    done_own = ap (λ (x : TaskState). x.done) now_is ∙ done

    done_more : (l other : ℕ) → IsTask p l other → IsDone p a l other → IsDone p b l other
    done_more l other that was = elim (same_task op task l other) [
      | inl h ↦ as_task (λ k t. IsDone p b k t) op task l other h done_own
      | inr apart ↦ ap (λ (x : TaskState). x.done) (other_is l other that apart) ∙ was
    ]

    ready_done : (l other : ℕ) → AreInputsDone p a l other → AreInputsDone p b l other
    ready_done l other ready k t makes = done_more k t (made_task p k t l other makes) (ready k t makes)

    over_done : (x : ℕ) → IsOver p a x → IsOver p b x
    over_done x (inl (k, t, that, was, e)) = inl (k, t, that, done_more k t that was, e)
    over_done x (inr (k, within, none, e)) =
        inr (
          k,
          within,
          elim (cases_eq k op) [
            | inl same ↦ absurd (let u = own_less in let n = ap (λ (j : ℕ). undone_of p a j) same in omega (arith, u, n, none))
            | inr n ↦ undone_other p old new long op task is s set_is k within n ∙ none
          ],
          e,
        )

    blocks_done : (x l other : ℕ) → Blocks p a x l other → Blocks p b x l other ⊎ IsOver p b x
    blocks_done x l other (inl w) =
        let that = made_task p w.maker w.number l other w.makes in
        elim (same_task op task w.maker w.number) [
          | inl h ↦ inr (inl (w.maker, w.number, that, as_task (λ k t. IsDone p b k t) op task w.maker w.number h done_own, w.thing))
          | inr apart ↦ inl (inl (record { maker = w.maker; number = w.number; makes = w.makes; undone = ap (λ (y : TaskState). y.done) (other_is w.maker w.number that apart) ∙ w.undone; thing = w.thing }))
        ]
    blocks_done x l other (inr w) =
        elim (cases_eq (undone_of p b w.maker) 0) [
          | inl none ↦ inr (inr (w.maker, w.within, none, w.thing))
          | inr some ↦ inl (inr (record { maker = w.maker; within = w.within; makes = w.makes; undone = some; thing = w.thing }))
        ]

    -- what is over now: the task, its operation, or what was
    over_before : (x : ℕ) → IsOver p b x → (x ≡ task_number p op task) ⊎ (((x ≡ task_count p + op) × (undone_of p b op ≡ 0)) ⊎ IsOver p a x)
    over_before x (inl (k, t, that, so, e)) = elim (same_task op task k t) [
      | inl h ↦ inl (e ∙ as_task (λ l o. task_number p l o ≡ task_number p op task) op task k t h refl)
      | inr apart ↦ inr (inr (inl (k, t, that, sym (ap (λ (y : TaskState). y.done) (other_is k t that apart)) ∙ so, e)))
    ]
    over_before x (inr (k, within, none, e)) = elim (cases_eq k op) [
      | inl same ↦ inr (inl (e ∙ ap (λ (j : ℕ). task_count p + j) same, ap (λ (j : ℕ). undone_of p b j) (sym same) ∙ none))
      | inr n ↦ inr (inr (inr (k, within, sym (undone_other p old new long op task is s set_is k within n) ∙ none, e)))
    ]

    pub over_task : IsOver p b (task_number p op task)
    over_task = inl (op, task, is, done_own, refl)

    module _ (q : Lined) (queue : IsQueue p a q) (some : 1 ≤ (state_at p a op task).copies) where
      pub lined_done : IsLined p b (λ j. ⊥) q
      lined_done =
          lined_change p a b (λ j. ⊥) (λ j. ⊥) q queue.lined ready_done
          (λ l other that has waits. elim (same_task op task l other) [
            | inr apart ↦ waits_other l other that apart waits
            | inl h ↦ absurd (as_task (λ k t. IsWaiting p a k t → ⊥) op task l other h (λ w. let i = w.1 in omega (arith, i, some)) waits)
          ])
          (λ l other that waits. elim (same_task op task l other) [
            | inr apart ↦ inl (waits_before l other that apart waits, λ h. h)
            | inl h ↦ absurd (as_task (λ k t. IsWaiting p b k t → ⊥) op task l other h (λ w. let u = w.0 in let d = done_own in cc (u, d)) waits)
          ]) blocks_done over_done

      running_done : (l other : ℕ) → IsTask p l other → (state_at p b l other).done ≡ false → 1 ≤ (state_at p b l other).copies → AreInputsDone p b l other
      running_done l other that not some_run = ready_done l other (elim (same_task op task l other) [
        | inr apart ↦
            let e = other_is l other that apart in
            queue.running l other that (sym (ap (λ (x : TaskState). x.done) e) ∙ not) (subst (λ (x : TaskState). 1 ≤ x.copies) e some_run)
        | inl h ↦ absurd (as_task (λ k t. (state_at p b k t).done ≡ false → ⊥) op task l other h (λ u. let d = done_own in cc (u, d)) not)
      ])

      -- after the watchers of the task were put anew, and where the operation has no other task those of the operation
      pub queue_done : (r : Lined) → IsWoken p b (task_number p op task) q r → undone_of p b op ≢ 0 → IsQueue p b r
      queue_done r woken more = record {
        lined = woken.lined;
        quiet = λ x over. elim (over_before x over) [
          | inl e ↦ ap (watchers_of r) e ∙ woken.none
          | inr (inl (e, none)) ↦ absurd (more none)
          | inr (inr was) ↦ woken.others x over (queue.quiet x was)
        ];
        running = running_done;
      }

      pub queue_all_done : (r t : Lined) → IsWoken p b (task_number p op task) q r → IsWoken p b (task_count p + op) r t → IsQueue p b t
      queue_all_done r t woken then = record {
        lined = then.lined;
        quiet = λ x over. elim (over_before x over) [
          | inl e ↦ then.others x over (ap (watchers_of r) e ∙ woken.none)
          | inr (inl (e, none)) ↦ ap (watchers_of t) e ∙ then.none
          | inr (inr was) ↦ then.others x over (woken.others x over (queue.quiet x was))
        ];
        running = running_done;
      }
