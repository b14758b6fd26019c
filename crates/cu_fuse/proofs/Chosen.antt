-- The choice of the arrays that are inlined, one input after another.
use Rattle.cu_op.proofs.Members.{any_contains, bool_cases, contains_any, not_any}
use Rattle.cu_fuse.proofs.Flagged.{flags_alike}
use Rattle.cu_fuse.proofs.ReadOnce.{earlier_read, not_before, read_earlier, reader_within, stands_at, stands_not, times, place_in}
use Rattle.cu_fuse.specs.Choosing.{IsEarlier, IsInliningChoiceTo}
use Rattle.cu_op.specs.Numbers.{stands_in}
use Rattle.cu_fuse.specs.Inlining.{earlier_reads, inlining, read_count, trial, FitsOneTask, IsInliningChoice, MayBeInlined}
use Rattle.cu_op.specs.Operation.{reads_of}
use Rattle.cu_op.specs.PlanView.{PlanView, op_of, operation_at}
use Rattle.cu_op.specs.declared.operation.Planned.{Planned}
use Rattle.std.proofs.Common.{◌≡◌, ◌≢◌, ◌⊎◌, ◌↔◌, inl, inr, ℕ, zero, suc, ◌+◌, ◌<◌, ◌==◌, ◌&&◌, ◌||◌, true, false, List, [], ◌∷◌, length, Contains, Some, refl, ap, sym, ◌∙◌, subst, arith, Bool}
use Rattle.std.specs.List.{slice_get}
use Rattle.std.proofs.lemmas.Bool.{cases_lt, or_cases, eqb-true, eq-eqb, false_from_ne_true}
use Rattle.std.proofs.lemmas.Bool.Decides.{eqb_tells}
use Rattle.std.proofs.lemmas.List.Sums.{sum_by-cons}
use Rattle.std.proofs.lemmas.Option.{same_Some, slice_get_within}

-- ---- the order of inputs

earlier_through : (j n k i l m : ℕ) → IsEarlier j n k i → IsEarlier k i l m → IsEarlier j n l m
earlier_through j n k i l m (inl a) (inl b) = inl (omega (arith, a, b))
earlier_through j n k i l m (inl a) (inr (e, b)) = inl (omega (arith, a, e))
earlier_through j n k i l m (inr (e, a)) (inl b) = inl (omega (arith, e, b))
earlier_through j n k i l m (inr (e, a)) (inr (f, b)) = inr (e ∙ f, omega (arith, a, b))

next_cases : (j n k i : ℕ) → IsEarlier j n k (i + 1) → IsEarlier j n k i ⊎ ((j ≡ k) × (n ≡ i))
next_cases j n k i (inl l) = inl (inl l)
next_cases j n k i (inr (e, l)) = elim (cases_lt n i) [
  | inl less ↦ inl (inr (e, less))
  | inr far ↦ inr (e, omega (arith, l, far))
]

later : (j n k i : ℕ) → IsEarlier j n k i → IsEarlier j n k (i + 1)
later j n k i (inl l) = inl l
later j n k i (inr (e, l)) = inr (e, omega (arith, l))

-- ---- one input

and_off : (x y : Bool) → y ≡ false → (x && y) ≡ false
and_off true y f = f
and_off false y f = refl

and_on : (x y : Bool) → y ≡ true → (x && y) ≡ x
and_on true y t = t
and_on false y t = refl

module _ (p : PlanView) (chosen : ℕ → Bool) (k i : ℕ) (c : IsInliningChoiceTo p chosen k i) where
  -- a chosen array is read before
  pub chosen_at : (a : ℕ) → chosen a ≡ true → (j : ℕ) × (n : ℕ) × IsEarlier j n k i × (slice_get (reads_of (op_of p j)) n ≡ Some a) × MayBeInlined p j a
  chosen_at a t =
      let (j, n, order, at) = earlier_read p k i a (c.only a t) in
      (j, n, order, at, ((c.read j n a order at).0 t).0)

  module _ (a : ℕ) (at : slice_get (reads_of (op_of p k)) i ≡ Some a) where
    -- with this one too
    abbrev pub too : ℕ → Bool
    too b = b == a || chosen b

    trial_with : (other : ℕ → Bool) → ((b : ℕ) → (b == a) ≡ false → other b ≡ chosen b) → trial p other k i a ≡ inlining p too
    trial_with other same =
        flags_alike p (λ b. b == a || (other b && stands_in (earlier_reads p k i) b)) too (λ b l.
        elim (bool_cases (b == a)) [
          | inl t ↦ rw t refl
          | inr f ↦
              let e = same b f in
              let own : (other b && stands_in (earlier_reads p k i) b) ≡ chosen b =
              elim (bool_cases (chosen b)) [
                | inl t ↦ and_on (other b) (stands_in (earlier_reads p k i) b) (contains_any (earlier_reads p k i) b (c.only b t)) ∙ e
                | inr off ↦ let o : other b ≡ false = e ∙ off in rw (o, off) refl
              ] in
              rw f own
        ])

    pub trial_now : trial p chosen k i a ≡ inlining p too
    trial_now = trial_with chosen (λ b f. refl)

    widened : (b : ℕ) → Contains (earlier_reads p k i) b → Contains (earlier_reads p k (i + 1)) b
    widened b there =
        let (j, n, order, found) = earlier_read p k i b there in
        read_earlier p k (i + 1) b j n (later j n k i order) found

    -- the array isn't chosen
    pub left : (MayBeInlined p k a × FitsOneTask (inlining p too) k → ⊥) → IsInliningChoiceTo p chosen k (i + 1)
    left never = record {
      read = λ j n b order found. elim (next_cases j n k i order) [
        | inl before ↦ c.read j n b before found
        | inr here ↦
            let same : a ≡ b = same_Some a b (sym at ∙ ap (λ (m : ℕ). slice_get (reads_of (op_of p k)) m) (sym here.1)
            ∙ ap (λ (m : ℕ). slice_get (reads_of (op_of p m)) n) (sym here.0) ∙ found) in
            subst (λ (m : ℕ). (chosen b ≡ true) ↔ (MayBeInlined p m b × FitsOneTask (trial p chosen m n b) m)) (sym here.0)
            (subst (λ (m : ℕ). (chosen b ≡ true) ↔ (MayBeInlined p k b × FitsOneTask (trial p chosen k m b) k)) (sym here.1)
            (subst (λ (m : ℕ). (chosen m ≡ true) ↔ (MayBeInlined p k m × FitsOneTask (trial p chosen k i m) k)) same own))
      ];
      only = λ b t. widened b (c.only b t);
    }
      where
        own : (chosen a ≡ true) ↔ (MayBeInlined p k a × FitsOneTask (trial p chosen k i a) k)
        own = (
          λ t. let (j, n, order, found, may) = chosen_at a t in absurd (not_before p k i a may.once at (c.only a t)),
          λ h. absurd (never (h.0, subst (λ (q : PlanView). FitsOneTask q k) trial_now h.1)),
        )

    -- the array is chosen
    module _ (may : MayBeInlined p k a) where
      not_read : (j n : ℕ) → IsEarlier j n k i → Contains (earlier_reads p j n) a → ⊥
      not_read j n order there =
          let (l, m, first, found) = earlier_read p j n a there in
          not_before p k i a may.once at (read_earlier p k i a l m (earlier_through l m j n k i first order) found)

      trial_before : (j n b : ℕ) → IsEarlier j n k i → trial p too j n b ≡ trial p chosen j n b
      trial_before j n b order =
          flags_alike p (λ x. x == b || (too x && stands_in (earlier_reads p j n) x)) (λ x. x == b || (chosen x && stands_in (earlier_reads p j n) x)) (λ x l.
          ap (λ (y : Bool). x == b || y)
          (elim (eqb_tells x a) [
            | inl t ↦
                let off : stands_in (earlier_reads p j n) x ≡ false =
                not_any (earlier_reads p j n) x (λ there. not_read j n order (subst (Contains (earlier_reads p j n)) t.1 there)) in
                and_off (too x) (stands_in (earlier_reads p j n) x) off ∙ sym (and_off (chosen x) (stands_in (earlier_reads p j n) x) off)
            | inr t ↦ let off = t.0 in rw off refl
          ]))

      pub taken : FitsOneTask (inlining p too) k → IsInliningChoiceTo p too k (i + 1)
      taken room = record {
        read = λ j n b order found. elim (next_cases j n k i order) [
          | inl before ↦
              let other : (b == a) ≡ false =
              elim (eqb_tells b a) [
                | inl t ↦ absurd (not_before p k i a may.once at (subst (Contains (earlier_reads p k i)) t.1 (read_earlier p k i b j n before found)))
                | inr t ↦ t.0
              ] in
              let e : too b ≡ chosen b = rw other refl in
              let was = c.read j n b before found in
              let trials = trial_before j n b before in (
                λ t. let r = was.0 (sym e ∙ t) in (r.0, subst (λ (q : PlanView). FitsOneTask q j) (sym trials) r.1),
                λ r. e ∙ was.1 (r.0, subst (λ (q : PlanView). FitsOneTask q j) trials r.1),
              )
          | inr here ↦
              let same : a ≡ b = same_Some a b (sym at ∙ ap (λ (m : ℕ). slice_get (reads_of (op_of p k)) m) (sym here.1)
              ∙ ap (λ (m : ℕ). slice_get (reads_of (op_of p m)) n) (sym here.0) ∙ found) in
              subst (λ (m : ℕ). (too b ≡ true) ↔ (MayBeInlined p m b × FitsOneTask (trial p too m n b) m)) (sym here.0)
              (subst (λ (m : ℕ). (too b ≡ true) ↔ (MayBeInlined p k b × FitsOneTask (trial p too k m b) k)) (sym here.1)
              (subst (λ (m : ℕ). (too m ≡ true) ↔ (MayBeInlined p k m × FitsOneTask (trial p too k i m) k)) same own))
        ];
        only = λ b t. elim (or_cases (b == a) (chosen b) t) [
          | inl is ↦
              let same : a ≡ b = sym (eqb-true b a is) in
              subst (Contains (earlier_reads p k (i + 1))) same (read_earlier p k (i + 1) a k i (inr (refl, omega arith)) at)
          | inr was ↦ widened b (c.only b was)
        ];
      }
        where
          itself : (a == a) ≡ true
          itself = eq-eqb a a refl

          own : (too a ≡ true) ↔ (MayBeInlined p k a × FitsOneTask (trial p too k i a) k)
          own = (
            λ t. (may, subst (λ (q : PlanView). FitsOneTask q k) (sym (trial_with too (λ b off. rw off refl))) room),
            λ h. rw itself refl,
          )

-- ---- all inputs

pub start : (p : PlanView) → IsInliningChoiceTo p (λ a. false) 0 0
start p = record {
  read = λ j n a order found. elim order [ inl l ↦ absurd (omega (arith, l)) | inr e ↦ absurd (let l = e.1 in omega (arith, l)) ];
  only = λ a t. cc;
}

pub next : (p : PlanView) (chosen : ℕ → Bool) (k i : ℕ) → length (reads_of (op_of p k)) ≡ i → IsInliningChoiceTo p chosen k i → IsInliningChoiceTo p chosen (k + 1) 0
next p chosen k i all c = record {
  read = λ j n a order found. c.read j n a (within j n a order found) found;
  only = λ a t.
      let (j, n, order, found) = earlier_read p k i a (c.only a t) in
      read_earlier p (k + 1) 0 a j n (inl (below j n order)) found;
}
  where
    below : (j n : ℕ) → IsEarlier j n k i → j < k + 1
    below j n (inl l) = omega (arith, l)
    below j n (inr (e, l)) = omega (arith, e)

    within : (j n a : ℕ) → IsEarlier j n (k + 1) 0 → slice_get (reads_of (op_of p j)) n ≡ Some a → IsEarlier j n k i
    within j n a (inr (e, l)) found = absurd (omega (arith, l))
    within j n a (inl l) found =
        elim (cases_lt j k) [
          | inl less ↦ inl less
          | inr far ↦
              let same : j ≡ k = omega (arith, l, far) in
              let b = slice_get_within (reads_of (op_of p j)) n a found in
              let long = ap (λ (m : ℕ). length (reads_of (op_of p m))) same in
              inr (same, omega (arith, b, long, all))
        ]

pub finished : (p : PlanView) (chosen : ℕ → Bool) → IsInliningChoiceTo p chosen (length p.ops) 0 → IsInliningChoice p chosen
finished p chosen c = record {
  read = λ k i a found. c.read k i a (inl (reader_within p k a (stands_at (reads_of (op_of p k)) i a found))) found;
  unread = λ a none. false_from_ne_true (chosen a) (λ t.
      let (j, n, order, found, may) = chosen_at p chosen (length p.ops) 0 c a t in
      let once = may.once in
      omega (arith, none, once));
}

-- ---- there is one choice

pub some_reader : (ops : List Planned) (a : ℕ) → read_count ops a ≢ 0 → (k : ℕ) × Contains (reads_of (operation_at ops k).op) a
some_reader [] a some = absurd (some refl)
some_reader (o ∷ ops) a some =
    elim (bool_cases (stands_in (reads_of o.op) a)) [
      | inl t ↦ (0, any_contains (reads_of o.op) a t)
      | inr f ↦
          let none = stands_not a (reads_of o.op) (λ there. let t = contains_any (reads_of o.op) a there in let on : true ≡ false = sym t ∙ f in cc) in
          let all = sum_by-cons (λ (x : Planned). times a (reads_of x.op)) o ops in
          let rest = some_reader ops a (λ zero_left. some (omega (arith, none, all, zero_left))) in
          (suc rest.0, rest.1)
    ]

iff_same : (x y : Bool) → ((x ≡ true) → (y ≡ true)) → ((y ≡ true) → (x ≡ true)) → x ≡ y
iff_same true y there back = sym (there refl)
iff_same false true there back = back refl
iff_same false false there back = refl

module _ (p : PlanView) (f g : ℕ → Bool) (c : IsInliningChoice p f) (d : IsInliningChoice p g) where
  abbrev Same : ℕ → ℕ → Type 0
  Same k i = (b : ℕ) → Contains (earlier_reads p k i) b → f b ≡ g b

  same_trial : (k i a : ℕ) → Same k i → trial p f k i a ≡ trial p g k i a
  same_trial k i a same =
      flags_alike p (λ x. x == a || (f x && stands_in (earlier_reads p k i) x)) (λ x. x == a || (g x && stands_in (earlier_reads p k i) x)) (λ x l.
      ap (λ (y : Bool). x == a || y)
      (elim (bool_cases (stands_in (earlier_reads p k i) x)) [
        | inl t ↦ ap (λ (y : Bool). y && stands_in (earlier_reads p k i) x) (same x (any_contains (earlier_reads p k i) x t))
        | inr off ↦ and_off (f x) (stands_in (earlier_reads p k i) x) off ∙ sym (and_off (g x) (stands_in (earlier_reads p k i) x) off)
      ]))

  same_here : (k i a : ℕ) → Same k i → slice_get (reads_of (op_of p k)) i ≡ Some a → f a ≡ g a
  same_here k i a same at =
      let x = c.read k i a at in
      let y = d.read k i a at in
      let trials = same_trial k i a same in
      iff_same (f a) (g a)
      (λ t. let r = x.0 t in y.1 (r.0, subst (λ (q : PlanView). FitsOneTask q k) trials r.1))
      (λ t. let r = y.0 t in x.1 (r.0, subst (λ (q : PlanView). FitsOneTask q k) (sym trials) r.1))

  same_inputs : (k : ℕ) → Same k 0 → (i : ℕ) → Same k i
  same_inputs k first zero = first
  same_inputs k first (suc i) =
      let before = same_inputs k first i in
      λ b there.
      let (j, n, order, found) = earlier_read p k (suc i) b there in
      let z : suc i ≡ i + 1 = omega arith in
      elim (next_cases j n k i (subst (IsEarlier j n k) z order)) [
        | inl l ↦ before b (read_earlier p k i b j n l found)
        | inr here ↦
            same_here k i b before
            (ap (λ (m : ℕ). slice_get (reads_of (op_of p k)) m) (sym here.1) ∙ ap (λ (m : ℕ). slice_get (reads_of (op_of p m)) n) (sym here.0) ∙ found)
      ]

  same_all : (k : ℕ) → Same k 0
  same_all zero b there =
      let (j, n, order, found) = earlier_read p 0 0 b there in
      elim order [ inl l ↦ absurd (omega (arith, l)) | inr e ↦ absurd (let l = e.1 in omega (arith, l)) ]
  same_all (suc k) b there =
      let before = same_all k in
      let (j, n, order, found) = earlier_read p (suc k) 0 b there in
      elim order [
        | inr e ↦ absurd (let l = e.1 in omega (arith, l))
        | inl l ↦
            elim (cases_lt j k) [
              | inl less ↦ before b (read_earlier p k 0 b j n (inl less) found)
              | inr far ↦ same_inputs k before (suc n) b (read_earlier p k (suc n) b j n (inr (omega (arith, l, far), omega arith)) found)
            ]
      ]

  pub one_choice : (a : ℕ) → f a ≡ g a
  one_choice a =
      elim (eqb_tells (read_count p.ops a) 0) [
        | inl t ↦ c.unread a t.1 ∙ sym (d.unread a t.1)
        | inr t ↦
            let (k, read) = some_reader p.ops a t.1 in
            let (i, at) = place_in (reads_of (op_of p k)) a read in
            same_here k i a (same_inputs k (same_all k) i) at
      ]
