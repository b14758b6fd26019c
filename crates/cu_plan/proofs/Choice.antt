-- The arrays that are taken one after another are those that the rule chooses, so there is a plan in
-- which arrays are made where they are read by the rule.
use Rattle.std.proofs.Common.{◌≡◌, inl, inr, ℕ, zero, suc, ◌+◌, ◌<◌, ◌≤◌, ◌==◌, ◌&&◌, ◌||◌, Bool, true, false, List, [], ◌∷◌, ◌++◌, length, map, take, Some, None, refl, ap, sym, ◌∙◌, subst, arith, cond}
use Rattle.std.specs.Prelude.{count_by, flat_map, slice_get}
use Rattle.std.specs.List.{range_with_len}
use Rattle.std.proofs.lemmas.Bool.{and_parts, cases_lt}
use Rattle.std.proofs.lemmas.Bool.Decides.{eqb_tells}
use Rattle.std.proofs.lemmas.List.{append_assoc, map-append}
use Rattle.std.proofs.lemmas.List.FromFn.{get_or-map-range_with_len, length-map-range_with_len}
use Rattle.std.proofs.lemmas.List.Sums.{sum_by-cons}
use Rattle.cu_op.proofs.Members.{bool_cases}
use Rattle.cu_op.specs.Arrays.{array_at, is_inlined, maker_at, no_array}
use Rattle.cu_op.specs.Operation.{reads_of}
use Rattle.cu_op.specs.PlanView.{PlanView, op_of, operation_at}
use Rattle.cu_op.specs.declared.layout.ArrayInfo.{ArrayInfo}
use Rattle.cu_op.specs.declared.operation.Planned.{Planned}
use Rattle.cu_op.specs.Numbers.{stands_in}
use Rattle.cu_fuse.proofs.ChosenRooms.{fits_told, told_fits}
use Rattle.cu_fuse.specs.Inlining.{inlined_by, inlining, prefix_where, read_count, trial, FitsOneTask, IsInlinedOf, IsInliningChoice, MayBeInlined}
use Rattle.cu_fuse.specs.Rooms.{fits_one_task}
use Rattle.cu_plan.specs.Inlined.{inlined_arrays, inlined_of, reading_fits, may_be_inlined, reading, readings, taken, Reading}
use Rattle.cu_plan.proofs.Takings.{arrays_in, here_taken, so_far, taken_here, taking, times, times-append, Taking}
use Rattle.cu_plan.proofs.Tests.{may_told, told_may}

-- ---- what is read, in order

times_of : (b k : ℕ) (xs : List ℕ) → times b (map (reading k) xs) ≡ count_by (λ x. x == b) xs
times_of b k [] = refl
times_of b k (x ∷ xs) =
    let e = times_of b k xs in
    let c = sum_by-cons (λ (y : ℕ). cond (y == b) 1 0) x xs in
    omega (arith, e, c)

times_in : (b k : ℕ) (os : List Planned) → times b (readings k os) ≡ read_count os b
times_in b k [] = refl
times_in b k (o ∷ os) =
    let e = times_in b (k + 1) os in
    let own = times_of b k (reads_of o.op) in
    let a = times-append b (map (reading k) (reads_of o.op)) (readings (k + 1) os) in
    let c = sum_by-cons (λ (q : Planned). count_by (λ x. x == b) (reads_of q.op)) o os in
    omega (arith, e, own, a, c)

arrays_of : (k : ℕ) (xs : List ℕ) → arrays_in (map (reading k) xs) ≡ xs
arrays_of k [] = refl
arrays_of k (x ∷ xs) = ap (λ l. x ∷ l) (arrays_of k xs)

no_item : {X A : Type 0} (i : ℕ) (x : X) → slice_get [] i ≡ Some x → A
no_item zero x h = cc
no_item (suc i) x h = cc

same_item : {X : Type 0} {x y : X} → Some x ≡ Some y → x ≡ y
same_item h = cc

cut : (xs : List ℕ) (i a : ℕ) → slice_get xs i ≡ Some a → (back : List ℕ) × (xs ≡ take i xs ++ a ∷ back)
cut [] i a h = no_item i a h
cut (x ∷ xs) zero a h = (xs, ap (λ y. y ∷ xs) (same_item h))
cut (x ∷ xs) (suc i) a h = let rest = cut xs i a h in (rest.0, ap (λ l. x ∷ l) rest.1)

-- the place of an input among all
record Place (n : ℕ) (os : List Planned) (k i a : ℕ) : Type 0 where
  front : List Reading
  back : List Reading
  is : readings n os ≡ front ++ reading (n + k) a ∷ back
  before : arrays_in front ≡ flat_map (λ o. reads_of o.op) (take k os) ++ take i (reads_of (operation_at os k).op)

place : (os : List Planned) (n k i a : ℕ) → slice_get (reads_of (operation_at os k).op) i ≡ Some a → Place n os k i a
place [] n k i a h = no_item i a h
place (o ∷ os) n zero i a h =
    let c = cut (reads_of o.op) i a h in
    let front = map (reading n) (take i (reads_of o.op)) in
    let back = map (reading n) c.0 ++ readings (n + 1) os in
    let apart : map (reading n) (reads_of o.op) ≡ front ++ map (reading n) (a ∷ c.0) = ap (map (reading n)) c.1 ∙ map-append (reading n) (take i (reads_of o.op)) (a ∷ c.0) in
    record {
      front = front;
      back = back;
      is = ap (λ l. l ++ readings (n + 1) os) apart ∙ append_assoc front (map (reading n) (a ∷ c.0)) (readings (n + 1) os)
          ∙ ap (λ m. front ++ reading m a ∷ back) (let z : n ≡ n + 0 = omega arith in z);
      before = arrays_of n (take i (reads_of o.op));
    }
place (o ∷ os) n (suc k) i a h =
    let rest = place os (n + 1) k i a h in
    let own = map (reading n) (reads_of o.op) in
    record {
      front = own ++ rest.front;
      back = rest.back;
      is = ap (λ l. own ++ l) rest.is ∙ sym (append_assoc own rest.front (reading (n + 1 + k) a ∷ rest.back))
          ∙ ap (λ m. (own ++ rest.front) ++ reading m a ∷ rest.back) (let z : n + 1 + k ≡ n + suc k = omega arith in z);
      before = map-append (λ (r : Reading). r.array) own rest.front ∙ (λ j. arrays_of n (reads_of o.op) j ++ rest.before j)
          ∙ sym (append_assoc (reads_of o.op) (flat_map (λ o. reads_of o.op) (take k os)) (take i (reads_of (operation_at os k).op)));
    }

-- ---- the choice

same_test : (a b : ℕ) → (a == b) ≡ (b == a)
same_test a b = elim (eqb_tells a b) [
  | inl p ↦ elim (eqb_tells b a) [ inl q ↦ p.0 ∙ sym q.0 | inr n ↦ absurd (n.1 (sym p.1)) ]
  | inr n ↦ elim (eqb_tells b a) [ inl q ↦ absurd (n.1 (sym q.1)) | inr m ↦ n.0 ∙ sym m.0 ]
]

module _ (p : PlanView) where
  abbrev all : List Reading
  all = readings 0 p.ops

  abbrev chosen : ℕ → Bool
  chosen = stands_in (inlined_arrays p)

  -- what is taken may be inlined
  may : (b : ℕ) (t : Taking (reading_fits p) [] all b) → MayBeInlined p t.one.reader b
  may b t =
      let both = and_parts (may_be_inlined p t.one.reader t.one.array) (fits_one_task (inlining p (stands_in (t.one.array ∷ taken (reading_fits p) [] t.front))) t.one.reader) t.passes in
      subst (MayBeInlined p t.one.reader) t.array (may_told p t.one.reader t.one.array both.0)

  once : (b : ℕ) → Taking (reading_fits p) [] all b → times b all ≤ 1
  once b t = let c = (may b t).once in let e = times_in b 0 p.ops in omega (arith, c, e)

  -- with what is taken before it
  tried : (k i a : ℕ) (h : Place 0 p.ops k i a) → inlining p (stands_in (a ∷ taken (reading_fits p) [] h.front)) ≡ trial p chosen k i a
  tried k i a h =
      ap (inlining p)
      (λ j b. (same_test a b j) || ((so_far (reading_fits p) all once h.front (reading (0 + k) a) h.back h.is b ∙ ap (λ l. chosen b && stands_in l b) h.before) j))

  chosen_told : (k i a : ℕ) → slice_get (reads_of (op_of p k)) i ≡ Some a → chosen a ≡ true → MayBeInlined p k a × FitsOneTask (trial p chosen k i a) k
  chosen_told k i a e t =
      let h = place p.ops 0 k i a e in
      let z : 0 + k ≡ k = omega arith in
      let passes = taken_here (reading_fits p) all once h.front (reading (0 + k) a) h.back h.is t in
      let both = and_parts (may_be_inlined p (0 + k) a) (fits_one_task (inlining p (stands_in (a ∷ taken (reading_fits p) [] h.front))) (0 + k)) passes in
      let room : fits_one_task (trial p chosen k i a) (0 + k) ≡ true = ap (λ q. fits_one_task q (0 + k)) (sym (tried k i a h)) ∙ both.1 in
      (subst (λ n. MayBeInlined p n a) z (may_told p (0 + k) a both.0), subst (FitsOneTask (trial p chosen k i a)) z (fits_told (trial p chosen k i a) (0 + k) room))

  told_chosen : (k i a : ℕ) → slice_get (reads_of (op_of p k)) i ≡ Some a → MayBeInlined p k a → FitsOneTask (trial p chosen k i a) k → chosen a ≡ true
  told_chosen k i a e may room =
      let h = place p.ops 0 k i a e in
      let z : k ≡ 0 + k = omega arith in
      let first : may_be_inlined p (0 + k) a ≡ true = subst (λ n. may_be_inlined p n a ≡ true) z (told_may p k a may) in
      let second : fits_one_task (inlining p (stands_in (a ∷ taken (reading_fits p) [] h.front))) (0 + k) ≡ true =
      ap (λ q. fits_one_task q (0 + k)) (tried k i a h) ∙ subst (λ n. fits_one_task (trial p chosen k i a) n ≡ true) z (told_fits (trial p chosen k i a) k room) in
      here_taken (reading_fits p) all once h.front (reading (0 + k) a) h.back h.is (rw (first, second) refl)

  unread : (a : ℕ) → read_count p.ops a ≡ 0 → chosen a ≡ false
  unread a none = elim (bool_cases (chosen a)) [
    | inr f ↦ f
    | inl t ↦ let c = (may a (taking (reading_fits p) all a t)).once in absurd (omega (arith, none, c))
  ]

  is_choice : IsInliningChoice p chosen
  is_choice = record {
    read = λ k i a e. (chosen_told k i a e, λ both. told_chosen k i a e both.0 both.1);
    unread = unread;
  }

  -- ---- the plan

  -- an array past the end isn't chosen
  within : (a : ℕ) → chosen a ≡ true → a < length p.arrays
  within a t =
      elim (cases_lt a (length p.arrays)) [
        | inl l ↦ l
        | inr past ↦
            let m = (may a (taking (reading_fits p) all a t)).maker in
            let none = past_end p.arrays a past in
            let e = m.1 in cc
      ]
    where
      past_end : (arrays : List ArrayInfo) (b : ℕ) → length arrays ≤ b → maker_at arrays b ≡ None
      past_end [] b h = refl
      past_end (x ∷ xs) zero h = absurd (omega (arith, h))
      past_end (x ∷ xs) (suc b) h = past_end xs b (omega (arith, h))

  abbrev q : PlanView
  q = inlined_of p

  flags : (a : ℕ) → is_inlined q.arrays a ≡ chosen a
  flags a =
      elim (cases_lt a (length p.arrays)) [
        | inl l ↦ ap (λ (x : ArrayInfo). x.inlined) (get_or-map-range_with_len renamed 0 (length p.arrays) a a no_array l (omega arith))
        | inr past ↦ none (map renamed (range_with_len 0 (length p.arrays))) a (let e = length-map-range_with_len renamed 0 (length p.arrays) in omega (arith, e, past))
            ∙ sym (elim (bool_cases (chosen a)) [ inr f ↦ f | inl t ↦ (let l = within a t in absurd (omega (arith, l, past))) ])
      ]
    where
      renamed : ℕ → ArrayInfo
      renamed b = record (array_at p.arrays b) { prefix = prefix_where p chosen b; inlined = chosen b }

      none : (arrays : List ArrayInfo) (b : ℕ) → length arrays ≤ b → is_inlined arrays b ≡ false
      none [] b h = refl
      none (x ∷ xs) zero h = absurd (omega (arith, h))
      none (x ∷ xs) (suc b) h = none xs b (omega (arith, h))

  pub is_inlined_of : IsInlinedOf p (inlined_of p)
  is_inlined_of = record {
    choice = subst (IsInliningChoice p) (λ j a. sym (flags a) j) is_choice;
    plan = ap (inlined_by p) (λ j a. sym (flags a) j);
  }
