-- What operations need while the arrays are chosen that are inlined.
use Rattle.cu_fuse.proofs.AlikeKinds.{same_input_room, same_output_room, same_scratch}
use Rattle.cu_fuse.proofs.Chosen.{chosen_at}
use Rattle.cu_fuse.proofs.Flagged.{alike, flag_is, maker_kept, read_before, StayWithin}
use Rattle.cu_fuse.proofs.Grown.{before_agree, grown, grown_reads, largest_among, sum_among, OneMore}
use Rattle.cu_fuse.proofs.Inside.{alone, map_alike, same_inputs, same_outputs, same_reads, same_scratches, same_within, sum_alike, AreAlike}
use Rattle.cu_fuse.proofs.ReadOnce.{not_before, place_in, read_earlier, stands_at}
use Rattle.cu_fuse.specs.Choosing.{IsInliningChoiceTo}
use Rattle.cu_fuse.specs.Inlining.{inlining, FitsOneTask, MayBeInlined}
use Rattle.cu_fuse.specs.Rooms.{fits_one_task, joined, needs, own_room, room_within}
use Rattle.cu_fuse.specs.declared.room.Room.{Room}
use Rattle.cu_op.specs.Arrays.{is_inlined, maker_at}
use Rattle.cu_op.specs.Operation.{reads_of, IsBefore}
use Rattle.cu_op.specs.PlanView.{PlanView, op_of}
use Rattle.cu_op.specs.Projection.{input_room, instruction_count, output_room, projection, scratch_room}
use Rattle.cu_op.specs.Sound.{Sound}
use Rattle.cu_op.specs.Within.{maker_op, ops_deep, ops_within, stored_reads}
use Rattle.cu_op.specs.declared.operation.Op.{Op}
use Rattle.cu_shape.specs.Counts.{largest}
use Rattle.std.proofs.Common.{◌≡◌, ◌≢◌, inl, inr, ℕ, zero, suc, ◌+◌, ◌-◌, ◌<◌, ◌≤◌, ◌==◌, ◌&&◌, ◌||◌, true, false, not, List, [], ◌∷◌, length, map, max, get_or, nat_le, Contains, Some, None, Option, refl, ap, sym, ◌∙◌, arith, if◌then◌else◌, Bool}
use Rattle.std.specs.List.{count_by, flat_map, slice_get}
use Rattle.std.specs.Prelude.{sum_by}
use Rattle.std.proofs.lemmas.Bool.{and_parts, eq-eqb, false_from_ne_true, le-leb, leb-true, ne_eqb}
use Rattle.std.proofs.lemmas.List.Sums.{get_or-le-sum_by, sum_by-cons}

abbrev room_of : ℕ → ℕ → ℕ → ℕ → ℕ → Room
room_of steps reads scratch inputs output =
    record { steps = steps; reads = reads; scratch = scratch; inputs = inputs; output = output }

abbrev one_if : Bool → ℕ
one_if b = if b then 1 else 0

-- ---- a room, and what it is compared with

pub fits_told : (q : PlanView) (k : ℕ) → fits_one_task q k ≡ true → FitsOneTask q k
fits_told q k h =
    let r = room_within q k in
    let (a, rest) = and_parts (nat_le r.steps 32) (nat_le r.reads 8 && nat_le (needs q.reserved r) q.allowed) h in
    let (b, c) = and_parts (nat_le r.reads 8) (nat_le (needs q.reserved r) q.allowed) rest in
    let x = leb-true r.steps 32 a in
    let y = leb-true r.reads 8 b in
    let z = leb-true (needs q.reserved r) q.allowed c in
    record { instructions = x; reads = y; memory = omega (arith, z) }

pub told_fits : (q : PlanView) (k : ℕ) → FitsOneTask q k → fits_one_task q k ≡ true
told_fits q k h =
    let r = room_within q k in
    let m = h.memory in
    let a = le-leb r.steps 32 h.instructions in
    let b = le-leb r.reads 8 h.reads in
    let c = le-leb (needs q.reserved r) q.allowed (omega (arith, m)) in
    rw (a, b, c) refl

pub needs_projection : (q : PlanView) (k : ℕ) → needs q.reserved (room_within q k) ≡ projection q k
needs_projection q k = omega arith

-- ---- operations before are as they were

module _ (p q : PlanView) (s : AreAlike p q) where
  pub same_room : (k : ℕ) → ((j a : ℕ) → j ≤ k → Contains (reads_of (op_of p j)) a → is_inlined q.arrays a ≡ is_inlined p.arrays a)
      → room_within q k ≡ room_within p k
  same_room k agree =
      let a : sum_by instruction_count (ops_within q k) ≡ sum_by instruction_count (ops_within p k) = ap (sum_by instruction_count) (same_within p q s k agree) in
      let b = same_reads p q s k agree in
      let c = same_scratches p q s k agree in
      let d = same_inputs p q s k agree in
      let e = same_outputs p q s k in
      λ i. room_of (a i) (b i) (c i) (d i) (e i)

one_sum : (f : Op → ℕ) (op : Op) → sum_by f (op ∷ []) ≡ f op
one_sum f op = sum_by-cons f op [] ∙ (let e : f op + 0 ≡ f op = omega arith in e)

all_counted : (f : ℕ → Bool) (xs : List ℕ) → ((a : ℕ) → Contains xs a → f a ≡ true) → count_by f xs ≡ length xs
all_counted f [] h = refl
all_counted f (x ∷ xs) h =
    let all = sum_by-cons (λ (a : ℕ). one_if (f a)) x xs in
    let t = h x (0, omega arith, refl) in
    let one : one_if (f x) ≡ 1 = rw t refl in
    let rest = all_counted f xs (λ a there. h a (suc there.0, (let l = there.1 in omega arith), there.2)) in
    omega (arith, all, one, rest)

-- ---- one operation

module _ (p : PlanView) (s : Sound p) (chosen : ℕ → Bool) (few : StayWithin p chosen) (k i : ℕ) (c : IsInliningChoiceTo p chosen k i) where
  some_maker : (o : Option ℕ) (m : ℕ) → o ≡ Some m → o ≢ None
  some_maker None m e none = cc
  some_maker (Some n) m e none = cc

  pub made : (a : ℕ) → a < length p.arrays → chosen a ≡ true → maker_at p.arrays a ≢ None
  made a l t = let (j, n, order, at, may) = chosen_at p chosen k i c a t in some_maker (maker_at p.arrays a) may.maker.0 may.maker.1

  -- none of its inputs that are still to be taken is chosen
  pub not_chosen : (n a : ℕ) → i ≤ n → slice_get (reads_of (op_of p k)) n ≡ Some a → chosen a ≡ false
  not_chosen n a l at = false_from_ne_true (chosen a) (λ t.
      let (j, m, order, found, may) = chosen_at p chosen k i c a t in
      not_before p k n a may.once at (read_earlier p k n a j m
      (elim order [ inl less ↦ inl less | inr e ↦ inr (e.0, (let b = e.1 in omega (arith, b, l))) ]) found))

  -- an operation none of whose inputs is taken
  module _ (first : i ≡ 0) where
    none_read : (a : ℕ) → Contains (reads_of (op_of p k)) a → is_inlined (inlining p chosen).arrays a ≡ false
    none_read a read =
        let (n, at) = place_in (reads_of (op_of p k)) a read in
        flag_is p chosen a few ∙ not_chosen n a (omega (arith, first)) at

    own_within : ops_within (inlining p chosen) k ≡ op_of p k ∷ []
    own_within = alone (inlining p chosen) (inlining p chosen) (alike p s chosen chosen made) (inlining p chosen) k (op_of p k) none_read

    pub first_room : room_within (inlining p chosen) k ≡ own_room (inlining p chosen).arrays (op_of p k)
    first_room =
        let arrays = (inlining p chosen).arrays in
        let op = op_of p k in
        let a : sum_by instruction_count (ops_within (inlining p chosen) k) ≡ instruction_count op = ap (sum_by instruction_count) own_within ∙ one_sum instruction_count op in
        let b : sum_by (stored_reads arrays) (ops_within (inlining p chosen) k) ≡ length (reads_of op) =
        ap (sum_by (stored_reads arrays)) own_within ∙ one_sum (stored_reads arrays) op
        ∙ all_counted (λ x. not (is_inlined arrays x)) (reads_of op) (λ x read. let f = none_read x read in rw f refl) in
        let d : largest (map (scratch_room arrays) (ops_within (inlining p chosen) k)) ≡ scratch_room arrays op =
        ap (λ (ops : List Op). largest (map (scratch_room arrays) ops)) own_within ∙ (let e : largest (scratch_room arrays op ∷ []) ≡ scratch_room arrays op = omega arith in e) in
        let e : sum_by (input_room arrays) (ops_within (inlining p chosen) k) ≡ input_room arrays op =
        ap (sum_by (input_room arrays)) own_within ∙ one_sum (input_room arrays) op in
        λ t. room_of (a t) (b t) (d t) (e t) (output_room arrays op)

  -- one more array
  module _ (a : ℕ) (at : slice_get (reads_of (op_of p k)) i ≡ Some a) (may : MayBeInlined p k a) where
    abbrev too : ℕ → Bool
    too b = b == a || chosen b

    read : Contains (reads_of (op_of p k)) a
    read = stands_at (reads_of (op_of p k)) i a at

    within : a < length p.arrays
    within = (read_before p s k a read).0

    pub too_within : StayWithin p too
    too_within b far =
        let off = few b far in
        let other : (b == a) ≡ false = ne_eqb b a (λ e. let l = within in let same = e in omega (arith, l, same, far)) in
        rw (other, off) refl

    off_before : chosen a ≡ false
    off_before = not_chosen i a (omega arith) at

    earlier : (o : Option ℕ) (m : ℕ) → IsBefore o k → o ≡ Some m → m < k
    earlier None m b e = cc
    earlier (Some n) m b e = let same : n ≡ m = cc in omega (arith, same, b)

    pub more : OneMore (inlining p chosen) (inlining p too) a k i may.maker.0
    more = record {
      alike = alike p s chosen too made;
      stored = flag_is p chosen a few ∙ off_before;
      flags = λ b other. flag_is p too b too_within ∙ (let off = ne_eqb b a other in let e : too b ≡ chosen b = rw off refl in e) ∙ sym (flag_is p chosen b few);
      inlined = flag_is p too a too_within ∙ (let on = eq-eqb a a refl in let e : too a ≡ true = rw on refl in e);
      once = may.once;
      at = at;
      maker = maker_kept p chosen a ∙ may.maker.1;
      before = earlier (maker_at p.arrays a) may.maker.0 (read_before p s k a read).1 may.maker.1;
    }

    pub grown_room : room_within (inlining p too) k
        ≡ joined (room_within (inlining p chosen) k) (room_within (inlining p chosen) may.maker.0)
    grown_room =
        let was = inlining p chosen in
        let now = inlining p too in
        let m = may.maker.0 in
        let o = more in
        let g = grown was now a k i m o in
        let x = sum_among instruction_count (ops_within now k) (ops_within was k) (ops_within was m) g in
        let y = grown_reads was now a k i m o in
        let y_is : sum_by (stored_reads now.arrays) (ops_within now k) ≡ sum_by (stored_reads was.arrays) (ops_within was k) + sum_by (stored_reads was.arrays) (ops_within was m) - 1 = omega (arith, y) in
        let layouts = o.alike.layouts in
        let z : largest (map (scratch_room now.arrays) (ops_within now k)) ≡ max (largest (map (scratch_room was.arrays) (ops_within was k))) (largest (map (scratch_room was.arrays) (ops_within was m))) =
        ap largest (map_alike (scratch_room now.arrays) (scratch_room was.arrays) (ops_within now k) (λ op there. same_scratch was.arrays now.arrays layouts op))
        ∙ largest_among (scratch_room was.arrays) (ops_within now k) (ops_within was k) (ops_within was m) g in
        let u : sum_by (input_room now.arrays) (ops_within now k) ≡ sum_by (input_room was.arrays) (ops_within was k) + sum_by (input_room was.arrays) (ops_within was m) =
        sum_alike (input_room now.arrays) (input_room was.arrays) (ops_within now k) (λ op there. same_input_room was.arrays now.arrays layouts op)
        ∙ sum_among (input_room was.arrays) (ops_within now k) (ops_within was k) (ops_within was m) g in
        let v = same_output_room was.arrays now.arrays layouts (op_of p k) in
        λ t. room_of (x t) (y_is t) (z t) (u t) (v t)

    pub room_before : (j : ℕ) → j < k → room_within (inlining p too) j ≡ room_within (inlining p chosen) j
    room_before j l =
        same_room (inlining p chosen) (inlining p too) (alike p s chosen too made) j
        (before_agree (inlining p chosen) (inlining p too) a k i may.maker.0 more j l)

    -- the operation reads it as a stored array, so far
    pub reads_some : 0 < (room_within (inlining p chosen) k).reads
    reads_some = deep k
      where
        counted : (f : ℕ → Bool) (xs : List ℕ) → Contains xs a → f a ≡ true → 0 < count_by f xs
        counted f xs there t =
            let one = get_or-le-sum_by (λ (x : ℕ). one_if (f x)) xs there.0 a there.1 in
            let here : one_if (f (get_or xs there.0 a)) ≡ 1 = ap (λ (x : ℕ). one_if (f x)) there.2 ∙ (rw t refl) in
            omega (arith, one, here)

        own : 0 < stored_reads (inlining p chosen).arrays (op_of p k)
        own =
            counted (λ x. not (is_inlined (inlining p chosen).arrays x)) (reads_of (op_of p k)) read
            (ap not (flag_is p chosen a few ∙ off_before))

        deep : (n : ℕ) → 0 < sum_by (stored_reads (inlining p chosen).arrays) (ops_deep (inlining p chosen) n (op_of p k))
        deep zero = let l = own in let all = sum_by-cons (stored_reads (inlining p chosen).arrays) (op_of p k) [] in omega (arith, l, all)
        deep (suc n) =
            let l = own in
            let all = sum_by-cons (stored_reads (inlining p chosen).arrays) (op_of p k)
            (flat_map (λ b. if is_inlined (inlining p chosen).arrays b then ops_deep (inlining p chosen) n (maker_op (inlining p chosen) b) else []) (reads_of (op_of p k))) in
            omega (arith, l, all)
