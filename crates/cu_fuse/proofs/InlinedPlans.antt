-- The plan in which the chosen arrays are inlined: what of it is as it was, and what its operations need.
use Rattle.cu_op.proofs.AllStored.{all_projection}
use Rattle.cu_op.proofs.Members.{bool_cases, contains_any}
use Rattle.cu_fuse.proofs.AlikeKinds.{same_input_room, same_output_room, same_scratch, SameLayouts}
use Rattle.cu_fuse.proofs.Chosen.{some_reader}
use Rattle.cu_fuse.proofs.Flagged.{alike, flag_at, flag_past, layouts_kept, long, maker_kept, read_before, StayWithin}
use Rattle.cu_fuse.proofs.Inside.{alone, same_projection, same_reads, same_within, AreAlike}
use Rattle.cu_fuse.proofs.ReadOnce.{place_in, read_earlier}
use Rattle.cu_op.specs.Numbers.{stands_in}
use Rattle.cu_fuse.specs.Inlining.{earlier_reads, inlined_by, inlining, prefix_where, trial, FitsOneTask, IsInliningChoice, MayBeInlined}
use Rattle.cu_op.specs.Arrays.{array_at, is_inlined, maker_at, no_array, AllStored}
use Rattle.cu_op.specs.Operation.{reads_of, IsBefore}
use Rattle.cu_op.specs.PlanView.{PlanView, no_operation, op_of, operation_at}
use Rattle.cu_op.specs.Projection.{input_room, instruction_count, own_projection, projection, scratch_room}
use Rattle.cu_op.specs.Sound.{Sound}
use Rattle.cu_op.specs.Within.{ops_within}
use Rattle.cu_op.specs.declared.layout.ArrayInfo.{ArrayInfo}
use Rattle.cu_op.specs.declared.operation.Op.{Op}
use Rattle.cu_op.specs.declared.operation.Planned.{Planned}
use Rattle.cu_shape.specs.Counts.{largest}
use Rattle.std.proofs.Common.{◌≡◌, ◌≢◌, ◌⊎◌, inl, inr, ℕ, zero, suc, ◌+◌, ◌^◌, ◌<◌, ◌≤◌, ◌==◌, ◌&&◌, ◌||◌, true, false, List, [], ◌∷◌, length, map, Contains, Some, None, Option, refl, ap, sym, ◌∙◌, subst, arith, Bool}
use Rattle.std.specs.List.{slice_get}
use Rattle.std.specs.Prelude.{sum_by}
use Rattle.std.proofs.lemmas.Bool.{cases_lt, cases_order, eqb-true}
use Rattle.std.proofs.lemmas.Bool.Decides.{eqb_tells}
use Rattle.std.proofs.lemmas.List.{get_or_past}
use Rattle.std.proofs.lemmas.List.FromFn.{get_or-map-range_with_len, length-map-range_with_len}
use Rattle.std.proofs.lemmas.List.Sums.{sum_by-cons}
use Rattle.std.proofs.lemmas.Option.{same_Some}

-- ---- the last of a list that is chosen

abbrev LastChosen : (ℕ → Bool) → List ℕ → Type 0
LastChosen f xs = (i : ℕ) × (a : ℕ) × (slice_get xs i ≡ Some a) × (f a ≡ true) × ((n b : ℕ) → i < n → slice_get xs n ≡ Some b → f b ≡ false)

last_chosen : (f : ℕ → Bool) (xs : List ℕ) → ((n b : ℕ) → slice_get xs n ≡ Some b → f b ≡ false) ⊎ LastChosen f xs
last_chosen f [] = inl (λ n b e. cc)
last_chosen f (x ∷ xs) =
    elim (last_chosen f xs) [
      | inr last ↦ inr (suc last.0, last.1, last.2, last.3, behind last.0 last.4)
      | inl none ↦
          elim (bool_cases (f x)) [
            | inl t ↦ inr (0, x, refl, t, (λ n b l e. first n b l e none))
            | inr off ↦ inl (all off none)
          ]
    ]
  where
    behind : (i : ℕ) → ((n b : ℕ) → i < n → slice_get xs n ≡ Some b → f b ≡ false) → (n b : ℕ) → suc i < n → slice_get (x ∷ xs) n ≡ Some b → f b ≡ false
    behind i h zero b l e = absurd (omega arith)
    behind i h (suc n) b l e = h n b (omega (arith, l)) e

    first : (n b : ℕ) → 0 < n → slice_get (x ∷ xs) n ≡ Some b → ((n b : ℕ) → slice_get xs n ≡ Some b → f b ≡ false) → f b ≡ false
    first zero b l e none = absurd (omega arith)
    first (suc n) b l e none = none n b e

    all : f x ≡ false → ((n b : ℕ) → slice_get xs n ≡ Some b → f b ≡ false) → (n b : ℕ) → slice_get (x ∷ xs) n ≡ Some b → f b ≡ false
    all off none zero b e = subst (λ (y : ℕ). f y ≡ false) (same_Some x b e) off
    all off none (suc n) b e = none n b e

-- ---- room in an alike plan

room_alike : (p q : PlanView) (s : AreAlike p q) (k : ℕ) → q.allowed ≡ p.allowed
    → ((j a : ℕ) → j ≤ k → Contains (reads_of (op_of p j)) a → is_inlined q.arrays a ≡ is_inlined p.arrays a) → FitsOneTask p k → FitsOneTask q k
room_alike p q s k allowed agree room =
    let a : sum_by instruction_count (ops_within q k) ≡ sum_by instruction_count (ops_within p k) = ap (sum_by instruction_count) (same_within p q s k agree) in
    let b = same_reads p q s k agree in
    let c = same_projection p q s k agree in
    let x = room.instructions in
    let y = room.reads in
    let z = room.memory in
    record { instructions = omega (arith, a, x); reads = omega (arith, b, y); memory = omega (arith, c, z, allowed) }

one_sum : (f : Op → ℕ) (op : Op) → sum_by f (op ∷ []) ≡ f op
one_sum f op = sum_by-cons f op [] ∙ (let e : f op + 0 ≡ f op = omega arith in e)

alone_needs : (p : PlanView) (k : ℕ) → ops_within p k ≡ op_of p k ∷ [] → projection p k ≡ own_projection p.arrays p.reserved (op_of p k)
alone_needs p k one =
    let op = op_of p k in
    let a : largest (map (scratch_room p.arrays) (ops_within p k)) ≡ scratch_room p.arrays op =
    ap (λ (ops : List Op). largest (map (scratch_room p.arrays) ops)) one ∙ (let e : largest (scratch_room p.arrays op ∷ []) ≡ scratch_room p.arrays op = omega arith in e) in
    let b : sum_by (input_room p.arrays) (ops_within p k) ≡ input_room p.arrays op = ap (λ (ops : List Op). sum_by (input_room p.arrays) ops) one ∙ one_sum (input_room p.arrays) op in
    let c : sum_by instruction_count (ops_within p k) ≡ instruction_count op = ap (λ (ops : List Op). sum_by instruction_count ops) one ∙ one_sum instruction_count op in
    omega (arith, a, b, c)

-- ---- the chosen arrays

module _ (p : PlanView) (chosen : ℕ → Bool) (c : IsInliningChoice p chosen) where
  pub chosen_may : (a : ℕ) → chosen a ≡ true
      → (k : ℕ) × (i : ℕ) × (slice_get (reads_of (op_of p k)) i ≡ Some a) × MayBeInlined p k a × FitsOneTask (trial p chosen k i a) k
  chosen_may a t =
      let (k, read) = some_reader p.ops a (λ none. off_and_on (c.unread a none) t) in
      let (i, at) = place_in (reads_of (op_of p k)) a read in
      let r = (c.read k i a at).0 t in
      (k, i, at, r.0, r.1)
    where
      off_and_on : chosen a ≡ false → chosen a ≡ true → ⊥
      off_and_on f t = cc

  is_made : (o : Option ℕ) (m : ℕ) → o ≡ Some m → o ≢ None
  is_made None m e none = cc
  is_made (Some n) m e none = cc

  pub chosen_made : (a : ℕ) → chosen a ≡ true → maker_at p.arrays a ≢ None
  chosen_made a t = let (k, i, at, may, room) = chosen_may a t in is_made (maker_at p.arrays a) may.maker.0 may.maker.1

  pub stays : StayWithin p chosen
  stays a far =
      elim (bool_cases (chosen a)) [
        | inr f ↦ f
        | inl t ↦ absurd (chosen_made a t (ap (λ (x : ArrayInfo). x.maker) (get_or_past p.arrays a no_array far)))
      ]

  pub input_left : (a : ℕ) → maker_at p.arrays a ≡ None → chosen a ≡ false
  input_left a none = elim (bool_cases (chosen a)) [ inl t ↦ absurd (chosen_made a t none) | inr f ↦ f ]

  module _ (s : Sound p) where
    -- where an operation reads a chosen array, it has room with all that are
    trial_alike : (k i a : ℕ) → maker_at p.arrays a ≢ None → AreAlike (trial p chosen k i a) (inlining p chosen)
    trial_alike k i a some =
        alike p s (λ b. b == a || (chosen b && stands_in (earlier_reads p k i) b)) chosen (λ b l t.
        elim (bool_cases (b == a)) [
          | inl is ↦ subst (λ (x : ℕ). maker_at p.arrays x ≢ None) (sym (eqb-true b a is)) some
          | inr not_it ↦
              elim (bool_cases (chosen b)) [
                | inl on ↦ chosen_made b on
                | inr off ↦ absurd (let e : false ≡ true = rw (not_it, off) at t in cc)
              ]
        ])

    reads_agree : (k i a : ℕ) → slice_get (reads_of (op_of p k)) i ≡ Some a → chosen a ≡ true
        → ((n b : ℕ) → i < n → slice_get (reads_of (op_of p k)) n ≡ Some b → chosen b ≡ false)
        → (j b : ℕ) → j ≤ k → Contains (reads_of (op_of p j)) b → chosen b ≡ (b == a || (chosen b && stands_in (earlier_reads p k i) b))
    reads_agree k i a at on last j b l read =
        elim (bool_cases (b == a)) [
          | inl is ↦ let own : chosen b ≡ true = ap chosen (eqb-true b a is) ∙ on in rw (is, own) refl
          | inr not_it ↦
              elim (bool_cases (chosen b)) [
                | inr off ↦ rw (not_it, off) refl
                | inl t ↦
                    let stands : stands_in (earlier_reads p k i) b ≡ true = contains_any (earlier_reads p k i) b (before not_it t) in
                    rw (not_it, t, stands) refl
              ]
        ]
      where
        differ : {x : Bool} → x ≡ true → x ≡ false → ⊥
        differ t f = cc

        before : (b == a) ≡ false → chosen b ≡ true → Contains (earlier_reads p k i) b
        before not_it t =
            let (n, found) = place_in (reads_of (op_of p j)) b read in
            elim (cases_lt j k) [
              | inl less ↦ read_earlier p k i b j n (inl less) found
              | inr far ↦
                  let same : j ≡ k = omega (arith, l, far) in
                  let here : slice_get (reads_of (op_of p k)) n ≡ Some b = subst (λ (m : ℕ). slice_get (reads_of (op_of p m)) n ≡ Some b) same found in
                  elim (cases_order n i) [
                    | inl is ↦
                        let own : b ≡ a = same_Some b a (sym here ∙ ap (slice_get (reads_of (op_of p k))) is ∙ at) in
                        absurd (elim (eqb_tells b a) [ inl q ↦ differ q.0 not_it | inr q ↦ q.1 own ])
                    | inr other ↦ elim other [
                      | inl less ↦ read_earlier p k i b j n (inr (same, less)) found
                      | inr more ↦ absurd (differ t (last n b more here))
                    ]
                  ]
            ]

    pub room_or_none : (k : ℕ) → ((a : ℕ) → Contains (reads_of (op_of p k)) a → chosen a ≡ false) ⊎ FitsOneTask (inlining p chosen) k
    room_or_none k =
        elim (last_chosen chosen (reads_of (op_of p k))) [
          | inl none ↦ inl (λ a read. let (n, at) = place_in (reads_of (op_of p k)) a read in none n a at)
          | inr last ↦
              let i = last.0 in
              let a = last.1 in
              let r = (c.read k i a last.2).0 last.3 in
              let flags = (λ (b : ℕ). b == a || (chosen b && stands_in (earlier_reads p k i) b)) in
              inr (room_alike (trial p chosen k i a) (inlining p chosen) (trial_alike k i a (is_made (maker_at p.arrays a) r.0.maker.0 r.0.maker.1)) k refl
              (λ j b l read.
              let w = (read_before p s j b read).0 in
              flag_at p chosen b w ∙ reads_agree k i a last.2 last.3 last.4 j b l read ∙ sym (flag_at p flags b w)) r.1)
        ]

    pub alone_within : (k : ℕ) → ((a : ℕ) → Contains (reads_of (op_of p k)) a → chosen a ≡ false) → ops_within (inlining p chosen) k ≡ op_of p k ∷ []
    alone_within k none =
        alone (inlining p chosen) (inlining p chosen) (alike p s chosen chosen (λ a l t. chosen_made a t)) (inlining p chosen) k (op_of p k)
        (λ a read. flag_at p chosen a (read_before p s k a read).0 ∙ none a read)

    -- what an operation needs
    pub need_of : (k : ℕ) → AllStored p.arrays → (projection (inlining p chosen) k ≡ projection p k) ⊎ FitsOneTask (inlining p chosen) k
    need_of k stored =
        elim (room_or_none k) [
          | inr room ↦ inr room
          | inl none ↦
              let op = op_of p k in
              let a = alone_needs (inlining p chosen) k (alone_within k none) in
              let b = all_projection p k stored in
              let layouts = layouts_kept p chosen in
              let x = same_scratch p.arrays (inlining p chosen).arrays layouts op in
              let y = same_input_room p.arrays (inlining p chosen).arrays layouts op in
              let z = same_output_room p.arrays (inlining p chosen).arrays layouts op in
              inl (omega (arith, a, b, x, y, z))
        ]

-- ---- the plan

module _ (p : PlanView) (chosen : ℕ → Bool) where
  abbrev new : PlanView
  new = inlined_by p chosen

  abbrev new_array : ℕ → ArrayInfo
  new_array a = record (array_at p.arrays a) { prefix = prefix_where p chosen a; inlined = chosen a }

  abbrev new_operation : ℕ → Planned
  new_operation k = record (operation_at p.ops k) { projected = projection (inlining p chosen) k }

  pub arrays_long : length new.arrays ≡ length p.arrays
  arrays_long = length-map-range_with_len new_array 0 (length p.arrays)

  pub ops_long : length new.ops ≡ length p.ops
  ops_long = length-map-range_with_len new_operation 0 (length p.ops)

  pub array_is : (a : ℕ) → a < length p.arrays → array_at new.arrays a ≡ new_array a
  array_is a l = get_or-map-range_with_len new_array 0 (length p.arrays) a a no_array l (omega arith)

  pub array_past : (a : ℕ) → length p.arrays ≤ a → array_at new.arrays a ≡ array_at p.arrays a
  array_past a far = let l = arrays_long in get_or_past new.arrays a no_array (omega (arith, l, far)) ∙ sym (get_or_past p.arrays a no_array far)

  pub operation_is : (k : ℕ) → k < length p.ops → operation_at new.ops k ≡ new_operation k
  operation_is k l = get_or-map-range_with_len new_operation 0 (length p.ops) k k no_operation l (omega arith)

  same_array : {T : Type 0} (what : ArrayInfo → T) → ((x : ArrayInfo) (name : List ℕ) (b : Bool) → what (record x { prefix = name; inlined = b }) ≡ what x)
      → (a : ℕ) → what (array_at new.arrays a) ≡ what (array_at p.arrays a)
  same_array what kept a =
      elim (cases_lt a (length p.arrays)) [
        | inl l ↦ ap what (array_is a l) ∙ kept (array_at p.arrays a) (prefix_where p chosen a) (chosen a)
        | inr far ↦ ap what (array_past a far)
      ]

  pub same_maker : (a : ℕ) → maker_at new.arrays a ≡ maker_at p.arrays a
  same_maker a = same_array (λ (x : ArrayInfo). x.maker) (λ x name b. refl) a

  pub same_layouts : SameLayouts p.arrays new.arrays
  same_layouts = record { at = λ a. same_array (λ (x : ArrayInfo). x.layout) (λ x name b. refl) a }

  pub new_flag : (a : ℕ) → StayWithin p chosen → is_inlined new.arrays a ≡ chosen a
  new_flag a few =
      elim (cases_lt a (length p.arrays)) [
        | inl l ↦ ap (λ (x : ArrayInfo). x.inlined) (array_is a l)
        | inr far ↦ let l = arrays_long in flag_past new.arrays a (omega (arith, l, far)) ∙ sym (few a far)
      ]

  same_operation : {T : Type 0} (what : Planned → T) → ((x : Planned) (n : ℕ) → what (record x { projected = n }) ≡ what x)
      → (k : ℕ) → what (operation_at new.ops k) ≡ what (operation_at p.ops k)
  same_operation what kept k =
      elim (cases_lt k (length p.ops)) [
        | inl l ↦ ap what (operation_is k l) ∙ kept (operation_at p.ops k) (projection (inlining p chosen) k)
        | inr far ↦
            let l = ops_long in
            ap what (get_or_past new.ops k no_operation (omega (arith, l, far)) ∙ sym (get_or_past p.ops k no_operation far))
      ]

  pub same_op : (k : ℕ) → op_of new k ≡ op_of p k
  same_op k = same_operation (λ (x : Planned). x.op) (λ x n. refl) k

  pub same_node : (k : ℕ) → (operation_at new.ops k).node ≡ (operation_at p.ops k).node
  same_node k = same_operation (λ (x : Planned). x.node) (λ x n. refl) k

  module _ (s : Sound p) (c : IsInliningChoice p chosen) where
    pub new_alike : AreAlike (inlining p chosen) new
    new_alike = record {
      ops = same_op;
      makers = λ a. same_maker a ∙ sym (maker_kept p chosen a);
      layouts = record { at = λ a. same_layouts.at a ∙ sym ((layouts_kept p chosen).at a) };
      reserved = refl;
      before = λ k a read. subst (λ (m : Option ℕ). IsBefore m k) (sym (maker_kept p chosen a)) (read_before p s k a read).1;
      made = λ a t.
          let l = long p chosen in
          let within = flag_inside (inlining p chosen).arrays a t in
          let b : a < length p.arrays = omega (arith, l, within) in
          λ none. chosen_made p chosen c a (sym (flag_at p chosen a b) ∙ t) (sym (maker_kept p chosen a) ∙ none);
    }
      where
        flag_inside : (arrays : List ArrayInfo) (a : ℕ) → is_inlined arrays a ≡ true → a < length arrays
        flag_inside arrays a t = elim (cases_lt a (length arrays)) [ inl l ↦ l | inr far ↦ absurd (let f = flag_past arrays a far in cc) ]

    new_agree : (k j a : ℕ) → j ≤ k → Contains (reads_of (op_of p j)) a → is_inlined new.arrays a ≡ is_inlined (inlining p chosen).arrays a
    new_agree k j a l read = new_flag a (stays p chosen c) ∙ sym (flag_at p chosen a (read_before p s j a read).0)

    pub new_projection : (k : ℕ) → projection new k ≡ projection (inlining p chosen) k
    new_projection k = same_projection (inlining p chosen) new new_alike k (new_agree k)

    pub new_room : (k : ℕ) → FitsOneTask (inlining p chosen) k → FitsOneTask new k
    new_room k room = room_alike (inlining p chosen) new new_alike k refl (new_agree k) room

    pub projection_is : (k : ℕ) → k < length p.ops → (operation_at new.ops k).projected ≡ projection new k
    projection_is k l = ap (λ (x : Planned). x.projected) (operation_is k l) ∙ sym (new_projection k)

    pub new_fits : (k : ℕ) → k < length p.ops → AllStored p.arrays → p.allowed < 2 ^ 64 → projection new k < 2 ^ 64
    new_fits k l stored allowed =
        let is = new_projection k in
        let was = s.rooms k l in
        elim (need_of p chosen c s k stored) [
          | inl same ↦ omega (arith, is, was, same)
          | inr room ↦ let most = room.memory in omega (arith, is, most, allowed)
        ]

    pub within_allowed : (k : ℕ) → k < length p.ops → AllStored p.arrays → (operation_at p.ops k).projected ≤ p.allowed → projection new k ≤ p.allowed
    within_allowed k l stored few =
        let is = new_projection k in
        let was = s.projections k l in
        elim (need_of p chosen c s k stored) [
          | inl same ↦ omega (arith, is, was, same, few)
          | inr room ↦ let most = room.memory in omega (arith, is, most)
        ]
