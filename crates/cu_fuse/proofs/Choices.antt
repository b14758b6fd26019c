-- A plan while its inlined arrays are chosen: what each call of the code needs and gives.
use Rattle.cu_op.proofs.AllStored.{all_projection}
use Rattle.cu_op.proofs.KindLaws.{laws_of}
use Rattle.cu_fuse.proofs.AlikeKinds.{same_by_chunk, same_input_room, SameLayouts}
use Rattle.cu_fuse.proofs.Chosen.{left, next, start, taken}
use Rattle.cu_fuse.proofs.ChosenRooms.{first_room, fits_told, grown_room, needs_projection, reads_some, room_before, told_fits, too_within}
use Rattle.cu_fuse.proofs.Flagged.{again, array_flagged, flag_past, flags_alike, flags_are, from_stored, its_own, layouts_kept, long, maker_kept, read_before, stored_again, StayWithin}
use Rattle.cu_fuse.specs.Choosing.{all_stored, IsChosenTo, IsInliningChoiceTo}
use Rattle.cu_fuse.specs.Inlining.{inlining, FitsOneTask, MayBeInlined}
use Rattle.cu_fuse.specs.Rooms.{joined, own_room, room_fits, room_within}
use Rattle.cu_fuse.specs.declared.room.Room.{Room}
use Rattle.cu_op.specs.Arrays.{is_inlined, maker_at, no_array, AllStored}
use Rattle.cu_op.specs.Operation.{reads_of, target_of, writes_of, IsBefore}
use Rattle.cu_op.specs.PlanView.{PlanView, op_of}
use Rattle.cu_op.specs.Projection.{input_room}
use Rattle.cu_op.specs.Sound.{Sound}
use Rattle.cu_op.specs.declared.layout.ArrayInfo.{ArrayInfo}
use Rattle.std.proofs.Common.{◌≡◌, inl, inr, ℕ, ◌+◌, ◌^◌, ◌<◌, ◌≤◌, ◌==◌, ◌||◌, true, false, length, All, Contains, Some, None, Option, ap, sym, ◌∙◌, subst, arith, Bool}
use Rattle.std.specs.List.{slice_get}
use Rattle.std.proofs.lemmas.Bool.{cases_lt}
use Rattle.std.proofs.lemmas.List.{get_or_default}
use Rattle.std.proofs.lemmas.List.Elements.{All-contains}
use Rattle.std.proofs.lemmas.Option.{same_Some}

pub none_inlined : (c : PlanView) → AllStored (all_stored c).arrays
none_inlined c n d h =
    let l = long c (λ a. false) in
    subst (λ (x : ArrayInfo). x.inlined ≡ false) (get_or_default (all_stored c).arrays n no_array d h)
    (ap (λ (x : ArrayInfo). x.inlined) (array_flagged c (λ a. false) n (omega (arith, l, h))))

-- a plan in which all is stored is the one from which the choice begins
pub is_stored : (p : PlanView) → AllStored p.arrays → all_stored p ≡ p
is_stored p h =
    flags_alike p (λ a. false) (is_inlined p.arrays) (λ a l. sym (h a no_array l)) ∙ (λ i. record p { arrays = kept i })
  where
    kept : (inlining p (is_inlined p.arrays)).arrays ≡ p.arrays
    kept = ap (λ (q : PlanView). q.arrays) (sym (its_own p))

layouts_back : (c : PlanView) (f : ℕ → Bool) → SameLayouts (inlining c f).arrays c.arrays
layouts_back c f = record { at = λ a. sym ((layouts_kept c f).at a) }

abbrev may_of : (c : PlanView) (k a : ℕ) → MayBeInlined c k a → MayBeInlined (all_stored c) k a
may_of c k a m = record {
  maker = (m.maker.0, maker_kept c (λ b. false) a ∙ m.maker.1, m.maker.2);
  inner = m.inner;
  once = m.once;
  chunk = same_by_chunk c.arrays (all_stored c).arrays (layouts_kept c (λ b. false)) (op_of c k) a m.chunk;
}

of_may : (c : PlanView) (k a : ℕ) → MayBeInlined (all_stored c) k a → MayBeInlined c k a
of_may c k a m = record {
  maker = (m.maker.0, sym (maker_kept c (λ b. false) a) ∙ m.maker.1, m.maker.2);
  inner = m.inner;
  once = m.once;
  chunk = same_by_chunk (all_stored c).arrays c.arrays (layouts_back c (λ b. false)) (op_of c k) a m.chunk;
}

module _ (c : PlanView) (k i : ℕ) (h : IsChosenTo c k i) where
  abbrev p : PlanView
  p = all_stored c

  abbrev chosen : ℕ → Bool
  chosen = is_inlined c.arrays

  few : StayWithin p chosen
  few a far = let l = long c (λ b. false) in flag_past c.arrays a (omega (arith, l, far))

  -- ---- where arrays and operations stand

  pub array_within : (a : ℕ) → Contains (reads_of (op_of c k)) a → a < length c.arrays
  array_within a read = let l = long c (λ b. false) in let w = (read_before p h.sound k a read).0 in omega (arith, l, w)

  pub maker_within : (a m : ℕ) → a < length c.arrays → maker_at c.arrays a ≡ Some m → m < length c.ops
  maker_within a m b e =
      let l = long c (λ x. false) in
      (h.sound.makers a m (omega (arith, l, b)) (maker_kept c (λ x. false) a ∙ e)).0

  pub maker_before : (a m : ℕ) → Contains (reads_of (op_of c k)) a → maker_at c.arrays a ≡ Some m → m < k
  maker_before a m read e =
      go (maker_at p.arrays a) (read_before p h.sound k a read).1 (maker_kept c (λ x. false) a ∙ e)
    where
      go : (o : Option ℕ) → IsBefore o k → o ≡ Some m → m < k
      go None b e = cc
      go (Some n) b e = let same : n ≡ m = cc in omega (arith, same, b)

  pub all_reads : k < length c.ops → All (λ a. a < length c.arrays) (reads_of (op_of c k))
  all_reads b n d l =
      let w = ((h.sound.operations k b).reads n d l).0 in let e = long c (λ x. false) in omega (arith, e, w)

  pub all_writes : k < length c.ops → All (λ a. a < length c.arrays) (writes_of (op_of c k))
  all_writes b n d l =
      let w = ((h.sound.operations k b).writes n d l).0 in let e = long c (λ x. false) in omega (arith, e, w)

  pub target_within : k < length c.ops → target_of (op_of c k) < length c.arrays
  target_within b = All-contains (λ a. a < length c.arrays) (writes_of (op_of c k)) (target_of (op_of c k)) (all_writes b) (laws_of (op_of c k)).target

  pub few_ops : length c.ops < 2 ^ 32
  few_ops = h.sound.operation_count

  pub few_arrays : length c.arrays < 2 ^ 32
  few_arrays = let l = long c (λ x. false) in let w = h.sound.array_count in omega (arith, l, w)

  pub own_small : k < length c.ops → input_room c.arrays (op_of c k) < 2 ^ 64
  own_small b =
      let room = h.sound.rooms k b in
      let e = all_projection p k (none_inlined c) in
      let y = same_input_room c.arrays p.arrays (layouts_kept c (λ z. false)) (op_of c k) in
      omega (arith, room, e, y)

  -- ---- what is needed

  pub first_is : i ≡ 0 → room_within c k ≡ own_room c.arrays (op_of c k)
  first_is z =
      ap (λ (q : PlanView). room_within q k) (from_stored c) ∙ first_room p h.sound chosen few k i h.choice z
      ∙ ap (λ (q : PlanView). own_room q.arrays (op_of c k)) (sym (from_stored c))

  pub done : length (reads_of (op_of c k)) ≡ i → IsChosenTo c (k + 1) 0
  done all = record { sound = h.sound; allowed = h.allowed; choice = next p chosen k i all h.choice }

  module _ (a : ℕ) (at : slice_get (reads_of (op_of c k)) i ≡ Some a) where
    abbrev too : ℕ → Bool
    too b = b == a || is_inlined c.arrays b

    now_is : inlining p too ≡ inlining c too
    now_is = again c (λ b. false) too

    -- the array isn't chosen
    pub not_taken : (MayBeInlined c k a → FitsOneTask (inlining c too) k → ⊥) → IsChosenTo c k (i + 1)
    not_taken never = record {
      sound = h.sound;
      allowed = h.allowed;
      choice = left p chosen k i h.choice a at (λ m. never (of_may c k a m.0) (subst (λ (q : PlanView). FitsOneTask q k) now_is m.1));
    }

    module _ (may : MayBeInlined c k a) where
      m_is : (m : ℕ) → maker_at c.arrays a ≡ Some m → may.maker.0 ≡ m
      m_is m e = same_Some may.maker.0 m (sym may.maker.1 ∙ e)

      pub joined_is : (m : ℕ) → maker_at c.arrays a ≡ Some m
          → room_within (inlining c too) k ≡ joined (room_within c k) (room_within c m)
      joined_is m e =
          ap (λ (q : PlanView). room_within q k) (sym now_is)
          ∙ grown_room p h.sound chosen few k i h.choice a at (may_of c k a may)
          ∙ (λ t. joined (room_within (sym (from_stored c) t) k) (room_within (sym (from_stored c) t) may.maker.0))
          ∙ ap (λ (n : ℕ). joined (room_within c k) (room_within c n)) (m_is m e)

      pub some_reads : 0 < (room_within c k).reads
      some_reads =
          subst (λ (q : PlanView). 0 < (room_within q k).reads) (sym (from_stored c))
          (reads_some p h.sound chosen few k i h.choice a at (may_of c k a may))

      -- the array is chosen
      pub taken_now : FitsOneTask (inlining c too) k → IsChosenTo (inlining c too) k (i + 1)
      taken_now room = record {
        sound = subst Sound (sym (stored_again c too)) h.sound;
        allowed = h.allowed;
        choice = subst (λ (q : PlanView). IsInliningChoiceTo q (is_inlined (inlining c too).arrays) k (i + 1)) (sym (stored_again c too))
            (subst (λ (f : ℕ → Bool). IsInliningChoiceTo p f k (i + 1)) (sym (flags_are c too stay))
            (taken p chosen k i h.choice a at (may_of c k a may) (subst (λ (q : PlanView). FitsOneTask q k) (sym now_is) room)));
      }
        where
          stay : StayWithin c too
          stay b far = let l = long c (λ x. false) in too_within p h.sound chosen few k i h.choice a at (may_of c k a may) b (omega (arith, l, far))

      pub rooms_before : (j : ℕ) → j < k → room_within (inlining c too) j ≡ room_within c j
      rooms_before j l =
          ap (λ (q : PlanView). room_within q j) (sym now_is)
          ∙ room_before p h.sound chosen few k i h.choice a at (may_of c k a may) j l
          ∙ ap (λ (q : PlanView). room_within q j) (sym (from_stored c))

      -- it is chosen where the reader has room
      pub too_large : (m : ℕ) → maker_at c.arrays a ≡ Some m
          → room_fits c.allowed c.reserved (joined (room_within c k) (room_within c m)) ≡ false
          → FitsOneTask (inlining c too) k → ⊥
      too_large m e off room =
          let on = told_fits (inlining c too) k room in
          let same = joined_is m e in
          both (subst (λ (r : Room). room_fits c.allowed c.reserved r ≡ true) same on) off
        where
          both : {b : Bool} → b ≡ true → b ≡ false → ⊥
          both t f = cc

      pub too_long : (m : ℕ) → maker_at c.arrays a ≡ Some m
          → 2 ^ 64 ≤ (joined (room_within c k) (room_within c m)).inputs
          → FitsOneTask (inlining c too) k → ⊥
      too_long m e far room =
          let most = room.memory in
          let is = needs_projection (inlining c too) k in
          let same = ap (λ (r : Room). r.inputs) (joined_is m e) in
          let allowed = h.allowed in
          omega (arith, most, is, same, allowed, far)

      pub small_enough : (m : ℕ) → maker_at c.arrays a ≡ Some m
          → room_fits c.allowed c.reserved (joined (room_within c k) (room_within c m)) ≡ true
          → FitsOneTask (inlining c too) k
      small_enough m e on =
          fits_told (inlining c too) k (subst (λ (r : Room). room_fits c.allowed c.reserved r ≡ true) (sym (joined_is m e)) on)

-- ---- the ends

pub begun : (p : PlanView) → Sound p → AllStored p.arrays → p.allowed < 2 ^ 64 → IsChosenTo p 0 0
begun p s stored room =
    let same = is_stored p stored in
    record {
      sound = subst Sound (sym same) s;
      allowed = room;
      choice = subst (λ (f : ℕ → Bool). IsInliningChoiceTo (all_stored p) f 0 0) none (start (all_stored p));
    }
  where
    none : (λ (a : ℕ). false) ≡ is_inlined p.arrays
    none = λ i a. sym (each a) i
      where
        each : (a : ℕ) → is_inlined p.arrays a ≡ false
        each a = elim (cases_lt a (length p.arrays)) [ inl l ↦ stored a no_array l | inr far ↦ flag_past p.arrays a far ]
