-- A plan when all of its inlined arrays are chosen.
use Rattle.cu_fuse.proofs.Choices.{none_inlined}
use Rattle.cu_fuse.proofs.Chosen.{finished}
use Rattle.cu_fuse.proofs.Flagged.{array_flagged, from_stored, long, maker_kept, prefix_kept}
use Rattle.cu_fuse.proofs.InlinedPlans.{need_of, new_flag, stays}
use Rattle.cu_fuse.specs.Choosing.{all_stored, IsChosenTo}
use Rattle.cu_fuse.specs.Inlining.{inlined_by, inlining, is_numbered, prefix_where, IsInlinedOf, IsInliningChoice}
use Rattle.cu_fuse.specs.Rooms.{room_within}
use Rattle.cu_fuse.specs.declared.room.Room.{Room}
use Rattle.cu_name.specs.Keys.{made_prefix_of}
use Rattle.cu_op.specs.Arrays.{array_at, is_inlined, no_array}
use Rattle.cu_op.specs.PlanView.{PlanView, operation_at}
use Rattle.cu_op.specs.Projection.{projection}
use Rattle.cu_op.specs.declared.layout.ArrayInfo.{ArrayInfo}
use Rattle.std.proofs.Common.{◌≡◌, inl, inr, ℕ, ◌^◌, ◌<◌, ◌==◌, ◌&&◌, false, not, List, length, map, get_or, ap, sym, ◌∙◌, subst, arith, Bool, if◌then◌else◌}
use Rattle.std.specs.List.{count_by, range_with_len}
use Rattle.std.specs.Option.{is_some}
use Rattle.std.proofs.lemmas.List.FromFn.{fill_by_all, get_or-map-range_with_len, length-map-range_with_len}

-- ---- what operations before need

pub room_at : (p : PlanView) (k m : ℕ) (rooms : List Room) (d : Room) → rooms ≡ map (room_within p) (range_with_len 0 k) → m < k
    → get_or rooms m d ≡ room_within p m
room_at p k m rooms d e l = ap (λ (xs : List Room). get_or xs m d) e ∙ get_or-map-range_with_len (room_within p) 0 k m m d l (omega arith)

pub rooms_long : (p : PlanView) (k : ℕ) (rooms : List Room) → rooms ≡ map (room_within p) (range_with_len 0 k) → length rooms ≡ k
rooms_long p k rooms e = ap length e ∙ length-map-range_with_len (room_within p) 0 k

pub rooms_alike : (p q : PlanView) (k : ℕ) → ((j : ℕ) → j < k → room_within q j ≡ room_within p j)
    → map (room_within p) (range_with_len 0 k) ≡ map (room_within q) (range_with_len 0 k)
rooms_alike p q k same =
    fill_by_all (room_within q) (map (room_within p) (range_with_len 0 k)) k (room_within p 0) (length-map-range_with_len (room_within p) 0 k)
    (λ j l. get_or-map-range_with_len (room_within p) 0 k j j (room_within p 0) l (omega arith) ∙ sym (same j l))

-- ---- the plan that is made of it

-- each operation with the memory that it needs
abbrev pub with_needs : PlanView → PlanView
with_needs c = record c {
  ops = map (λ k. record (operation_at c.ops k) { projected = projection c k }) (range_with_len 0 (length c.ops));
}

-- and arrays with names that close up
abbrev pub renamed : PlanView → PlanView
renamed c = record c {
  arrays = map (λ a. record (array_at c.arrays a) { prefix = prefix_where c (is_inlined c.arrays) a }) (range_with_len 0 (length c.arrays));
}

module _ (c : PlanView) (h : IsChosenTo c (length c.ops) 0) where
  abbrev p : PlanView
  p = all_stored c

  abbrev chosen : ℕ → Bool
  chosen = is_inlined c.arrays

  pub choice_is : IsInliningChoice p chosen
  choice_is = finished p chosen h.choice

  pub needs_fit : (k : ℕ) → k < length c.ops → projection c k < 2 ^ 64
  needs_fit k l =
      let same : projection c k ≡ projection (inlining p chosen) k = ap (λ (q : PlanView). projection q k) (from_stored c) in
      let was = h.sound.rooms k l in
      let allowed = h.allowed in
      elim (need_of p chosen choice_is h.sound k (none_inlined c)) [
        | inl e ↦ omega (arith, same, was, e)
        | inr room ↦ let most = room.memory in omega (arith, same, most, allowed)
      ]

  numbered_same : is_numbered (with_needs c) chosen ≡ is_numbered p chosen
  numbered_same = λ i a. is_some (sym (maker_kept c (λ b. false) a) i) && (not (a == c.out) && not (chosen a))

  prefix_same : (a : ℕ) → prefix_where (with_needs c) chosen a ≡ prefix_where p chosen a
  prefix_same a =
      λ i. if numbered_same i a
      then made_prefix_of (sym (prefix_kept c (λ b. false) c.out) i) (count_by (numbered_same i) (range_with_len 0 a))
      else sym (prefix_kept c (λ b. false) a) i

  arrays_same : (renamed (with_needs c)).arrays ≡ (inlined_by p chosen).arrays
  arrays_same =
      let l = long c (λ b. false) in
      fill_by_all (λ a. record (array_at p.arrays a) { prefix = prefix_where p chosen a; inlined = chosen a }) (renamed (with_needs c)).arrays (length p.arrays) no_array
      (length-map-range_with_len (λ a. record (array_at c.arrays a) { prefix = prefix_where (with_needs c) chosen a }) 0 (length c.arrays) ∙ sym l)
      (λ a b.
      let within : a < length c.arrays = omega (arith, l, b) in
      get_or-map-range_with_len (λ x. record (array_at c.arrays x) { prefix = prefix_where (with_needs c) chosen x }) 0 (length c.arrays) a a no_array within (omega arith)
      ∙ ap (λ (name : List ℕ). record (array_at c.arrays a) { prefix = name }) (prefix_same a)
      ∙ ap (λ (x : ArrayInfo). record x { prefix = prefix_where p chosen a; inlined = chosen a }) (sym (array_flagged c (λ y. false) a within)))

  ops_same : (with_needs c).ops ≡ (inlined_by p chosen).ops
  ops_same =
      λ i. map (λ k. record (operation_at c.ops k) { projected = projection (from_stored c i) k }) (range_with_len 0 (length c.ops))

  pub plan_same : renamed (with_needs c) ≡ inlined_by p chosen
  plan_same = λ i. record c { arrays = arrays_same i; ops = ops_same i }

  pub inlined_is : IsInlinedOf p (renamed (with_needs c))
  inlined_is =
      let flags : is_inlined (renamed (with_needs c)).arrays ≡ chosen =
      (λ i a. is_inlined (arrays_same i) a) ∙ (λ i a. new_flag p chosen a (stays p chosen choice_is) i) in
      record {
        choice = subst (IsInliningChoice p) (sym flags) choice_is;
        plan = plan_same ∙ ap (inlined_by p) (sym flags);
      }
