-- The names of the arrays that stay stored where others are inlined.
use Rattle.cu_fuse.proofs.ClosedNames.{behind_most, behind_other, name_short, name_told, prefix_other, prefix_told, IsMadeName, IsOther}
use Rattle.cu_fuse.proofs.InlinedPlans.{array_is, array_past, arrays_long, new_flag, same_layouts, same_maker, stays}
use Rattle.cu_fuse.specs.Close.{others_before, HasMadeNames}
use Rattle.cu_fuse.specs.Inlining.{inlined_by, is_numbered, prefix_where, IsInliningChoice}
use Rattle.cu_grid.specs.Grid.{IsCoordinate, IsGrid}
use Rattle.cu_name.specs.Keys.{made_prefix_of}
use Rattle.cu_op.proofs.Members.{bool_cases}
use Rattle.cu_op.specs.Arrays.{array_at, is_inlined, maker_at, no_array}
use Rattle.cu_op.specs.Layout.{IsArray, IsLayout}
use Rattle.cu_op.specs.Names.{HasCells, HasOwnNames}
use Rattle.cu_op.specs.PlanView.{PlanView}
use Rattle.cu_op.specs.Sound.{ChunkKeysDiffer, IsCell, Sound}
use Rattle.cu_op.specs.declared.layout.ArrayInfo.{ArrayInfo}
use Rattle.cu_op.specs.declared.layout.Layout.{Layout}
use Rattle.cu_zarr.specs.Key.{coordinates}
use Rattle.std.proofs.Common.{◌≡◌, ◌≢◌, ◌⊎◌, inl, inr, ℕ, zero, suc, ◌+◌, ◌^◌, ◌<◌, ◌≤◌, ◌==◌, ◌&&◌, true, false, not, List, [], ◌∷◌, ◌++◌, codes, length, All, Some, None, Option, refl, ap, sym, ◌∙◌, subst, arith, Bool, if◌then◌else◌}
use Rattle.std.specs.List.{count_by, range_with_len}
use Rattle.std.specs.Option.{is_some}
use Rattle.std.proofs.lemmas.Bool.{and_parts, cases_lt, cases_order, not-true}
use Rattle.std.proofs.lemmas.Bool.Decides.{eqb_tells}
use Rattle.std.proofs.lemmas.List.{append_assoc, get_or_default, map-id}
use Rattle.std.proofs.lemmas.List.FromFn.{map-range_with_len_more}
use Rattle.std.proofs.lemmas.List.Sums.{sum_by_push}

abbrev one_if : Bool → ℕ
one_if b = if b then 1 else 0

range_more : (n : ℕ) → range_with_len 0 (n + 1) ≡ range_with_len 0 n ++ n ∷ []
range_more n =
    sym (map-id (range_with_len 0 (n + 1))) ∙ map-range_with_len_more (λ (x : ℕ). x) 0 n n (omega arith)
    ∙ ap (λ (l : List ℕ). l ++ n ∷ []) (map-id (range_with_len 0 n))

some_is : (o : Option ℕ) → is_some o ≡ true → o ≢ None
some_is None t e = cc
some_is (Some k) t e = cc

is_some_of : (o : Option ℕ) → o ≢ None → is_some o ≡ true
is_some_of None some = absurd (some refl)
is_some_of (Some k) some = refl

module _ (p : PlanView) (chosen : ℕ → Bool) where
  abbrev numbered : ℕ → Bool
  numbered = is_numbered p chosen

  abbrev count : ℕ → ℕ
  count a = count_by numbered (range_with_len 0 a)

  pub count_more : (a : ℕ) → count (a + 1) ≡ count a + one_if (numbered a)
  count_more a = ap (count_by numbered) (range_more a) ∙ sum_by_push (λ (b : ℕ). one_if (numbered b)) (range_with_len 0 a) a

  count_next : (a : ℕ) → count (suc a) ≡ count a + one_if (numbered a)
  count_next a = ap count (let z : suc a ≡ a + 1 = omega arith in z) ∙ count_more a

  count_grows : (b a : ℕ) → a ≤ b → count a ≤ count b
  count_grows zero a l = let z : a ≡ 0 = omega (arith, l) in (let e = ap count z in omega (arith, e))
  count_grows (suc b) a l =
      let next = count_next b in
      elim (cases_lt a (suc b)) [
        | inl less ↦ let rest = count_grows b a (omega (arith, less)) in omega (arith, rest, next)
        | inr far ↦ let z : a ≡ suc b = omega (arith, l, far) in (let e = ap count z in omega (arith, e))
      ]

  count_less : (a b : ℕ) → numbered a ≡ true → a < b → count a < count b
  count_less a b t l =
      let next = count_next a in
      let one : one_if (numbered a) ≡ 1 = rw t refl in
      let rest = count_grows b (suc a) (omega (arith, l)) in
      omega (arith, next, one, rest)

  -- an array with a number is one of the others
  pub number_of : (a : ℕ) → numbered a ≡ true → IsOther p p.ops a × (chosen a ≡ false)
  number_of a t =
      let (made, rest) = and_parts (is_some (maker_at p.arrays a)) (not (a == p.out) && not (chosen a)) t in
      let (other, stored) = and_parts (not (a == p.out)) (not (chosen a)) rest in (
        (
          some_is (maker_at p.arrays a) made,
          elim (eqb_tells a p.out) [ inl q ↦ absurd (let off = not-true (a == p.out) other in (let e : true ≡ false = sym q.0 ∙ off in cc)) | inr q ↦ q.1 ],
        ),
        not-true (chosen a) stored,
      )

  -- an other that stays stored has one
  pub numbered_is : (a : ℕ) → maker_at p.arrays a ≢ None → a ≢ p.out → chosen a ≡ false → numbered a ≡ true
  numbered_is a made other off =
      let some = is_some_of (maker_at p.arrays a) made in
      elim (eqb_tells a p.out) [ inl q ↦ absurd (other q.1) | inr q ↦ let far = q.0 in rw (some, far, off) refl ]

  count_before : (a : ℕ) → count a ≤ others_before p a
  count_before zero = omega arith
  count_before (suc a) =
      let rest = count_before a in
      let next = count_next a in
      elim (bool_cases (numbered a)) [
        | inl t ↦
            let one : one_if (numbered a) ≡ 1 = rw t refl in
            let grows = behind_other p p.ops (others_before p a) a (number_of a t).0 in
            omega (arith, rest, next, one, grows)
        | inr f ↦
            let none : one_if (numbered a) ≡ 0 = rw f refl in
            let (low, high) = behind_most p p.ops (others_before p a) a in
            omega (arith, rest, next, none, low)
      ]

  pub count_few : (a : ℕ) → count a ≤ a
  count_few zero = omega arith
  count_few (suc a) =
      let rest = count_few a in
      let next = count_next a in
      elim (bool_cases (numbered a)) [
        | inl t ↦ let one : one_if (numbered a) ≡ 1 = rw t refl in omega (arith, rest, next, one)
        | inr f ↦ let none : one_if (numbered a) ≡ 0 = rw f refl in omega (arith, rest, next, none)
      ]

  -- ---- the prefixes

  abbrev name : List ℕ
  name = (array_at p.arrays p.out).prefix

  pub prefix_numbered : (a : ℕ) → numbered a ≡ true → prefix_where p chosen a ≡ made_prefix_of name (count a)
  prefix_numbered a t = rw t refl

  pub prefix_other_kept : (a : ℕ) → numbered a ≡ false → prefix_where p chosen a ≡ (array_at p.arrays a).prefix
  prefix_other_kept a f = rw f refl

  out_not : (a : ℕ) → a ≡ p.out → numbered a ≡ false
  out_not a e = elim (bool_cases (numbered a)) [ inl t ↦ absurd ((number_of a t).0.1 e) | inr f ↦ f ]

  input_not : (a : ℕ) → maker_at p.arrays a ≡ None → numbered a ≡ false
  input_not a none = elim (bool_cases (numbered a)) [ inl t ↦ absurd ((number_of a t).0.0 none) | inr f ↦ f ]

  abbrev new : PlanView
  new = inlined_by p chosen

  pub prefix_is : (a : ℕ) → a < length p.arrays → (array_at new.arrays a).prefix ≡ prefix_where p chosen a
  prefix_is a l = ap (λ (x : ArrayInfo). x.prefix) (array_is p chosen a l)

  -- an input is as it was
  pub input_kept : (a : ℕ) → is_inlined p.arrays a ≡ false → chosen a ≡ false → maker_at p.arrays a ≡ None → array_at new.arrays a ≡ array_at p.arrays a
  input_kept a stored off none =
      elim (cases_lt a (length p.arrays)) [
        | inr far ↦ array_past p chosen a far
        | inl l ↦
            let name_kept = prefix_other_kept a (input_not a none) in
            array_is p chosen a l ∙ (λ i. record (array_at p.arrays a) { prefix = name_kept i; inlined = (off ∙ sym stored) i })
      ]

  module _ (s : Sound p) where
    pub output_name : (array_at new.arrays new.out).prefix ≡ (array_at p.arrays p.out).prefix
    output_name = prefix_is p.out s.out ∙ prefix_other_kept p.out (out_not p.out refl)

    module _ (c : IsInliningChoice p chosen) where
      stored_is : (a : ℕ) → is_inlined new.arrays a ≡ false → chosen a ≡ false
      stored_is a f = sym (new_flag p chosen a (stays p chosen c)) ∙ f

      made_is : (a : ℕ) → maker_at new.arrays a ≢ None → maker_at p.arrays a ≢ None
      made_is a made none = made (same_maker p chosen a ∙ none)

      within_is : (a : ℕ) → a < length new.arrays → a < length p.arrays
      within_is a l = let e = arrays_long p chosen in omega (arith, e, l)

      -- the name of a stored made array
      pub made_name : (a : ℕ) → a < length new.arrays → maker_at new.arrays a ≢ None → is_inlined new.arrays a ≡ false
          → ((a ≡ p.out) × ((array_at new.arrays a).prefix ≡ name)) ⊎ ((numbered a ≡ true) × ((array_at new.arrays a).prefix ≡ made_prefix_of name (count a)))
      made_name a l made stored =
          let w = within_is a l in
          elim (eqb_tells a p.out) [
            | inl q ↦ inl (q.1, prefix_is a w ∙ prefix_other_kept a (out_not a q.1) ∙ ap (λ (b : ℕ). (array_at p.arrays b).prefix) q.1)
            | inr q ↦
                let t = numbered_is a (made_is a made) q.1 (stored_is a stored) in
                inr (t, prefix_is a w ∙ prefix_numbered a t)
          ]

      count_small : (a : ℕ) → a < length new.arrays → count a < 2 ^ 64
      count_small a l =
          let w = within_is a l in
          let most = count_few a in
          let all = s.array_count in
          omega (arith, w, most, all)

      pub made_name_of : (a : ℕ) → a < length new.arrays → maker_at new.arrays a ≢ None → is_inlined new.arrays a ≡ false → IsMadeName name (array_at new.arrays a).prefix
      made_name_of a l made stored =
          elim (made_name a l made stored) [
            | inl own ↦ inl own.1
            | inr number ↦ inr (count a, count_small a l, number.1)
          ]

      -- different ones have different names
      less_differ : (a b : ℕ) → numbered a ≡ true → a < b → b < length new.arrays → made_prefix_of name (count a) ≡ made_prefix_of name (count b) → ⊥
      less_differ a b t l h e =
          let less = count_less a b t l in
          let small_a = count_small a (omega (arith, l, h)) in
          let same = prefix_told name (count a) (count b) small_a (count_small b h) e in
          omega (arith, less, same)

      pub names_told : (a b : ℕ) → HasCells new.arrays a → HasCells new.arrays b → (array_at new.arrays a).prefix ≡ (array_at new.arrays b).prefix → a ≡ b
      names_told a b x y e =
          elim (made_name a x.within x.made x.stored) [
            | inl own ↦ elim (made_name b y.within y.made y.stored) [
              | inl other ↦ own.0 ∙ sym other.0
              | inr other ↦ absurd (prefix_other name (count b) (sym own.1 ∙ e ∙ other.1))
            ]
            | inr own ↦ elim (made_name b y.within y.made y.stored) [
              | inl other ↦ absurd (prefix_other name (count a) (sym other.1 ∙ sym e ∙ own.1))
              | inr other ↦
                  let same = sym own.1 ∙ e ∙ other.1 in
                  elim (cases_order a b) [
                    | inl is ↦ is
                    | inr differ ↦ elim differ [
                      | inl less ↦ absurd (less_differ a b own.0 less y.within same)
                      | inr more ↦ absurd (less_differ b a other.0 more x.within (sym same))
                    ]
                  ]
            ]
          ]

      layout_is : (a : ℕ) → (array_at new.arrays a).layout ≡ (array_at p.arrays a).layout
      layout_is a = (same_layouts p chosen).at a

      had_cells : ((a : ℕ) → a < length p.arrays → is_inlined p.arrays a ≡ false) → (a : ℕ) → HasCells new.arrays a → HasCells p.arrays a
      had_cells stored a x = record { within = within_is a x.within; made = made_is a x.made; stored = stored a (within_is a x.within) }

      pub own_names : ((a : ℕ) → a < length p.arrays → is_inlined p.arrays a ≡ false) → HasOwnNames p.arrays → HasOwnNames new.arrays
      own_names stored own = record {
        encodings = λ a x. ap (λ (l : Layout). l.encoding) (layout_is a) ∙ own.encodings a (had_cells stored a x);
        prefixes = λ a b x y e. names_told a b x y e;
      }

      module _ (names : HasMadeNames p) (stored : (a : ℕ) → a < length p.arrays → is_inlined p.arrays a ≡ false) where
        short_is : (a : ℕ) → a < length p.arrays → length (array_at new.arrays a).prefix ≤ 45
        short_is a l =
            let is = ap length (prefix_is a l) in
            elim (bool_cases (numbered a)) [
              | inl t ↦
                  let own = ap length (prefix_numbered a t) in
                  let short = name_short p p.ops s names (count a) a l (number_of a t).0 (count_before a) in
                  omega (arith, is, own, short)
              | inr f ↦
                  let own = ap length (prefix_other_kept a f) in
                  let short = (s.arrays a no_array l).short in
                  omega (arith, is, own, short)
            ]

        is_array : (a : ℕ) → a < length p.arrays → IsArray (array_at new.arrays a)
        is_array a l =
            let whole = s.arrays a no_array l in
            record {
              short = short_is a l;
              grid = subst (λ (x : Layout). IsGrid x.grid) (sym (layout_is a)) whole.grid;
              fill = subst IsLayout (sym (layout_is a)) whole.fill;
            }

        pub arrays_are : All IsArray new.arrays
        arrays_are n d h = subst IsArray (get_or_default new.arrays n no_array d h) (is_array n (within_is n h))

        was_cell : (a : ℕ) (coord : List ℕ) → IsCell new.arrays a coord → IsCell p.arrays a coord
        was_cell a coord x = record {
          within = within_is a x.within;
          made = made_is a x.made;
          stored = stored a (within_is a x.within);
          coordinate = subst (λ (l : Layout). IsCoordinate l.grid coord) (layout_is a) x.coordinate;
        }

        cells_of : (a : ℕ) (coord : List ℕ) → IsCell new.arrays a coord → HasCells new.arrays a
        cells_of a coord x = record { within = x.within; made = x.made; stored = x.stored }

        pub keys_are : ChunkKeysDiffer new.arrays
        keys_are a b d f x y e =
            let u = (array_at new.arrays a).prefix in
            let v = (array_at new.arrays b).prefix in
            let r : List ℕ = coordinates (array_at new.arrays a).layout.encoding d in
            let t : List ℕ = coordinates (array_at new.arrays b).layout.encoding f in
            let whole : u ++ 47 ∷ r ≡ v ++ 47 ∷ t = sym (append_assoc u (codes "/") r) ∙ e ∙ append_assoc v (codes "/") t in
            let (same_name, rest) = name_told name u v r t names.named (made_name_of a x.within x.made x.stored) (made_name_of b y.within y.made y.stored) whole in
            let same : a ≡ b = names_told a b (cells_of a d x) (cells_of b f y) same_name in
            let was : coordinates (array_at p.arrays a).layout.encoding d ≡ coordinates (array_at p.arrays b).layout.encoding f =
            ap (λ (l : Layout). coordinates l.encoding d) (sym (layout_is a)) ∙ rest ∙ ap (λ (l : Layout). coordinates l.encoding f) (layout_is b) in
            let keys = s.keys a b d f (was_cell a d x) (was_cell b f y)
            (λ i. ((array_at p.arrays (same i)).prefix ++ codes "/") ++ was i) in
            (same, keys.1)
