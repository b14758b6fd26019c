-- The regions from which partial results are made.
use Rattle.std.proofs.Common.{◌≡◌, inl, inr, ℕ, zero, suc, pred, ◌<◌, ◌≤◌, ◌+◌, ◌*◌, List, [], ◌∷◌, length, map, min, max, Contains, None, Some, refl, ap, sym, ◌∙◌, subst, arith}
use Rattle.std.specs.Int.{div_ceil}
use Rattle.std.proofs.Math.Nat.{mul-le-mul_right}
use Rattle.cu_shape.specs.Index.{product, IsInside, place_of, index_at}
use Rattle.cu_shape.proofs.Places.{index-place}
use Rattle.cu_shape.proofs.Rounded.{before_end}
use Rattle.cu_grid.specs.Counts.{IsRegion, IsWithin}
use Rattle.cu_reduce.specs.Groups.{Groups, groups_from, groups_of, group_counts, group_lo, group_hi, group_indices, group_of}
use Rattle.cu_op.specs.declared.layout.ArrayInfo.{ArrayInfo}
use Rattle.cu_op.specs.Arrays.{grid_at}
use Rattle.cu_op.specs.Partial.{partial_grid, IsSqueezedAlong, IsSqueezed, partial_indices, partial_lo, partial_hi}
use Rattle.cu_op.proofs.Filled.{IsFilled, AreAtMost, filled_first, filled_last, filled_order, from_first, up_to_last, within_inside, filled_one, within_one, region_within}

-- ---- an index of a result that lacks axes, with 0 on these

abbrev pub widened : (ns cs ms ds is : List ℕ) → IsSqueezedAlong ns cs ms ds → List ℕ
widened [] [] [] [] is q = []
widened (n ∷ ns) (c ∷ cs) [] [] is q = 0 ∷ widened ns cs [] [] is q.2
widened (n ∷ ns) (c ∷ cs) (m ∷ ms) (d ∷ ds) (i ∷ is) (inl q) = i ∷ widened ns cs ms ds is q.2
widened (n ∷ ns) (c ∷ cs) (m ∷ ms) (d ∷ ds) [] (inl q) = 0 ∷ widened ns cs ms ds [] q.2
widened (n ∷ ns) (c ∷ cs) (m ∷ ms) (d ∷ ds) is (inr q) = 0 ∷ widened ns cs (m ∷ ms) (d ∷ ds) is q.2
widened ns cs ms ds is q = absurd q

pub squeezed_product : (ns cs ms ds : List ℕ) → IsSqueezedAlong ns cs ms ds → product ns ≡ product ms
squeezed_product [] [] [] [] q = refl
squeezed_product (n ∷ ns) (c ∷ cs) [] [] q = let e = squeezed_product ns cs [] [] q.2 in let one = q.0 in rw (one, e) (omega arith)
squeezed_product (n ∷ ns) (c ∷ cs) (m ∷ ms) (d ∷ ds) (inl q) = let e = squeezed_product ns cs ms ds q.2 in let same = q.0 in rw (same, e) refl
squeezed_product (n ∷ ns) (c ∷ cs) (m ∷ ms) (d ∷ ds) (inr q) = let e = squeezed_product ns cs (m ∷ ms) (d ∷ ds) q.2 in let one = q.0 in rw (one, e) (omega arith)
squeezed_product ns cs ms ds q = absurd q

-- it lies inside, at the same row-major place
pub record IsWide (ns ms is ws : List ℕ) : Type 0 where
  pub inside : IsInside ns ws
  pub place : place_of ns ws ≡ place_of ms is

pub widened_ok : (ns cs ms ds is : List ℕ) (q : IsSqueezedAlong ns cs ms ds) → IsInside ms is → IsWide ns ms is (widened ns cs ms ds is q)
widened_ok [] [] [] [] [] q h = record { inside = tt; place = refl }
widened_ok (n ∷ ns) (c ∷ cs) [] [] is q h =
    let rest = widened_ok ns cs [] [] is q.2 h in
    record { inside = ((let one = q.0 in omega arith), rest.inside); place = let e = rest.place in omega (arith, e) }
widened_ok (n ∷ ns) (c ∷ cs) (m ∷ ms) (d ∷ ds) (i ∷ is) (inl q) h =
    let rest = widened_ok ns cs ms ds is q.2 h.1 in
    let p = squeezed_product ns cs ms ds q.2 in
    record { inside = ((let same = q.0 in let b = h.0 in omega arith), rest.inside); place = rw (p, rest.place) refl }
widened_ok (n ∷ ns) (c ∷ cs) (m ∷ ms) (d ∷ ds) is (inr q) h =
    let rest = widened_ok ns cs (m ∷ ms) (d ∷ ds) is q.2 h in
    record { inside = ((let one = q.0 in omega arith), rest.inside); place = let e = rest.place in omega (arith, e) }
widened_ok ns cs ms ds is q h = absurd assumption

pub widened_order : (ns cs ms ds is js : List ℕ) (q : IsSqueezedAlong ns cs ms ds) → AreAtMost is js → AreAtMost (widened ns cs ms ds is q) (widened ns cs ms ds js q)
widened_order [] [] [] [] is js q h = tt
widened_order (n ∷ ns) (c ∷ cs) [] [] is js q h = (omega arith, widened_order ns cs [] [] is js q.2 h)
widened_order (n ∷ ns) (c ∷ cs) (m ∷ ms) (d ∷ ds) (i ∷ is) (j ∷ js) (inl q) h = (h.0, widened_order ns cs ms ds is js q.2 h.1)
widened_order (n ∷ ns) (c ∷ cs) (m ∷ ms) (d ∷ ds) [] [] (inl q) h = (omega arith, widened_order ns cs ms ds [] [] q.2 h)
widened_order (n ∷ ns) (c ∷ cs) (m ∷ ms) (d ∷ ds) is js (inr q) h = (omega arith, widened_order ns cs (m ∷ ms) (d ∷ ds) is js q.2 h)
widened_order ns cs ms ds is js q h = absurd assumption

-- ---- the region of groups

-- a group begins inside, or at the end of an axis without elements
pub begins_on : (n s u : ℕ) → u < max 1 (div_ceil n s) → u * s ≤ n
begins_on n zero u h = omega arith
begins_on n (suc s) zero h = omega arith
begins_on n (suc s) (suc u) h = let b : suc u * suc s < n = before_end n (suc s) (suc u) (omega arith) (omega arith) in omega arith

pub times_order : (u v s : ℕ) → u ≤ v → u * s ≤ suc v * s
times_order u v s h = mul-le-mul_right s (let e : u ≤ suc v = omega arith in e)

pub groups_region : (gs : Groups) (ns us vs : List ℕ) → length gs ≡ length ns → IsInside (group_counts gs ns) us → IsInside (group_counts gs ns) vs → AreAtMost us vs
    → IsRegion ns (group_lo gs us) (group_hi gs ns (map suc vs))
groups_region [] [] [] [] e p q h = tt
groups_region (None ∷ gs) (n ∷ ns) (u ∷ us) (v ∷ vs) e p q h = ((let a = h.0 in omega arith), (let a = q.0 in omega arith), groups_region gs ns us vs (omega arith) p.1 q.1 h.1)
groups_region (Some s ∷ gs) (n ∷ ns) (u ∷ us) (v ∷ vs) e p q h =
    let a = begins_on n s u p.0 in
    let b = times_order u v s h.0 in
    (omega (arith, a, b), omega arith, groups_region gs ns us vs (omega arith) p.1 q.1 h.1)
groups_region gs ns us vs e p q h = absurd (first_of (assumption, omega arith))

-- and that of a group between them
low_on : (u x s i : ℕ) → u ≤ x → x * s ≤ i → u * s ≤ i
low_on u x s i h l = let b : u * s ≤ x * s = mul-le-mul_right s h in omega arith

high_on : (n x v s i : ℕ) → x ≤ v → i < min n (suc x * s) → i < min n (suc v * s)
high_on n x v s i h l = let b : suc x * s ≤ suc v * s = mul-le-mul_right s (let e : suc x ≤ suc v = omega arith in e) in omega (arith, b, l)

pub groups_within : (gs : Groups) (ns us xs vs is : List ℕ) → AreAtMost us xs → AreAtMost xs vs → IsWithin (group_lo gs xs) (group_hi gs ns (map suc xs)) is
    → IsWithin (group_lo gs us) (group_hi gs ns (map suc vs)) is
groups_within [] ns us xs vs is a b w = w
groups_within (g ∷ gs) [] [] [] [] is a b w = w
groups_within (None ∷ gs) [] (u ∷ us) (x ∷ xs) (v ∷ vs) is a b w = absurd (none is w)
  where
    none : (is : List ℕ) → IsWithin (x ∷ group_lo gs xs) [] is → ⊥
    none is w = w
groups_within (Some s ∷ gs) [] (u ∷ us) (x ∷ xs) (v ∷ vs) is a b w = absurd (none is w)
  where
    none : (is : List ℕ) → IsWithin (x * s ∷ group_lo gs xs) [] is → ⊥
    none is w = w
groups_within (g ∷ gs) (n ∷ ns) [] [] [] is a b w = w
groups_within (None ∷ gs) (n ∷ ns) (u ∷ us) (x ∷ xs) (v ∷ vs) (i ∷ is) a b w =
    ((let p = a.0 in let q = w.0 in omega arith), (let p = b.0 in let q = w.1 in omega arith), groups_within gs ns us xs vs is a.1 b.1 w.2)
groups_within (Some s ∷ gs) (n ∷ ns) (u ∷ us) (x ∷ xs) (v ∷ vs) (i ∷ is) a b w =
    (low_on u x s i a.0 w.0, high_on n x v s i b.0 w.1, groups_within gs ns us xs vs is a.1 b.1 w.2)
groups_within gs ns us xs vs is a b w = absurd assumption

-- a list of groups has one for each axis
pub length-groups : (f : ℕ → _) (sizes : List ℕ) → length (groups_of f sizes) ≡ length sizes
length-groups f sizes = from f 0 sizes
  where
    from : (f : ℕ → _) (first : ℕ) (sizes : List ℕ) → length (groups_from f first sizes) ≡ length sizes
    from f first [] = refl
    from f first (s ∷ ss) = ap suc (from f (first + 1) ss)

-- ---- in a plan

module _ (arrays : List ArrayInfo) (gs : Groups) (source out : ℕ) (ranks : length gs ≡ length (grid_at arrays source).shape)
    (squeezed : IsSqueezed (partial_grid gs (grid_at arrays source)) (grid_at arrays out)) where
  abbrev wide : List ℕ → List ℕ
  wide is = widened (group_counts gs (grid_at arrays source).shape) (partial_grid gs (grid_at arrays source)).chunk (grid_at arrays out).shape (grid_at arrays out).chunk is squeezed

  abbrev ok : (is : List ℕ) → IsInside (grid_at arrays out).shape is → IsWide (group_counts gs (grid_at arrays source).shape) (grid_at arrays out).shape is (wide is)
  ok is h = widened_ok (group_counts gs (grid_at arrays source).shape) (partial_grid gs (grid_at arrays source)).chunk (grid_at arrays out).shape (grid_at arrays out).chunk is squeezed h

  -- the group that an index of the result names
  pub named : (is : List ℕ) → IsInside (grid_at arrays out).shape is → group_of gs (grid_at arrays source).shape (grid_at arrays out).shape is ≡ wide is
  named is h =
      let w = ok is h in
      let counts = group_counts gs (grid_at arrays source).shape in
      ap (index_at counts) (sym w.place) ∙ index-place counts (wide is) w.inside

  pub partial_region : (lo hi : List ℕ) → IsFilled (grid_at arrays out).shape lo hi → IsRegion (grid_at arrays source).shape (partial_lo arrays gs source out lo) (partial_hi arrays gs source out hi)
  partial_region lo hi f =
      let n = (grid_at arrays source).shape in
      let first = filled_first (grid_at arrays out).shape lo hi f in
      let last = filled_last (grid_at arrays out).shape lo hi f in
      let order = widened_order (group_counts gs n) (partial_grid gs (grid_at arrays source)).chunk (grid_at arrays out).shape (grid_at arrays out).chunk lo (map pred hi) squeezed (filled_order (grid_at arrays out).shape lo hi f) in
      subst (λ (us : List ℕ). IsRegion n (group_lo gs us) (partial_hi arrays gs source out hi)) (sym (named lo first))
      (subst (λ (vs : List ℕ). IsRegion n (group_lo gs (wide lo)) (group_hi gs n (map suc vs))) (sym (named (map pred hi) last))
      (groups_region gs n (wide lo) (wide (map pred hi)) ranks (ok lo first).inside (ok (map pred hi) last).inside order))

  -- what an index of the region is made of
  pub partial_reads : (lo hi idx i : List ℕ) → IsFilled (grid_at arrays out).shape lo hi → IsWithin lo hi idx → IsInside (grid_at arrays out).shape idx → Contains (partial_indices arrays gs source out idx) i
      → IsWithin (partial_lo arrays gs source out lo) (partial_hi arrays gs source out hi) i
  partial_reads lo hi idx i f w inside c =
      let n = (grid_at arrays source).shape in
      let W : List ℕ → List ℕ → Type 0 = λ is js. AreAtMost (wide is) (wide js) in
      let order : (is js : List ℕ) → AreAtMost is js → AreAtMost (wide is) (wide js) =
      λ is js h. widened_order (group_counts gs n) (partial_grid gs (grid_at arrays source)).chunk (grid_at arrays out).shape (grid_at arrays out).chunk is js squeezed h in
      let first = filled_first (grid_at arrays out).shape lo hi f in
      let last = filled_last (grid_at arrays out).shape lo hi f in
      let x : List ℕ = wide idx in
      let at : (ok idx inside).inside ≡ (ok idx inside).inside = refl in
      let own : Contains (group_indices gs n (wide idx)) i = subst (λ (xs : List ℕ). Contains (group_indices gs n xs) i) (named idx inside) c in
      let here : IsWithin (group_lo gs (wide idx)) (group_hi gs n (map suc (wide idx))) i =
      region_within n (group_lo gs (wide idx)) (group_hi gs n (map suc (wide idx))) i (groups_region gs n (wide idx) (wide idx) ranks (ok idx inside).inside (ok idx inside).inside (same (wide idx))) own in
      subst (λ (us : List ℕ). IsWithin (group_lo gs us) (partial_hi arrays gs source out hi) i) (sym (named lo first))
      (subst (λ (vs : List ℕ). IsWithin (group_lo gs (wide lo)) (group_hi gs n (map suc vs)) i) (sym (named (map pred hi) last))
      (groups_within gs n (wide lo) (wide idx) (wide (map pred hi)) i (order lo idx (from_first lo hi idx w)) (order idx (map pred hi) (up_to_last lo hi idx w)) here))
    where
      same : (xs : List ℕ) → AreAtMost xs xs
      same [] = tt
      same (x ∷ xs) = (omega arith, same xs)

  -- it lies inside the source
  pub partial_inside : (idx i : List ℕ) → IsInside (grid_at arrays out).shape idx → Contains (partial_indices arrays gs source out idx) i → IsInside (grid_at arrays source).shape i
  partial_inside idx i inside c =
      let f = filled_one (grid_at arrays out).shape idx inside in
      within_inside (grid_at arrays source).shape _ _ i (partial_region idx (map suc idx) f) (partial_reads idx (map suc idx) idx i f (within_one idx) inside c)
