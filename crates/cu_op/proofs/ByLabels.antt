-- What a task of a fold by labels reads of its source and of its labels.
use Rattle.std.proofs.Common.{◌≡◌, ◌≢◌, inl, inr, ℕ, ℤ, zero, suc, pred, ◌<◌, ◌≤◌, ◌+◌, ◌-◌, ◌*◌, List, [], ◌∷◌, ◌++◌, length, map, take, set, min, max, Contains, Option, Some, get_or, refl, ap, sym, ◌∙◌, subst, arith}
use Rattle.std.proofs.Math.Nat.{mul-le-mul_right}
use Rattle.std.proofs.Math.Seq.{take-append_seam}
use Rattle.std.proofs.lemmas.List.{length-take-le, length-map, length-set, length-append, get_or-map, get_or-append_right}
use Rattle.cu_shape.specs.Index.{IsInside, quotients, products}
use Rattle.cu_shape.proofs.Axes.{length-axis_by_axis, get_or-axis_by_axis}
use Rattle.cu_shape.proofs.Places.{inside-length}
use Rattle.cu_grid.specs.Counts.{IsRegion, IsWithin, chunk_lo, chunk_hi}
use Rattle.cu_grid.specs.Grid.{RegularGrid, IsGrid, IsCoordinate}
use Rattle.cu_grid.proofs.Parting.{only_chunk}
use Rattle.cu_grid.proofs.Regions.{inside-at, coordinate-length}
use Rattle.cu_num.proofs.Wrapped.{InRange-wrapped}
use Rattle.cu_num.specs.Dtype.{InRange}
use Rattle.cu_num.specs.Wrap.{wrapped}
use Rattle.cu_num.specs.declared.folds.FoldKind.{FoldKind}
use Rattle.cu_reduce.specs.Folds.{all_some}
use Rattle.cu_reduce.specs.Labels.{Labelled, group_fold, grouped_to, picked}
use Rattle.cu_op.specs.declared.layout.ArrayInfo.{ArrayInfo}
use Rattle.cu_op.specs.declared.walks.Walk.{Walk}
use Rattle.cu_op.specs.Along.{size_on, chunk_on}
use Rattle.cu_op.specs.Arrays.{grid_at, type_at}
use Rattle.cu_op.specs.Chunks.{walk}
use Rattle.cu_op.specs.Grouping.{source_index, label_part, label_chunks, part_places, first_place_of, end_place_of, grouped_walk, labels_walk, end_part, IsPartRegion}
use Rattle.cu_op.specs.Kind.GroupFold.{GroupFoldFits}
use Rattle.cu_op.specs.Walks.{IsWalkOver}
use Rattle.cu_op.proofs.Filled.{IsFilled, filled_at, filled_take, filled_region, filled_lengths, within_take, within_at, past, other_default, below_range}
use Rattle.cu_op.proofs.Grouped.{begins_on}
use Rattle.cu_op.proofs.MapRegions.{within_lengths}
use Rattle.cu_op.proofs.MatrixBoxes.{take_products}
use Rattle.cu_op.proofs.PairRanges.{some_map}
use Rattle.cu_op.proofs.Results.{only_written}
use Rattle.cu_op.proofs.Spans.{IsSpanOn, IsSpan, span_take, span_at, span_chunk}
use Rattle.cu_op.proofs.WalkCells.{walk_meets, AreApart}

-- ---- regions with other bounds on one axis

region_set : (axis : ℕ) (ns ls hs : List ℕ) (m x y : ℕ) → IsFilled (set ns axis m) ls hs → x ≤ y → y ≤ get_or ns axis 0 → IsRegion ns (set ls axis x) (set hs axis y)
region_set zero [] [] [] m x y f p q = tt
region_set (suc a) [] [] [] m x y f p q = tt
region_set zero (n ∷ ns) (l ∷ ls) (h ∷ hs) m x y f p q = (p, q, filled_region ns ls hs f.2)
region_set (suc a) (n ∷ ns) (l ∷ ls) (h ∷ hs) m x y f p q = ((let b = f.0 in omega arith), f.1, region_set a ns ls hs m x y f.2 p q)
region_set axis ns ls hs m x y f p q = absurd f

within_set : (axis : ℕ) (ls hs is : List ℕ) (x y k : ℕ) → IsWithin ls hs is → (x ≤ k) × (k < y) → IsWithin (set ls axis x) (set hs axis y) (set is axis k)
within_set zero [] [] [] x y k w p = tt
within_set (suc a) [] [] [] x y k w p = tt
within_set zero (l ∷ ls) (h ∷ hs) (i ∷ is) x y k w p = (p.0, p.1, w.2)
within_set (suc a) (l ∷ ls) (h ∷ hs) (i ∷ is) x y k w p = (w.0, w.1, within_set a ls hs is x y k w.2 p)
within_set axis ls hs is x y k w p = absurd w

span_set : (axis : ℕ) (ns cs ls hs : List ℕ) (m x y : ℕ) → IsSpan (set ns axis m) (set cs axis m) ls hs → IsSpanOn (get_or ns axis 0) (get_or cs axis 0) x y
    → IsSpan ns cs (set ls axis x) (set hs axis y)
span_set zero [] [] [] [] m x y s p = tt
span_set (suc a) [] [] [] [] m x y s p = tt
span_set zero (n ∷ ns) (c ∷ cs) (l ∷ ls) (h ∷ hs) m x y s p = (p, s.1)
span_set (suc a) (n ∷ ns) (c ∷ cs) (l ∷ ls) (h ∷ hs) m x y s p = (s.0, span_set a ns cs ls hs m x y s.1 p)
span_set axis ns cs ls hs m x y s p = absurd s

products_set : (axis : ℕ) (is cs : List ℕ) (m k : ℕ) → length is ≡ length cs → set (products is (set cs axis m)) axis (k * get_or cs axis 0) ≡ products (set is axis k) cs
products_set zero [] [] m k e = refl
products_set (suc a) [] [] m k e = refl
products_set zero (i ∷ is) (c ∷ cs) m k e = refl
products_set (suc a) (i ∷ is) (c ∷ cs) m k e = ap (λ (xs : List ℕ). i * c ∷ xs) (products_set a is cs m k (omega arith))
products_set axis is cs m k e = absurd (omega arith)

-- ---- regions of one chunk each

-- two that differ have no chunk in common
spans_apart : (arrays : List ArrayInfo) (v w : Walk) → IsGrid (grid_at arrays v.array) → IsGrid (grid_at arrays w.array) → IsWalkOver arrays v → IsWalkOver arrays w
    → IsSpan (grid_at arrays v.array).shape (grid_at arrays v.array).chunk v.region.lo v.region.hi → IsSpan (grid_at arrays w.array).shape (grid_at arrays w.array).chunk w.region.lo w.region.hi
    → v ≢ w → AreApart arrays v w
spans_apart arrays v w okv okw over_v over_w sv sw other d here there =
    let (dv, (cv, (iv, lv, ov))) = walk_meets arrays v d okv over_v here in
    let (dw, (cw, (iw, lw, ow))) = walk_meets arrays w d okw over_w there in
    let g = grid_at arrays v.array in
    let h = grid_at arrays w.array in
    let p = span_chunk g.shape g.chunk v.region.lo v.region.hi iv okv.positive sv lv in
    let q = span_chunk h.shape h.chunk w.region.lo w.region.hi iw okw.positive sw lw in
    let ev : d.coord ≡ quotients iv g.chunk = only_chunk g d.coord iv okv cv ov in
    let ew : d.coord ≡ quotients iw h.chunk = only_chunk h d.coord iw okw cw ow in
    let W : ℕ → Walk = λ x. walk x (chunk_lo (grid_at arrays x).chunk d.coord) (chunk_hi (grid_at arrays x).shape (grid_at arrays x).chunk d.coord) in
    let is_v : v ≡ W v.array = as_walk v.array v.region.lo v.region.hi _ _ (p.0 ∙ ap (chunk_lo g.chunk) (sym ev)) (p.1 ∙ ap (chunk_hi g.shape g.chunk) (sym ev)) in
    let is_w : w ≡ W w.array = as_walk w.array w.region.lo w.region.hi _ _ (q.0 ∙ ap (chunk_lo h.chunk) (sym ew)) (q.1 ∙ ap (chunk_hi h.shape h.chunk) (sym ew)) in
    other (is_v ∙ ap W (sym dv ∙ dw) ∙ sym is_w)
  where
    as_walk : (x : ℕ) (ls hs ms ks : List ℕ) → ls ≡ ms → hs ≡ ks → walk x ls hs ≡ walk x ms ks
    as_walk x ls hs ms ks e g = λ i. record { array = x; region = record { lo = e i; hi = g i } }

-- ---- parts of an axis

first_order : (n c a b : ℕ) → a ≤ b → min n (a * c) ≤ min n (b * c)
first_order n c a b h = let l : a * c ≤ b * c = mul-le-mul_right c h in omega (arith, l)

-- a number that is made of a group
pub grouped_range : (kind : FoldKind) (arrays : List ArrayInfo) (out a q : ℕ) (xs : List (Option Labelled)) (x : ℤ) → Contains (out ∷ []) a
    → grouped_to kind (type_at arrays out) q xs ≡ Some x → InRange (type_at arrays a) x
grouped_range kind arrays out a q xs x among v =
    let t = type_at arrays out in
    let m = some_map (λ ys. wrapped t (group_fold kind t (picked q ys))) (all_some xs) x v in
    subst (λ (b : ℕ). InRange (type_at arrays b) x) (only_written out a among) (subst (InRange t) m.2 (InRange-wrapped t (group_fold kind t (picked q m.0))))

module _ (arrays : List ArrayInfo) (kind : FoldKind) (axis groups source labels out : ℕ) (f : GroupFoldFits arrays kind axis groups source labels out) where
  abbrev g : RegularGrid
  g = grid_at arrays source

  abbrev o : List ℕ
  o = (grid_at arrays out).shape

  abbrev r : ℕ
  r = length g.shape

  abbrev n : ℕ
  n = size_on g axis

  abbrev c : ℕ
  c = chunk_on g axis

  abbrev count : ℕ
  count = max 1 (label_chunks g axis)

  length-own : length (set g.shape axis groups) ≡ r
  length-own = length-set g.shape axis groups

  pub length-out : length o ≡ r + length f.parts
  length-out = ap length f.shape ∙ length-append (set g.shape axis groups) f.parts ∙ ap (λ m. m + length f.parts) length-own

  pub axes_out : r ≤ length o
  axes_out = let e = length-out in omega (arith, e)

  first_axes : take r o ≡ set g.shape axis groups
  first_axes = ap (take r) f.shape ∙ ap (λ m. take m (set g.shape axis groups ++ f.parts)) (sym length-own) ∙ take-append_seam (set g.shape axis groups) f.parts

  behind : (xs ys : List ℕ) → length xs ≡ r → get_or (xs ++ ys) r 0 ≡ get_or ys 0 0
  behind xs ys e = get_or-append_right xs ys r r 0 e (omega arith) ∙ (let z : r - r ≡ 0 = omega arith in ap (λ k. get_or ys k 0) z)

  part_size : get_or o r 0 ≡ get_or f.parts 0 0
  part_size = ap (λ (ns : List ℕ). get_or ns r 0) f.shape ∙ behind (set g.shape axis groups) f.parts length-own

  -- ---- the parts of a region

  record PartBounds (lo hi : List ℕ) : Type 0 where
    pub some : label_part g lo < end_part g hi
    pub most : end_part g hi ≤ count

  -- there is no axis that numbers parts
  none_at : f.parts ≡ [] → (xs : List ℕ) (d : ℕ) → length xs ≡ length o → get_or xs r d ≡ d
  none_at none xs d e = let m = length-out in let z : length f.parts ≡ 0 = ap length none in past xs r d (omega (arith, m, z, e))

  one_at : (m : ℕ) → f.parts ≡ m ∷ [] → (get_or o r 0 ≡ m) × (r < length o)
  one_at m is = let e = length-out in let z : length f.parts ≡ 1 = ap length is in (part_size ∙ ap (λ (ns : List ℕ). get_or ns 0 0) is, omega (arith, e, z))

  part_bounds : (lo hi : List ℕ) → IsFilled o lo hi → PartBounds lo hi
  part_bounds lo hi filled =
      let m = filled_lengths o lo hi filled in
      elim f.numbered [
        | inl whole ↦
            let first : label_part g lo ≡ 0 = none_at whole.1 lo 0 m.0 in
            let last : end_part g hi ≡ 1 = none_at whole.1 hi 1 m.1 in
            record { some = omega (arith, first, last); most = omega (arith, last) }
        | inr many ↦
            let size = one_at count many.0 in
            let at = filled_at o lo hi r filled size.1 in
            let last : end_part g hi ≡ get_or hi r 0 = other_default hi r 1 0 (let e = m.1 in let l = size.1 in omega (arith, e, l)) in
            record { some = let l = at.0 in omega (arith, last, l); most = let l = at.1 in let e = size.0 in omega (arith, last, l, e) }
      ]

  pub part_within : (lo hi idx : List ℕ) → IsFilled o lo hi → IsWithin lo hi idx → (label_part g lo ≤ label_part g idx) × (label_part g idx < end_part g hi)
  part_within lo hi idx filled w =
      let m = filled_lengths o lo hi filled in
      let k = within_lengths lo hi idx w in
      let long : length idx ≡ length o = sym k.0 ∙ m.0 in
      elim f.numbered [
        | inl whole ↦
            let first : label_part g lo ≡ 0 = none_at whole.1 lo 0 m.0 in
            let own : label_part g idx ≡ 0 = none_at whole.1 idx 0 long in
            let last : end_part g hi ≡ 1 = none_at whole.1 hi 1 m.1 in
            (omega (arith, first, own), omega (arith, own, last))
        | inr many ↦
            let size = one_at count many.0 in
            let at = within_at lo hi idx r w (let l = size.1 in omega (arith, long, l)) in
            let last : end_part g hi ≡ get_or hi r 0 = other_default hi r 1 0 (let e = m.1 in let l = size.1 in omega (arith, e, l)) in
            (at.0, (let l = at.1 in omega (arith, last, l)))
      ]

  -- ---- the places of the axis

  places_region : (lo hi : List ℕ) → IsFilled o lo hi → (first_place_of g axis lo ≤ end_place_of g axis hi) × (end_place_of g axis hi ≤ n)
  places_region lo hi filled =
      let some = (part_bounds lo hi filled).some in
      (first_order n c (label_part g lo) (end_part g hi) (omega (arith, some)), omega arith)

  places_within : (lo hi idx : List ℕ) (k : ℕ) → IsFilled o lo hi → IsWithin lo hi idx → Contains (part_places g axis idx) k → (first_place_of g axis lo ≤ k) × (k < end_place_of g axis hi)
  places_within lo hi idx k filled w there =
      let p = part_within lo hi idx filled w in
      let q = label_part g idx in
      let at = below_range (min n (q * c)) (min n (suc q * c) - min n (q * c)) k there in
      let low = first_order n c (label_part g lo) q p.0 in
      let own = first_order n c q (suc q) (omega arith) in
      let high = first_order n c (suc q) (end_part g hi) (let l = p.1 in omega (arith, l)) in
      let first = at.0 in
      let last = at.1 in
      (omega (arith, low, first), omega (arith, own, high, last))

  -- ---- the regions of the source and of the labels

  pub own_filled : (lo hi : List ℕ) → IsFilled o lo hi → IsFilled (set g.shape axis groups) (take r lo) (take r hi)
  own_filled lo hi filled = subst (λ (ns : List ℕ). IsFilled ns (take r lo) (take r hi)) first_axes (filled_take r o lo hi filled)

  pub source_over : (lo hi : List ℕ) → IsFilled o lo hi → IsRegion g.shape (grouped_walk g axis source lo hi).region.lo (grouped_walk g axis source lo hi).region.hi
  source_over lo hi filled =
      let p = places_region lo hi filled in
      region_set axis g.shape (take r lo) (take r hi) groups (first_place_of g axis lo) (end_place_of g axis hi) (own_filled lo hi filled) p.0 p.1

  pub labels_over : (lo hi : List ℕ) → IsFilled o lo hi → IsRegion (grid_at arrays labels).shape (labels_walk g axis labels lo hi).region.lo (labels_walk g axis labels lo hi).region.hi
  labels_over lo hi filled =
      let p = places_region lo hi filled in
      subst (λ (ns : List ℕ). IsRegion ns (first_place_of g axis lo ∷ []) (end_place_of g axis hi ∷ [])) (sym f.label_sizes) (p.0, p.1, tt)

  -- what an index of the region reads
  pub source_reads : (lo hi idx : List ℕ) (k : ℕ) → IsFilled o lo hi → IsWithin lo hi idx → Contains (part_places g axis idx) k
      → IsWithin (grouped_walk g axis source lo hi).region.lo (grouped_walk g axis source lo hi).region.hi (source_index g axis idx k)
  source_reads lo hi idx k filled w there =
      within_set axis (take r lo) (take r hi) (take r idx) (first_place_of g axis lo) (end_place_of g axis hi) k (within_take r lo hi idx w) (places_within lo hi idx k filled w there)

  pub labels_reads : (lo hi idx : List ℕ) (k : ℕ) → IsFilled o lo hi → IsWithin lo hi idx → Contains (part_places g axis idx) k
      → IsWithin (labels_walk g axis labels lo hi).region.lo (labels_walk g axis labels lo hi).region.hi (k ∷ [])
  labels_reads lo hi idx k filled w there = let p = places_within lo hi idx k filled w there in (p.0, p.1, tt)

  -- ---- a task's region of each is one chunk

  module _ (ok : IsGrid g) (okl : IsGrid (grid_at arrays labels)) (oko : IsGrid (grid_at arrays out)) where
    abbrev co : List ℕ
    co = (grid_at arrays out).chunk

    length-chunks : length (set g.chunk axis groups) ≡ r
    length-chunks = length-set g.chunk axis groups ∙ ok.ranks

    first_chunks : take r co ≡ set g.chunk axis groups
    first_chunks = ap (take r) f.chunk ∙ ap (λ m. take m (set g.chunk axis groups ++ f.part_chunks)) (sym length-chunks) ∙ take-append_seam (set g.chunk axis groups) f.part_chunks

    part_chunk : get_or co r 0 ≡ get_or f.part_chunks 0 0
    part_chunk = ap (λ (ns : List ℕ). get_or ns r 0) f.chunk ∙ behind (set g.chunk axis groups) f.part_chunks length-chunks

    -- it has one part
    pub one_part : (lo hi : List ℕ) → IsFilled o lo hi → IsSpan o co lo hi → end_part g hi ≡ suc (label_part g lo)
    one_part lo hi filled s =
        let m = filled_lengths o lo hi filled in
        elim f.numbered [
          | inl whole ↦
              let first : label_part g lo ≡ 0 = none_at whole.1 lo 0 m.0 in
              let last : end_part g hi ≡ 1 = none_at whole.1 hi 1 m.1 in
              omega (arith, first, last)
          | inr many ↦
              let size = one_at count many.0 in
              let at = filled_at o lo hi r filled size.1 in
              let unit : get_or co r 0 ≡ 1 = part_chunk ∙ ap (λ (ns : List ℕ). get_or ns 0 0) many.1 in
              let last : end_part g hi ≡ get_or hi r 0 = other_default hi r 1 0 (let e = m.1 in let l = size.1 in omega (arith, e, l)) in
              let on : IsSpanOn (get_or o r 0) 1 (get_or lo r 0) (get_or hi r 0) = subst (λ (k : ℕ). IsSpanOn (get_or o r 0) k (get_or lo r 0) (get_or hi r 0)) unit (span_at r o co lo hi s size.1) in
              let l = at.0 in
              let st = on.starts in
              let en = on.ends in
              omega (arith, l, st, en, last)
        ]

    -- that begins within the axis
    starts_at : (p : ℕ) → p < count → min n (p * c) ≡ p * c
    starts_at p h = let b = begins_on n c p h in omega (arith, b)

    places_span : (lo hi : List ℕ) → IsFilled o lo hi → IsSpan o co lo hi → IsSpanOn n c (first_place_of g axis lo) (end_place_of g axis hi)
    places_span lo hi filled s =
        let p = part_bounds lo hi filled in
        let some = p.some in
        let most = p.most in
        let e : end_part g hi ≡ label_part g lo + 1 = (let one = one_part lo hi filled s in omega (arith, one)) in
        record { number = label_part g lo; starts = starts_at (label_part g lo) (omega (arith, some, most)); ends = ap (λ m. min n (m * c)) e }

    pub own_span : (lo hi : List ℕ) → IsSpan o co lo hi → IsSpan (set g.shape axis groups) (set g.chunk axis groups) (take r lo) (take r hi)
    own_span lo hi s =
        subst (λ (ns : List ℕ). IsSpan ns (set g.chunk axis groups) (take r lo) (take r hi)) first_axes (subst (λ (cs : List ℕ). IsSpan (take r o) cs (take r lo) (take r hi)) first_chunks (span_take r o co lo hi s))

    pub source_span : (lo hi : List ℕ) → IsFilled o lo hi → IsSpan o co lo hi → IsSpan g.shape g.chunk (grouped_walk g axis source lo hi).region.lo (grouped_walk g axis source lo hi).region.hi
    source_span lo hi filled s =
        span_set axis g.shape g.chunk (take r lo) (take r hi) groups (first_place_of g axis lo) (end_place_of g axis hi) (own_span lo hi s) (places_span lo hi filled s)

    pub labels_span : (lo hi : List ℕ) → IsFilled o lo hi → IsSpan o co lo hi
        → IsSpan (grid_at arrays labels).shape (grid_at arrays labels).chunk (labels_walk g axis labels lo hi).region.lo (labels_walk g axis labels lo hi).region.hi
    labels_span lo hi filled s =
        subst (λ (ns : List ℕ). IsSpan ns (grid_at arrays labels).chunk (first_place_of g axis lo ∷ []) (end_place_of g axis hi ∷ [])) (sym f.label_sizes)
        (subst (λ (cs : List ℕ). IsSpan (n ∷ []) cs (first_place_of g axis lo ∷ []) (end_place_of g axis hi ∷ [])) (sym f.label_chunk) (places_span lo hi filled s, tt))

    -- ---- the chunks for a chunk of the result

    module _ (d : List ℕ) (here : IsCoordinate (grid_at arrays out) d) (filled : IsFilled o (chunk_lo co d) (chunk_hi o co d)) where
      abbrev first : List ℕ
      first = chunk_lo co d

      coord_long : length d ≡ length o
      coord_long = coordinate-length (grid_at arrays out) d oko here

      first_long : length first ≡ length o
      first_long = length-axis_by_axis (λ i c. i * c) d co (coord_long ∙ sym oko.ranks) ∙ coord_long

      same_part : label_part g first ≡ label_part g d
      same_part = elim f.numbered [
        | inl whole ↦ none_at whole.1 first 0 first_long ∙ sym (none_at whole.1 d 0 coord_long)
        | inr many ↦
            let size = one_at count many.0 in
            let unit : get_or co r 0 ≡ 1 = part_chunk ∙ ap (λ (ns : List ℕ). get_or ns 0 0) many.1 in
            let l = coord_long in
            let e = oko.ranks in
            let b = size.1 in
            let at : get_or first r 0 ≡ get_or d r 0 * get_or co r 0 = get_or-axis_by_axis (λ i c. i * c) d co r (omega (arith, l, b)) (omega (arith, e, b)) in
            at ∙ ap (λ m. label_part g d * m) unit ∙ (let z : label_part g d * 1 ≡ label_part g d = omega arith in z)
      ]

      place_first : first_place_of g axis first ≡ label_part g d * c
      place_first =
          let p = part_bounds first (chunk_hi o co d) filled in
          let some = p.some in
          let most = p.most in
          starts_at (label_part g first) (omega (arith, some, most)) ∙ ap (λ m. m * c) same_part

      coord_own : length (take r d) ≡ r
      coord_own = length-take-le r d (let a = axes_out in let l = coord_long in omega (arith, a, l))

      pub source_box : (grouped_walk g axis source (chunk_lo co d) (chunk_hi o co d)).region.lo ≡ chunk_lo g.chunk (source_index g axis d (label_part g d))
      source_box =
          ap (λ (xs : List ℕ). set xs axis (first_place_of g axis first)) (take_products r d co ∙ ap (products (take r d)) first_chunks)
          ∙ ap (set (products (take r d) (set g.chunk axis groups)) axis) place_first
          ∙ products_set axis (take r d) g.chunk groups (label_part g d) (coord_own ∙ sym ok.ranks)

      pub labels_box : (labels_walk g axis labels (chunk_lo co d) (chunk_hi o co d)).region.lo ≡ chunk_lo (grid_at arrays labels).chunk (label_part g d ∷ [])
      labels_box = ap (λ m. m ∷ []) place_first ∙ ap (products (label_part g d ∷ [])) (sym f.label_chunk)

      pub source_long : length (source_index g axis d (label_part g d)) ≡ length g.shape
      source_long = length-set (take r d) axis (label_part g d) ∙ coord_own

      pub labels_long : length (label_part g d ∷ []) ≡ length (grid_at arrays labels).shape
      labels_long = sym (ap length f.label_sizes)

    -- two different regions of one array have no chunk in common
    pub operands_apart : (lo hi : List ℕ) → source < length arrays → labels < length arrays → IsFilled o lo hi → IsSpan o co lo hi → grouped_walk g axis source lo hi ≢ labels_walk g axis labels lo hi
        → AreApart arrays (grouped_walk g axis source lo hi) (labels_walk g axis labels lo hi)
    operands_apart lo hi ws wl filled s =
        spans_apart arrays (grouped_walk g axis source lo hi) (labels_walk g axis labels lo hi) ok okl (ws, source_over lo hi filled) (wl, labels_over lo hi filled) (source_span lo hi filled s) (labels_span lo hi filled s)

  -- ---- the parts of a region by its first and its last index

  pub part_region : (lo hi : List ℕ) → IsInside o lo → IsInside o (map pred hi) → IsPartRegion g axis lo hi
  part_region lo hi first last =
      let axes = axes_out in
      let lo_long = inside-length o lo first in
      let hi_long : length hi ≡ length o = sym (length-map hi pred) ∙ inside-length o (map pred hi) last in
      record {
        along = f.along;
        lo_axes = omega (arith, axes, lo_long);
        hi_axes = omega (arith, axes, hi_long);
        first = elim f.numbered [
          | inl whole ↦ let z : label_part g lo ≡ 0 = none_at whole.1 lo 0 lo_long in omega (arith, z)
          | inr many ↦
              let size = one_at count many.0 in
              let below = inside-at o lo r first size.1 in
              let e = size.0 in
              omega (arith, below, e)
        ];
        last = elim f.numbered [
          | inl whole ↦ let z : end_part g hi ≡ 1 = none_at whole.1 hi 1 hi_long in omega (arith, z)
          | inr many ↦
              let size = one_at count many.0 in
              let l = size.1 in
              let e = size.0 in
              let is : end_part g hi ≡ get_or hi r 0 = other_default hi r 1 0 (omega (arith, hi_long, l)) in
              let below = inside-at o (map pred hi) r last l in
              let own : get_or (map pred hi) r 0 ≡ pred (get_or hi r 0) = get_or-map pred hi r 0 0 (omega (arith, hi_long, l)) in
              let most = up_to (get_or hi r 0) (get_or o r 0) (omega (arith, below, own)) in
              omega (arith, is, most, e)
        ];
      }
    where
      up_to : (h m : ℕ) → pred h < m → h ≤ m
      up_to zero m b = omega arith
      up_to (suc h) m b = b
