-- A task of a fold by labels: its regions, and what its results are.
use Rattle.std.proofs.Common.{◌≡◌, inl, inr, ℕ, zero, suc, ◌+◌, ◌-◌, ◌*◌, ◌<◌, ◌≤◌, ℤ, min, List, [], ◌∷◌, length, map, take, drop, set, get_or, Contains, Option, Some, refl, sym, ap, ◌∙◌, subst, arith}
use Rattle.std.specs.List.{range_with_len}
use Rattle.std.proofs.lemmas.List.{length-take-le, length-set, get_or-take, get_or-set_same, set-get_or}
use Rattle.std.proofs.lemmas.List.FromFn.{length-range_with_len, get_or-range_with_len}
use Rattle.cu_num.specs.Dtype.{size_of}
use Rattle.cu_num.specs.Element.{element_at}
use Rattle.cu_num.specs.declared.types.Dtype.{Dtype}
use Rattle.cu_num.specs.declared.folds.FoldKind.{FoldKind}
use Rattle.cu_num.specs.declared.layout.Endian.TheVariants.{Little}
use Rattle.cu_shape.specs.Index.{product, place_of, index_at, differences, IsInside}
use Rattle.cu_shape.proofs.Axes.{length-axis_by_axis, get_or-axis_by_axis}
use Rattle.cu_shape.proofs.Places.{index-inside, place-below}
use Rattle.cu_grid.specs.Counts.{IsWithin}
use Rattle.cu_grid.specs.Grid.{RegularGrid, IsGrid}
use Rattle.cu_grid.proofs.Regions.{coordinate-length}
use Rattle.cu_group.specs.Regions.{label_in}
use Rattle.cu_reduce.specs.Labels.{Labelled, chunk_places, grouped_at, grouped_to, marked, with_label}
use Rattle.cu_reduce.specs.Numbers.{HasNumber, line_element}
use Rattle.cu_reduce.proofs.Given.{grouped_given}
use Rattle.cu_codec.specs.Parts.{place_within}
use Rattle.cu_codec.proofs.Shared.{within_sizes}
use Rattle.cu_op.specs.Along.{size_on, chunk_on}
use Rattle.cu_op.specs.Arrays.{grid_at, type_at, grid_counts}
use Rattle.cu_op.specs.Grouping.{source_index, label_part, end_part, part_places, first_place_of, end_place_of, grouped_walk, labels_walk}
use Rattle.cu_op.specs.Kind.GroupFold.{GroupFoldFits}
use Rattle.cu_op.specs.Elements.{Elements}
use Rattle.cu_op.specs.declared.layout.ArrayInfo.{ArrayInfo}
use Rattle.cu_op.proofs.ByLabels as by_labels
use Rattle.cu_op.proofs.Filled.{IsFilled, chunk_filled, filled_lengths, filled_at, filled_region, within_take, other_default}
use Rattle.cu_op.proofs.MapRegions.{within_lengths}
use Rattle.cu_op.proofs.Spans.{IsSpan, IsSpanOn, chunk_span, span_at, span_few}
use Rattle.cu_region.specs.Writing.{AreElements, buffer_element}
use Rattle.cu_task.proofs.MatrixBlocks.{take_differences, range_moved}
use Rattle.cu_task.proofs.PartialTasks.{result_lo, result_hi}
use Rattle.cu_task.proofs.PartialValues.{number_at}
use Rattle.cu_task.proofs.PullTask.{region_elements}
use Rattle.cu_task.specs.Inputs.{HasRegion}

-- ---- sizes with another number on an axis

differences_set : (a : ℕ) (xs ys : List ℕ) (x y : ℕ) → length xs ≡ length ys → differences (set xs a x) (set ys a y) ≡ set (differences xs ys) a (x - y)
differences_set zero [] [] x y e = refl
differences_set (suc a) [] [] x y e = refl
differences_set zero (i ∷ is) (j ∷ js) x y e = refl
differences_set (suc a) (i ∷ is) (j ∷ js) x y e = ap (λ (ns : List ℕ). (i - j) ∷ ns) (differences_set a is js x y (omega arith))
differences_set a xs ys x y e = absurd (omega arith)

set_twice : (a : ℕ) (xs : List ℕ) (x y : ℕ) → set (set xs a x) a y ≡ set xs a y
set_twice zero [] x y = refl
set_twice (suc a) [] x y = refl
set_twice zero (i ∷ is) x y = refl
set_twice (suc a) (i ∷ is) x y = ap (λ (ns : List ℕ). i ∷ ns) (set_twice a is x y)

-- ---- a last axis of size one, which may be missing

none_behind : (k : ℕ) (ds : List ℕ) → length ds ≡ k → product (drop k ds) ≡ 1
none_behind zero [] e = refl
none_behind (suc k) (d ∷ ds) e = none_behind k ds (omega arith)
none_behind k ds e = absurd (omega arith)

one_behind : (k : ℕ) (ds : List ℕ) → length ds ≡ suc k → get_or ds k 0 ≡ 1 → product (drop k ds) ≡ 1
one_behind zero (d ∷ []) e h = omega (arith, h)
one_behind (suc k) (d ∷ ds) e h = one_behind k ds (omega arith) h
one_behind k ds e h = absurd (omega arith)

-- it counts for nothing
front_product : (k : ℕ) (ds : List ℕ) → product (drop k ds) ≡ 1 → product ds ≡ product (take k ds)
front_product zero ds e = e
front_product (suc k) [] e = refl
front_product (suc k) (d ∷ ds) e = ap (λ m. d * m) (front_product k ds e)

front_place : (k : ℕ) (ds is : List ℕ) → IsInside ds is → product (drop k ds) ≡ 1 → place_of ds is ≡ place_of (take k ds) (take k is)
front_place zero ds is h e = let b = place-below ds is h in omega (arith, b, e)
front_place (suc k) [] [] h e = refl
front_place (suc k) (d ∷ ds) (i ∷ is) h e = λ t. i * front_product k ds e t + front_place k ds is h.1 e t
front_place (suc k) ds is h e = absurd h

-- an axis that has one chunk
one_chunk : (m l h : ℕ) → IsSpanOn m m l h → l < h → (l ≡ 0) × (h ≡ m)
one_chunk m l h s less = whole s.number s.starts s.ends
  where
    whole : (k : ℕ) → l ≡ k * m → h ≡ min m ((k + 1) * m) → (l ≡ 0) × (h ≡ m)
    whole zero st en = (omega (arith, st), omega (arith, en))
    whole (suc k) st en = absurd (let e : suc k * m ≡ m + k * m = omega arith in omega (arith, st, en, less, e))

-- ---- what a buffer has

-- a region that is reduced by labels along an axis, and the types of its elements, of the labels and of the results
pub record LabelRegion : Type 0 where
  pub kind : FoldKind
  pub axis : ℕ
  pub groups : ℕ
  pub source_type : Dtype
  pub label_type : Dtype
  pub made_type : Dtype
  pub dims : List ℕ

-- the result for each group at each index, from the region's elements in one buffer and the labels in another
abbrev pub HasGroups : LabelRegion → List ℕ → List ℕ → List ℕ → Type 0
HasGroups x front behind output = (idx : List ℕ) → IsInside (set x.dims x.axis x.groups) idx
    → HasNumber x.made_type output (place_of (set x.dims x.axis x.groups) idx)
    (grouped_at x.kind x.made_type (label_in x.label_type behind) (line_element x.source_type x.dims x.axis front idx) (get_or idx x.axis 0) (range_with_len 0 (get_or x.dims x.axis 0)))

module _ (arrays : List ArrayInfo) (kind : FoldKind) (axis groups source labels out task : ℕ) (f : GroupFoldFits arrays kind axis groups source labels out)
    (ok : IsGrid (grid_at arrays source)) (okl : IsGrid (grid_at arrays labels)) (oko : IsGrid (grid_at arrays out)) (h : task < product (grid_counts (grid_at arrays out))) where
  abbrev g : RegularGrid
  g = grid_at arrays source

  abbrev r : ℕ
  r = length g.shape

  abbrev o : List ℕ
  o = (grid_at arrays out).shape

  abbrev lo : List ℕ
  lo = result_lo (grid_at arrays out) task

  abbrev hi : List ℕ
  hi = result_hi (grid_at arrays out) task

  abbrev first : ℕ
  first = first_place_of g axis lo

  abbrev end : ℕ
  end = end_place_of g axis hi

  coordinate : IsInside (grid_counts (grid_at arrays out)) (index_at (grid_counts (grid_at arrays out)) task)
  coordinate = index-inside (grid_counts (grid_at arrays out)) task h

  filled : IsFilled o lo hi
  filled = chunk_filled o (grid_at arrays out).chunk (index_at (grid_counts (grid_at arrays out)) task) oko.positive oko.ranks coordinate

  span : IsSpan o (grid_at arrays out).chunk lo hi
  span = chunk_span o (grid_at arrays out).chunk (index_at (grid_counts (grid_at arrays out)) task) oko.ranks (coordinate-length (grid_at arrays out) (index_at (grid_counts (grid_at arrays out)) task) oko coordinate)

  -- ---- the rooms of what is read

  abbrev pub dims : List ℕ
  dims = differences (grouped_walk g axis source lo hi).region.hi (grouped_walk g axis source lo hi).region.lo

  abbrev pub label_dims : List ℕ
  label_dims = differences (labels_walk g axis labels lo hi).region.hi (labels_walk g axis labels lo hi).region.lo

  pub source_few : product dims ≤ product g.chunk
  source_few = span_few g.shape g.chunk _ _ (by_labels.source_span arrays kind axis groups source labels out f ok okl oko lo hi filled span)

  pub labels_few : product label_dims ≤ product (grid_at arrays labels).chunk
  labels_few = span_few (grid_at arrays labels).shape (grid_at arrays labels).chunk _ _ (by_labels.labels_span arrays kind axis groups source labels out f ok okl oko lo hi filled span)

  -- ---- ranks

  ranks : (length lo ≡ length o) × (length hi ≡ length o)
  ranks = filled_lengths o lo hi filled

  same_long : length hi ≡ length lo
  same_long = ranks.1 ∙ sym ranks.0

  axes : r ≤ length o
  axes = by_labels.axes_out arrays kind axis groups source labels out f

  lo_rank : length (take r lo) ≡ r
  lo_rank = length-take-le r lo (let e = ranks.0 in let l = axes in omega (arith, e, l))

  hi_rank : length (take r hi) ≡ r
  hi_rank = length-take-le r hi (let e = ranks.1 in let l = axes in omega (arith, e, l))

  index_long : (idx : List ℕ) → IsWithin lo hi idx → length idx ≡ length lo
  index_long idx w = sym (within_lengths lo hi idx w).0

  index_rank : (idx : List ℕ) → IsWithin lo hi idx → length (take r idx) ≡ r
  index_rank idx w = length-take-le r idx (let n = index_long idx w in let e = ranks.0 in let l = axes in omega (arith, n, e, l))

  -- ---- the result's region

  -- its sizes on the source's axes
  abbrev sizes : List ℕ
  sizes = differences (take r hi) (take r lo)

  sizes_rank : length sizes ≡ r
  sizes_rank = length-axis_by_axis (λ i j. i - j) (take r hi) (take r lo) (hi_rank ∙ sym lo_rank) ∙ hi_rank

  -- all groups
  all_groups : (get_or lo axis 0 ≡ 0) × (get_or hi axis 0 ≡ groups)
  all_groups =
      let along = f.along in
      let n = length-set g.shape axis groups in
      let has : get_or (set g.shape axis groups) axis 0 ≡ groups = get_or-set_same g.shape axis groups 0 along in
      let chunk : get_or (set g.chunk axis groups) axis 0 ≡ groups = get_or-set_same g.chunk axis groups 0 (let e = ok.ranks in omega (arith, e, along)) in
      let low : get_or (take r lo) axis 0 ≡ get_or lo axis 0 = get_or-take r lo axis 0 along in
      let high : get_or (take r hi) axis 0 ≡ get_or hi axis 0 = get_or-take r hi axis 0 along in
      let at = filled_at (set g.shape axis groups) (take r lo) (take r hi) axis (by_labels.own_filled arrays kind axis groups source labels out f lo hi filled) (omega (arith, n, along)) in
      let own = span_at axis (set g.shape axis groups) (set g.chunk axis groups) (take r lo) (take r hi) (by_labels.own_span arrays kind axis groups source labels out f ok okl oko lo hi span) (omega (arith, n, along)) in
      let on : IsSpanOn groups groups (get_or (take r lo) axis 0) (get_or (take r hi) axis 0) =
      subst (λ (m : ℕ). IsSpanOn m groups (get_or (take r lo) axis 0) (get_or (take r hi) axis 0)) has
      (subst (λ (d : ℕ). IsSpanOn (get_or (set g.shape axis groups) axis 0) d (get_or (take r lo) axis 0) (get_or (take r hi) axis 0)) chunk own) in
      let both = one_chunk groups (get_or (take r lo) axis 0) (get_or (take r hi) axis 0) on at.0 in
      (sym low ∙ both.0, sym high ∙ both.1)

  groups_size : get_or sizes axis 0 ≡ groups
  groups_size =
      let along = f.along in
      let l = lo_rank in
      let k = hi_rank in
      let b = all_groups in
      let low : get_or (take r lo) axis 0 ≡ get_or lo axis 0 = get_or-take r lo axis 0 along in
      let high : get_or (take r hi) axis 0 ≡ get_or hi axis 0 = get_or-take r hi axis 0 along in
      let zero_is = b.0 in
      let all_is = b.1 in
      get_or-axis_by_axis (λ i j. i - j) (take r hi) (take r lo) axis (omega (arith, k, along)) (omega (arith, l, along)) ∙ (let e : get_or (take r hi) axis 0 - get_or (take r lo) axis 0 ≡ groups = omega (arith, low, high, zero_is, all_is) in e)

  -- the source's region has them too, but for the axis
  dims_are : dims ≡ set sizes axis (end - first)
  dims_are = differences_set axis (take r hi) (take r lo) end first (hi_rank ∙ sym lo_rank)

  pub dims_long : axis < length dims
  dims_long = let e = ap length dims_are ∙ length-set sizes axis (end - first) in let n = sizes_rank in let along = f.along in omega (arith, e, n, along)

  pub axis_size : get_or dims axis 0 ≡ end - first
  axis_size = ap (λ (xs : List ℕ). get_or xs axis 0) dims_are ∙ get_or-set_same sizes axis (end - first) 0 (let n = sizes_rank in let along = f.along in omega (arith, n, along))

  sized : set dims axis groups ≡ sizes
  sized = ap (λ (xs : List ℕ). set xs axis groups) dims_are ∙ set_twice axis sizes (end - first) groups ∙ ap (set sizes axis) (sym groups_size) ∙ set-get_or sizes axis 0

  one_part : end_part g hi ≡ suc (label_part g lo)
  one_part = by_labels.one_part arrays kind axis groups source labels out f ok okl oko lo hi filled span

  -- and there is one part
  tail_one : product (drop r (differences hi lo)) ≡ 1
  tail_one =
      let n : length (differences hi lo) ≡ length hi = length-axis_by_axis (λ i j. i - j) hi lo same_long in
      let e = ranks.1 in
      let d = ranks.0 in
      let m = by_labels.length-out arrays kind axis groups source labels out f in
      elim f.numbered [
        | inl whole ↦ let none : length f.parts ≡ 0 = ap length whole.1 in none_behind r (differences hi lo) (omega (arith, n, e, m, none))
        | inr many ↦
            let one : length f.parts ≡ 1 = ap length many.0 in
            let last : end_part g hi ≡ get_or hi r 0 = other_default hi r 1 0 (omega (arith, e, m, one)) in
            let next = one_part in
            one_behind r (differences hi lo) (omega (arith, n, e, m, one))
            (get_or-axis_by_axis (λ i j. i - j) hi lo r (omega (arith, e, m, one)) (omega (arith, d, m, one)) ∙ (let k : get_or hi r 0 - get_or lo r 0 ≡ 1 = omega (arith, last, next) in k))
      ]

  front_sizes : take r (differences hi lo) ≡ sizes
  front_sizes = take_differences r hi lo same_long

  pub result_length : product (set dims axis groups) ≡ product (differences hi lo)
  result_length = ap product sized ∙ sym (front_product r (differences hi lo) tail_one ∙ ap product front_sizes)

  -- ---- an index of it

  abbrev own : List ℕ → List ℕ
  own idx = differences (take r idx) (take r lo)

  own_inside : (idx : List ℕ) → IsWithin lo hi idx → IsInside (set dims axis groups) (own idx)
  own_inside idx w = subst (λ (ds : List ℕ). IsInside ds (own idx)) (sym sized) (within_sizes (take r lo) (take r hi) (take r idx) (within_take r lo hi idx w))

  own_place : (idx : List ℕ) → IsWithin lo hi idx → place_of (set dims axis groups) (own idx) ≡ place_within lo hi idx
  own_place idx w =
      ap (λ (ds : List ℕ). place_of ds (own idx)) (sized ∙ sym front_sizes)
      ∙ ap (place_of (take r (differences hi lo))) (sym (take_differences r idx lo (index_long idx w)))
      ∙ sym (front_place r (differences hi lo) (differences idx lo) (within_sizes lo hi idx w) tail_one)

  own_group : (idx : List ℕ) → IsWithin lo hi idx → get_or (own idx) axis 0 ≡ get_or idx axis 0
  own_group idx w =
      let along = f.along in
      let l = lo_rank in
      let k = index_rank idx w in
      let low : get_or (take r lo) axis 0 ≡ get_or lo axis 0 = get_or-take r lo axis 0 along in
      let at : get_or (take r idx) axis 0 ≡ get_or idx axis 0 = get_or-take r idx axis 0 along in
      let none = all_groups.0 in
      get_or-axis_by_axis (λ i j. i - j) (take r idx) (take r lo) axis (omega (arith, k, along)) (omega (arith, l, along)) ∙ (let e : get_or (take r idx) axis 0 - get_or (take r lo) axis 0 ≡ get_or idx axis 0 = omega (arith, low, at, none) in e)

  -- ---- what it is made of

  source_place : (idx : List ℕ) (q : ℕ) → IsWithin lo hi idx
      → place_of dims (differences (source_index g axis idx (first + q)) (grouped_walk g axis source lo hi).region.lo) ≡ place_of dims (set (own idx) axis q)
  source_place idx q w =
      let e : first + q - first ≡ q = omega arith in
      ap (place_of dims) (differences_set axis (take r idx) (take r lo) (first + q) first (index_rank idx w ∙ sym lo_rank) ∙ ap (set (own idx) axis) e)

  labels_place : (q : ℕ) → place_of label_dims (differences ((first + q) ∷ []) (labels_walk g axis labels lo hi).region.lo) ≡ q
  labels_place q = omega arith

  places_here : (idx : List ℕ) → IsWithin lo hi idx → part_places g axis idx ≡ range_with_len first (end - first)
  places_here idx w =
      let n = size_on g axis in
      let c = chunk_on g axis in
      let p = by_labels.part_within arrays kind axis groups source labels out f lo hi idx filled w in
      let next = one_part in
      let part : label_part g idx ≡ label_part g lo = (let a = p.0 in let b = p.1 in omega (arith, a, b, next)) in
      ap (chunk_places c n) part ∙ ap (λ m. range_with_len first (min n (m * c) - first)) (sym next)

  places_contain : (idx : List ℕ) (q : ℕ) → IsWithin lo hi idx → q < end - first → Contains (part_places g axis idx) (first + q)
  places_contain idx q w below =
      subst (λ (xs : List ℕ). Contains xs (first + q)) (sym (places_here idx w))
      (q, (let n = length-range_with_len first (end - first) in omega (arith, n, below)), get_or-range_with_len first (end - first) q (first + q) below)

  -- the labels and the elements that stand in the buffers
  abbrev label_of : List ℕ → ℕ → ℤ
  label_of behind = label_in (type_at arrays labels) behind

  abbrev element_of : List ℕ → List ℕ → ℕ → ℤ
  element_of front idx = line_element (type_at arrays source) dims axis front (own idx)

  abbrev pub own_region : LabelRegion
  own_region = record { kind = kind; axis = axis; groups = groups; source_type = type_at arrays source; label_type = type_at arrays labels; made_type = type_at arrays out; dims = dims }

  abbrev acc : Dtype
  acc = type_at arrays out

  number_here : (front behind output : List ℕ) → HasGroups own_region front behind output → (idx : List ℕ) → IsWithin lo hi idx
      → HasNumber acc output (place_within lo hi idx) (grouped_at kind acc (label_of behind) (element_of front idx) (get_or idx axis 0) (range_with_len 0 (end - first)))
  number_here front behind output has idx w =
      subst (λ (m : ℕ). HasNumber acc output m (grouped_at kind acc (label_of behind) (element_of front idx) (get_or idx axis 0) (range_with_len 0 (end - first)))) (own_place idx w)
      (subst (λ (q : ℕ). HasNumber acc output (place_of (set dims axis groups) (own idx)) (grouped_at kind acc (label_of behind) (element_of front idx) q (range_with_len 0 (end - first)))) (own_group idx w)
      (subst (λ (m : ℕ). HasNumber acc output (place_of (set dims axis groups) (own idx)) (grouped_at kind acc (label_of behind) (element_of front idx) (get_or (own idx) axis 0) (range_with_len 0 m))) axis_size
      (has (own idx) (own_inside idx w))))

  module _ (at : Elements) (front behind : List ℕ)
      (reads_source : HasRegion (type_at arrays source) (at source) (grouped_walk g axis source lo hi).region.lo (grouped_walk g axis source lo hi).region.hi front)
      (reads_labels : HasRegion (type_at arrays labels) (at labels) (labels_walk g axis labels lo hi).region.lo (labels_walk g axis labels lo hi).region.hi behind) where
    abbrev given : List ℕ → ℕ → Option Labelled
    given idx k = with_label (at labels (k ∷ [])) (at source (source_index g axis idx k))

    told : (idx : List ℕ) (q : ℕ) → IsWithin lo hi idx → q < end - first → given idx (first + q) ≡ with_label (Some (label_of behind q)) (Some (element_of front idx q))
    told idx q w below =
        let there = places_contain idx q w below in
        let s = reads_source (source_index g axis idx (first + q)) (by_labels.source_reads arrays kind axis groups source labels out f lo hi idx (first + q) filled w there)
        ∙ ap (λ m. Some (element_at Little (type_at arrays source) front m)) (source_place idx q w) in
        let l = reads_labels ((first + q) ∷ []) (by_labels.labels_reads arrays kind axis groups source labels out f lo hi idx (first + q) filled w there)
        ∙ ap (λ m. Some (element_at Little (type_at arrays labels) behind m)) (labels_place q) in
        ap (λ (x : Option ℤ). with_label x (at source (source_index g axis idx (first + q)))) l ∙ ap (with_label (Some (label_of behind q))) s

    pub groups_are : (output : List ℕ) → HasGroups own_region front behind output → (idx : List ℕ) → IsWithin lo hi idx
        → grouped_to kind acc (get_or idx axis 0) (marked (λ k. at labels (k ∷ [])) (λ k. at source (source_index g axis idx k)) (part_places g axis idx))
        ≡ buffer_element acc lo hi output idx
    groups_are output has idx w =
        let q = get_or idx axis 0 in
        let moved : map (given idx) (part_places g axis idx) ≡ marked (λ k. Some (label_of behind k)) (λ k. Some (element_of front idx k)) (range_with_len 0 (end - first))
        = ap (map (given idx)) (places_here idx w) ∙ range_moved (given idx) (λ k. with_label (Some (label_of behind k)) (Some (element_of front idx k))) first (end - first) (λ k below. told idx k w below) in
        ap (grouped_to kind acc q) moved ∙ grouped_given kind acc q (label_of behind) (element_of front idx) (range_with_len 0 (end - first))
        ∙ ap Some (sym (number_at acc output (place_within lo hi idx) (grouped_at kind acc (label_of behind) (element_of front idx) q (range_with_len 0 (end - first))) (number_here front behind output has idx w)))

  pub group_elements : (front behind output : List ℕ) → length output ≡ product (differences hi lo) * size_of acc → HasGroups own_region front behind output → AreElements acc output
  group_elements front behind output long has =
      region_elements o lo hi acc output (filled_region o lo hi filled) long (λ idx w. (_, number_here front behind output has idx w))

  pub labels_size : product label_dims ≡ get_or dims axis 0
  labels_size = let e = axis_size in let one : product label_dims ≡ end - first = omega arith in one ∙ sym e
