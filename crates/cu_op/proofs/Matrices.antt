-- What a task of a product of matrices reads of its operands.
use Rattle.std.proofs.Common.{◌≡◌, ◌≢◌, inl, inr, ℕ, zero, suc, pred, ◌<◌, ◌≤◌, ◌+◌, ◌-◌, ◌*◌, nat_le, List, [], ◌∷◌, length, map, take, min, max, Contains, get_or, refl, ap, sym, ◌∙◌, subst, arith, if◌then◌else◌}
use Rattle.std.proofs.Math.Nat.{mul-le-mul_right}
use Rattle.std.proofs.lemmas.List.{length-take-le, length-map, get_or-map}
use Rattle.std.proofs.lemmas.List.Elements.{All-take}
use Rattle.cu_shape.specs.Index.{IsInside, back, quotients, products}
use Rattle.cu_shape.proofs.Axes.{length-axis_by_axis, get_or-axis_by_axis}
use Rattle.cu_grid.specs.Counts.{IsRegion, IsWithin, chunk_lo, chunk_hi}
use Rattle.cu_grid.specs.Grid.{IsGrid, IsCoordinate}
use Rattle.cu_shape.proofs.Places.{inside-length}
use Rattle.cu_grid.proofs.Parting.{only_chunk}
use Rattle.cu_grid.proofs.Regions.{inside-at, coordinate-length}
use Rattle.cu_reduce.specs.Products.{batch_of, outer_axes, left_index, right_index}
use Rattle.cu_op.specs.declared.layout.ArrayInfo.{ArrayInfo}
use Rattle.cu_op.specs.Arrays.{grid_at}
use Rattle.cu_op.specs.Matrix.{batch_rank, product_rank, left_inner, right_inner, batch_grid, inner_chunk_count, product_index, part_number, end_number, inner_lo, inner_hi, inner_places, first_inner, end_inner, IsProductRegion}
use Rattle.cu_op.specs.Broadcast.{back_as}
use Rattle.cu_op.specs.Kind.Mul.{MulFits, left_walk, right_walk}
use Rattle.cu_op.specs.Aligned.{IsAligned}
use Rattle.cu_op.specs.Chunks.{walk}
use Rattle.cu_op.proofs.Filled.{IsFilled, filled_at, filled_take, filled_region, filled_lengths, within_take, within_at, past, other_default, below_range}
use Rattle.cu_op.proofs.Grouped.{begins_on}
use Rattle.cu_op.proofs.MatrixBoxes.{BatchBegins, aligned_begins, take_products, long_back, left_begins, right_begins, left_index_long, right_index_long}
use Rattle.cu_op.proofs.MapRegions.{region_back, read_within, within_lengths}
use Rattle.cu_op.proofs.MatrixRegions.{length-batch_of, outer_one, laid, laid_as, length-laid, laid_first, laid_row, laid_column, laid_part, BatchWithin, RegionOn, left_region, right_region, left_within, right_within, left_spans, right_spans}
use Rattle.cu_op.proofs.Spans.{IsSpanOn, IsSpan, span_take, span_at, span_back, span_chunk}
use Rattle.cu_op.proofs.WalkCells.{walk_meets, AreApart}

module _ (arrays : List ArrayInfo) (left right out : ℕ) (f : MulFits arrays left right out) where
  abbrev a : List ℕ
  a = (grid_at arrays left).shape

  abbrev b : List ℕ
  b = (grid_at arrays right).shape

  abbrev o : List ℕ
  o = (grid_at arrays out).shape

  abbrev br : ℕ
  br = batch_rank a b

  shape_as : o ≡ laid f.sizes a b f.parts
  shape_as = f.shape ∙ laid_as f.sizes a b f.parts

  length-out : length o ≡ br + (outer_axes a + outer_axes b) + length f.parts
  length-out = ap length shape_as ∙ length-laid f.sizes a b f.parts br f.rank

  pub axes_out : product_rank a b ≤ length o
  axes_out = let e = length-out in omega (arith, e)

  first_axes : take br o ≡ f.sizes
  first_axes = ap (take br) shape_as ∙ laid_first f.sizes a b f.parts br f.rank

  row_size : 2 ≤ length a → get_or o br 0 ≡ get_or a (length a - 2) 0
  row_size h = ap (λ (ns : List ℕ). get_or ns br 0) shape_as ∙ laid_row f.sizes a b f.parts br f.rank h

  column_size : 2 ≤ length b → get_or o (br + outer_axes a) 0 ≡ get_or b (length b - 1) 0
  column_size h = ap (λ (ns : List ℕ). get_or ns (br + outer_axes a) 0) shape_as ∙ laid_column f.sizes a b f.parts br f.rank h

  part_size : get_or o (product_rank a b) 0 ≡ get_or f.parts 0 0
  part_size = ap (λ (ns : List ℕ). get_or ns (br + (outer_axes a + outer_axes b)) 0) shape_as ∙ laid_part f.sizes a b f.parts br f.rank

  row_axis : 2 ≤ length a → br < length o
  row_axis h = let e = length-out in let one = outer_one a h in omega (arith, e, one)

  column_axis : 2 ≤ length b → br + outer_axes a < length o
  column_axis h = let e = length-out in let one = outer_one b h in omega (arith, e, one)

  -- ---- the parts of a region

  pub record PartBounds (lo hi : List ℕ) : Type 0 where
    pub some : part_number a b lo < end_number a b hi
    pub most : end_number a b hi ≤ max 1 (inner_chunk_count (grid_at arrays left))

  -- there is no axis that numbers parts
  none_at : f.parts ≡ [] → (xs : List ℕ) (d : ℕ) → length xs ≡ length o → get_or xs (product_rank a b) d ≡ d
  none_at none xs d e = let n = length-out in let z : length f.parts ≡ 0 = ap length none in past xs (product_rank a b) d (omega (arith, n, z, e))

  one_at : (n : ℕ) → f.parts ≡ n ∷ [] → (get_or o (product_rank a b) 0 ≡ n) × (product_rank a b < length o)
  one_at n is = let e = length-out in let z : length f.parts ≡ 1 = ap length is in (part_size ∙ ap (λ (ns : List ℕ). get_or ns 0 0) is, omega (arith, e, z))

  pub part_bounds : (lo hi : List ℕ) → IsFilled o lo hi → PartBounds lo hi
  part_bounds lo hi filled =
      let n = filled_lengths o lo hi filled in
      elim f.numbered [
        | inl whole ↦
            let first : part_number a b lo ≡ 0 = none_at whole.1 lo 0 n.0 in
            let last : end_number a b hi ≡ 1 = none_at whole.1 hi 1 n.1 in
            record { some = omega (arith, first, last); most = omega (arith, last) }
        | inr many ↦
            let size = one_at (max 1 (inner_chunk_count (grid_at arrays left))) many.0 in
            let at = filled_at o lo hi (product_rank a b) filled size.1 in
            let last : end_number a b hi ≡ get_or hi (product_rank a b) 0 = other_default hi (product_rank a b) 1 0 (let e = n.1 in let l = size.1 in omega (arith, e, l)) in
            record { some = let l = at.0 in omega (arith, last, l); most = let l = at.1 in let e = size.0 in omega (arith, last, l, e) }
      ]

  pub part_within : (lo hi idx : List ℕ) → IsFilled o lo hi → IsWithin lo hi idx → (part_number a b lo ≤ part_number a b idx) × (part_number a b idx < end_number a b hi)
  part_within lo hi idx filled w =
      let n = filled_lengths o lo hi filled in
      let m = within_lengths lo hi idx w in
      let long : length idx ≡ length o = sym m.0 ∙ n.0 in
      elim f.numbered [
        | inl whole ↦
            let first : part_number a b lo ≡ 0 = none_at whole.1 lo 0 n.0 in
            let own : part_number a b idx ≡ 0 = none_at whole.1 idx 0 long in
            let last : end_number a b hi ≡ 1 = none_at whole.1 hi 1 n.1 in
            (omega (arith, first, own), omega (arith, own, last))
        | inr many ↦
            let size = one_at (max 1 (inner_chunk_count (grid_at arrays left))) many.0 in
            let at = within_at lo hi idx (product_rank a b) w (let l = size.1 in omega (arith, long, l)) in
            let last : end_number a b hi ≡ get_or hi (product_rank a b) 0 = other_default hi (product_rank a b) 1 0 (let e = n.1 in let l = size.1 in omega (arith, e, l)) in
            (at.0, (let l = at.1 in omega (arith, last, l)))
      ]

  -- the inner places
  abbrev n : ℕ
  n = left_inner a

  abbrev c : ℕ
  c = left_inner (grid_at arrays left).chunk

  pub inner_region : (lo hi : List ℕ) → IsFilled o lo hi → (first_inner (grid_at arrays left) (grid_at arrays right) lo ≤ end_inner (grid_at arrays left) (grid_at arrays right) hi) × (end_inner (grid_at arrays left) (grid_at arrays right) hi ≤ left_inner a)
  inner_region lo hi filled =
      let p = part_bounds lo hi filled in
      let some = p.some in
      let most = p.most in
      let begins : part_number a b lo * c ≤ n = begins_on n c (part_number a b lo) (omega (arith, some, most)) in
      let order : part_number a b lo * c ≤ end_number a b hi * c = mul-le-mul_right c (let l : part_number a b lo ≤ end_number a b hi = omega (arith, some) in l) in
      (omega (arith, begins, order), omega arith)

  pub inner_within : (lo hi idx : List ℕ) (k : ℕ) → IsFilled o lo hi → IsWithin lo hi idx → Contains (inner_places (grid_at arrays left) (part_number a b idx)) k
      → (first_inner (grid_at arrays left) (grid_at arrays right) lo ≤ k) × (k < end_inner (grid_at arrays left) (grid_at arrays right) hi)
  inner_within lo hi idx k filled w there =
      let p = part_within lo hi idx filled w in
      let at = below_range (inner_lo (grid_at arrays left) (part_number a b idx)) (inner_hi (grid_at arrays left) (part_number a b idx + 1) - inner_lo (grid_at arrays left) (part_number a b idx)) k there in
      let low : part_number a b lo * c ≤ part_number a b idx * c = mul-le-mul_right c p.0 in
      let high : (part_number a b idx + 1) * c ≤ end_number a b hi * c = mul-le-mul_right c (let l : part_number a b idx + 1 ≤ end_number a b hi = (let q = p.1 in omega (arith, q)) in l) in
      let first = at.0 in
      let last = at.1 in
      (omega (arith, low, first), omega (arith, high, first, last))

  -- ---- the regions of the operands

  sizes_filled : (lo hi : List ℕ) → IsFilled o lo hi → IsFilled f.sizes (take br lo) (take br hi)
  sizes_filled lo hi filled = subst (λ (ns : List ℕ). IsFilled ns (take br lo) (take br hi)) first_axes (filled_take br o lo hi filled)

  on_axis : (lo hi : List ℕ) (k m : ℕ) → IsFilled o lo hi → k < length o → get_or o k 0 ≡ m → RegionOn lo hi k m
  on_axis lo hi k m filled h e = let at = filled_at o lo hi k filled h in ((let l = at.0 in omega (arith, l)), (let l = at.1 in omega (arith, l, e)))

  pub left_over : (lo hi : List ℕ) → IsFilled o lo hi → IsRegion a (left_walk arrays left right lo hi).region.lo (left_walk arrays left right lo hi).region.hi
  left_over lo hi filled =
      left_region a b lo hi (first_inner (grid_at arrays left) (grid_at arrays right) lo) (end_inner (grid_at arrays left) (grid_at arrays right) hi) f.left_rank
      (λ h. region_back (batch_grid (grid_at arrays left)) (record { shape = f.sizes; chunk = f.chunks }) (take br lo) (take br hi) f.left_batch (filled_region f.sizes (take br lo) (take br hi) (sizes_filled lo hi filled)))
      (λ h. on_axis lo hi br (get_or a (length a - 2) 0) filled (row_axis h) (row_size h)) (inner_region lo hi filled)

  pub right_over : (lo hi : List ℕ) → IsFilled o lo hi → IsRegion b (right_walk arrays left right lo hi).region.lo (right_walk arrays left right lo hi).region.hi
  right_over lo hi filled =
      right_region a b lo hi (first_inner (grid_at arrays left) (grid_at arrays right) lo) (end_inner (grid_at arrays left) (grid_at arrays right) hi) f.right_rank
      (λ h. region_back (batch_grid (grid_at arrays right)) (record { shape = f.sizes; chunk = f.chunks }) (take br lo) (take br hi) f.right_batch (filled_region f.sizes (take br lo) (take br hi) (sizes_filled lo hi filled)))
      (λ h. on_axis lo hi (br + outer_axes a) (get_or b (length b - 1) 0) filled (column_axis h) (column_size h))
      (let r = inner_region lo hi filled in (r.0, (let l = r.1 in let e = f.inner in omega (arith, l, e))))

  -- ---- what an index of the region reads

  long_index : (lo hi idx : List ℕ) → IsFilled o lo hi → IsWithin lo hi idx → length idx ≡ length o
  long_index lo hi idx filled w = let n = filled_lengths o lo hi filled in let m = within_lengths lo hi idx w in sym m.0 ∙ n.0

  batch_within : (ns lo hi idx : List ℕ) → IsFilled o lo hi → IsWithin lo hi idx → length ns ≤ br + 2 → BatchWithin ns br lo hi idx
  batch_within ns lo hi idx filled w short =
      let e = length-batch_of ns in
      let n = filled_lengths o lo hi filled in
      let long = long_index lo hi idx filled w in
      let axes = axes_out in
      let p : length (take br lo) ≡ br = length-take-le br lo (let l = n.0 in omega (arith, l, axes)) in
      let q : length (take br hi) ≡ br = length-take-le br hi (let l = n.1 in omega (arith, l, axes)) in
      let r : length (take br idx) ≡ br = length-take-le br idx (omega (arith, long, axes)) in
      read_within (batch_of ns) (take br lo) (take br hi) (take br idx) (p ∙ sym r) (q ∙ sym r) (omega (arith, e, r, short)) (within_take br lo hi idx w)

  left_short : length a ≤ br + 2
  left_short = let e = length-batch_of a in omega (arith, e)

  right_short : length b ≤ br + 2
  right_short = let e = length-batch_of b in omega (arith, e)

  pub left_reads : (lo hi idx : List ℕ) (k : ℕ) → IsFilled o lo hi → IsWithin lo hi idx → Contains (inner_places (grid_at arrays left) (part_number a b idx)) k
      → IsWithin (left_walk arrays left right lo hi).region.lo (left_walk arrays left right lo hi).region.hi (left_index a b (product_index a b idx) k)
  left_reads lo hi idx k filled w there =
      let long = long_index lo hi idx filled w in
      let axes = axes_out in
      left_within a b lo hi idx (first_inner (grid_at arrays left) (grid_at arrays right) lo) (end_inner (grid_at arrays left) (grid_at arrays right) hi) k (omega (arith, long, axes))
      (λ h. batch_within a lo hi idx filled w left_short) (λ h. within_at lo hi idx br w (let l = row_axis h in omega (arith, l, long))) (inner_within lo hi idx k filled w there)

  pub right_reads : (lo hi idx : List ℕ) (k : ℕ) → IsFilled o lo hi → IsWithin lo hi idx → Contains (inner_places (grid_at arrays left) (part_number a b idx)) k
      → IsWithin (right_walk arrays left right lo hi).region.lo (right_walk arrays left right lo hi).region.hi (right_index a b (product_index a b idx) k)
  right_reads lo hi idx k filled w there =
      let long = long_index lo hi idx filled w in
      let axes = axes_out in
      right_within a b lo hi idx (first_inner (grid_at arrays left) (grid_at arrays right) lo) (end_inner (grid_at arrays left) (grid_at arrays right) hi) k (omega (arith, long, axes))
      (λ h. batch_within b lo hi idx filled w right_short) (λ h. within_at lo hi idx (br + outer_axes a) w (let l = column_axis h in omega (arith, l, long))) (inner_within lo hi idx k filled w there)

  -- ---- a task's region of an operand is one chunk

  module _ (oka : IsGrid (grid_at arrays left)) (okb : IsGrid (grid_at arrays right)) (oko : IsGrid (grid_at arrays out)) where
    abbrev ca : List ℕ
    ca = (grid_at arrays left).chunk

    abbrev cb : List ℕ
    cb = (grid_at arrays right).chunk

    abbrev co : List ℕ
    co = (grid_at arrays out).chunk

    chunk_as : co ≡ laid f.chunks ca cb f.part_chunks
    chunk_as = f.chunk ∙ laid_as f.chunks ca cb f.part_chunks

    same_outer : (xs ys : List ℕ) → length xs ≡ length ys → outer_axes xs ≡ outer_axes ys
    same_outer xs ys e = ap (λ (m : ℕ). if nat_le 2 m then 1 else 0) e

    same_parts : length f.part_chunks ≡ length f.parts
    same_parts = elim f.numbered [ inl whole ↦ ap length whole.2 ∙ sym (ap length whole.1) | inr many ↦ ap length many.1 ∙ sym (ap length many.0) ]

    length-chunks : length f.chunks ≡ br
    length-chunks =
        let e = ap length chunk_as ∙ length-laid f.chunks ca cb f.part_chunks (length f.chunks) refl in
        let n = length-out in
        let r = oko.ranks in
        let p = same_outer ca a oka.ranks in
        let q = same_outer cb b okb.ranks in
        let s = same_parts in
        omega (arith, e, n, r, p, q, s)

    first_chunks : take br co ≡ f.chunks
    first_chunks = ap (take br) chunk_as ∙ laid_first f.chunks ca cb f.part_chunks br length-chunks

    row_chunk : 2 ≤ length a → get_or co br 0 ≡ get_or ca (length a - 2) 0
    row_chunk h =
        let e = oka.ranks in
        ap (λ (ns : List ℕ). get_or ns br 0) chunk_as ∙ laid_row f.chunks ca cb f.part_chunks br length-chunks (omega (arith, e)) ∙ ap (λ m. get_or ca (m - 2) 0) oka.ranks

    column_chunk : 2 ≤ length b → get_or co (br + outer_axes a) 0 ≡ get_or cb (length b - 1) 0
    column_chunk h =
        let e = okb.ranks in
        ap (λ (ns : List ℕ). get_or ns (br + outer_axes a) 0) chunk_as ∙ ap (λ m. get_or (laid f.chunks ca cb f.part_chunks) (br + m) 0) (sym (same_outer ca a oka.ranks))
        ∙ laid_column f.chunks ca cb f.part_chunks br length-chunks (omega (arith, e)) ∙ ap (λ m. get_or cb (m - 1) 0) okb.ranks

    part_chunk : get_or co (product_rank a b) 0 ≡ get_or f.part_chunks 0 0
    part_chunk =
        ap (λ (ns : List ℕ). get_or ns (br + (outer_axes a + outer_axes b)) 0) chunk_as
        ∙ ap (λ m. get_or (laid f.chunks ca cb f.part_chunks) (br + (m + outer_axes b)) 0) (sym (same_outer ca a oka.ranks))
        ∙ ap (λ m. get_or (laid f.chunks ca cb f.part_chunks) (br + (outer_axes ca + m)) 0) (sym (same_outer cb b okb.ranks))
        ∙ laid_part f.chunks ca cb f.part_chunks br length-chunks

    -- it has one part
    one_part : (lo hi : List ℕ) → IsFilled o lo hi → IsSpan o co lo hi → end_number a b hi ≡ part_number a b lo + 1
    one_part lo hi filled s =
        let n = filled_lengths o lo hi filled in
        elim f.numbered [
          | inl whole ↦
              let first : part_number a b lo ≡ 0 = none_at whole.1 lo 0 n.0 in
              let last : end_number a b hi ≡ 1 = none_at whole.1 hi 1 n.1 in
              omega (arith, first, last)
          | inr many ↦
              let size = one_at (max 1 (inner_chunk_count (grid_at arrays left))) many.0 in
              let at = filled_at o lo hi (product_rank a b) filled size.1 in
              let unit : get_or co (product_rank a b) 0 ≡ 1 = part_chunk ∙ ap (λ (ns : List ℕ). get_or ns 0 0) many.1 in
              let last : end_number a b hi ≡ get_or hi (product_rank a b) 0 = other_default hi (product_rank a b) 1 0 (let e = n.1 in let l = size.1 in omega (arith, e, l)) in
              let on : IsSpanOn (get_or o (product_rank a b) 0) 1 (get_or lo (product_rank a b) 0) (get_or hi (product_rank a b) 0) =
              subst (λ (m : ℕ). IsSpanOn (get_or o (product_rank a b) 0) m (get_or lo (product_rank a b) 0) (get_or hi (product_rank a b) 0)) unit (span_at (product_rank a b) o co lo hi s size.1) in
              let l = at.0 in
              let st = on.starts in
              let en = on.ends in
              omega (arith, l, st, en, last)
        ]

    inner_span : (lo hi : List ℕ) → IsFilled o lo hi → IsSpan o co lo hi → IsSpanOn n c (first_inner (grid_at arrays left) (grid_at arrays right) lo) (end_inner (grid_at arrays left) (grid_at arrays right) hi)
    inner_span lo hi filled s = record { number = part_number a b lo; starts = refl; ends = ap (λ m. min n (m * c)) (one_part lo hi filled s) }

    sizes_span : (lo hi : List ℕ) → IsSpan o co lo hi → IsSpan f.sizes f.chunks (take br lo) (take br hi)
    sizes_span lo hi s =
        subst (λ (ns : List ℕ). IsSpan ns f.chunks (take br lo) (take br hi)) first_axes (subst (λ (cs : List ℕ). IsSpan (take br o) cs (take br lo) (take br hi)) first_chunks (span_take br o co lo hi s))

    axis_span : (lo hi : List ℕ) (k m d : ℕ) → IsSpan o co lo hi → k < length o → get_or o k 0 ≡ m → get_or co k 0 ≡ d → IsSpanOn m d (get_or lo k 0) (get_or hi k 0)
    axis_span lo hi k m d s h p q = subst (λ (x : ℕ). IsSpanOn x d (get_or lo k 0) (get_or hi k 0)) p (subst (λ (x : ℕ). IsSpanOn (get_or o k 0) x (get_or lo k 0) (get_or hi k 0)) q (span_at k o co lo hi s h))

    pub left_span : (lo hi : List ℕ) → IsFilled o lo hi → IsSpan o co lo hi → IsSpan a ca (left_walk arrays left right lo hi).region.lo (left_walk arrays left right lo hi).region.hi
    left_span lo hi filled s =
        left_spans a b ca lo hi (first_inner (grid_at arrays left) (grid_at arrays right) lo) (end_inner (grid_at arrays left) (grid_at arrays right) hi) f.left_rank oka.ranks
        (λ h. span_back (batch_grid (grid_at arrays left)) (record { shape = f.sizes; chunk = f.chunks }) (take br lo) (take br hi) (All-take (λ z. 0 < z) (length ca - 2) ca oka.positive) f.left_batch (sizes_span lo hi s))
        (λ h. subst (λ (m : ℕ). IsSpanOn (get_or a (length a - 2) 0) (get_or ca (m - 2) 0) (get_or lo br 0) (get_or hi br 0)) (sym oka.ranks)
        (axis_span lo hi br (get_or a (length a - 2) 0) (get_or ca (length a - 2) 0) s (row_axis h) (row_size h) (row_chunk h))) (inner_span lo hi filled s)

    -- the inner axis of the right operand has the same chunks
    right_inner_span : (lo hi : List ℕ) → IsFilled o lo hi → IsSpan o co lo hi → IsSpanOn (right_inner b) (right_inner cb) (first_inner (grid_at arrays left) (grid_at arrays right) lo) (end_inner (grid_at arrays left) (grid_at arrays right) hi)
    right_inner_span lo hi filled s =
        subst (λ (m : ℕ). IsSpanOn m (right_inner cb) (first_inner (grid_at arrays left) (grid_at arrays right) lo) (end_inner (grid_at arrays left) (grid_at arrays right) hi)) f.inner
        (subst (λ (d : ℕ). IsSpanOn n d (first_inner (grid_at arrays left) (grid_at arrays right) lo) (end_inner (grid_at arrays left) (grid_at arrays right) hi)) f.inner_chunk (inner_span lo hi filled s))

    pub right_span : (lo hi : List ℕ) → IsFilled o lo hi → IsSpan o co lo hi → IsSpan b cb (right_walk arrays left right lo hi).region.lo (right_walk arrays left right lo hi).region.hi
    right_span lo hi filled s =
        let k = br + outer_axes a in
        right_spans a b cb lo hi (first_inner (grid_at arrays left) (grid_at arrays right) lo) (end_inner (grid_at arrays left) (grid_at arrays right) hi) f.right_rank okb.ranks
        (λ h. span_back (batch_grid (grid_at arrays right)) (record { shape = f.sizes; chunk = f.chunks }) (take br lo) (take br hi) (All-take (λ z. 0 < z) (length cb - 2) cb okb.positive) f.right_batch (sizes_span lo hi s))
        (λ h. subst (λ (m : ℕ). IsSpanOn (get_or b (length b - 1) 0) (get_or cb (m - 1) 0) (get_or lo k 0) (get_or hi k 0)) (sym okb.ranks)
        (axis_span lo hi k (get_or b (length b - 1) 0) (get_or cb (length b - 1) 0) s (column_axis h) (column_size h) (column_chunk h))) (right_inner_span lo hi filled s)

    -- ---- the chunks of the operands for a chunk of the result

    module _ (d : List ℕ) (here : IsCoordinate (grid_at arrays out) d) where
      abbrev first : List ℕ
      first = chunk_lo co d

      coord_long : length d ≡ length o
      coord_long = coordinate-length (grid_at arrays out) d oko here

      coord_axes : product_rank a b ≤ length d
      coord_axes = let e = axes_out in let l = coord_long in omega (arith, e, l)

      first_at : (k : ℕ) → k < length o → get_or first k 0 ≡ get_or d k 0 * get_or co k 0
      first_at k h = let l = coord_long in let r = oko.ranks in get_or-axis_by_axis (λ i c. i * c) d co k (omega (arith, l, h)) (omega (arith, r, h))

      first_long : length first ≡ length o
      first_long = length-axis_by_axis (λ i c. i * c) d co (coord_long ∙ sym oko.ranks) ∙ coord_long

      same_part : part_number a b first ≡ part_number a b d
      same_part = elim f.numbered [
        | inl whole ↦ none_at whole.1 first 0 first_long ∙ sym (none_at whole.1 d 0 coord_long)
        | inr many ↦
            let size = one_at (max 1 (inner_chunk_count (grid_at arrays left))) many.0 in
            let unit : get_or co (product_rank a b) 0 ≡ 1 = part_chunk ∙ ap (λ (ns : List ℕ). get_or ns 0 0) many.1 in
            first_at (product_rank a b) size.1 ∙ ap (λ m. part_number a b d * m) unit ∙ (let e : part_number a b d * 1 ≡ part_number a b d = omega arith in e)
      ]

      batch_first : take br first ≡ products (take br d) f.chunks
      batch_first = take_products br d co ∙ ap (products (take br d)) first_chunks

      coord_batch : length (take br d) ≡ br
      coord_batch = length-take-le br d (let e = coord_axes in omega (arith, e))

      inner_first : first_inner (grid_at arrays left) (grid_at arrays right) first ≡ part_number a b d * c
      inner_first = ap (λ m. m * c) same_part

      batch_long : (ns cs : List ℕ) → IsAligned (record { shape = batch_of ns; chunk = batch_of cs }) (record { shape = f.sizes; chunk = f.chunks }) → length (back (batch_of ns) (take br d)) ≡ length ns - 2
      batch_long ns cs al =
          let p = length-batch_of ns in
          let r = al.rank in
          let n = coord_batch in
          let m = f.rank in
          long_back (batch_of ns) (take br d) (omega (arith, r, n, m)) ∙ p

      batch_begins : (ns cs : List ℕ) → IsAligned (record { shape = batch_of ns; chunk = batch_of cs }) (record { shape = f.sizes; chunk = f.chunks }) → length cs ≡ length ns → BatchBegins ns cs br first d
      batch_begins ns cs al e =
          let q = length-batch_of cs in (
            ap (back_as 0 (batch_of ns)) batch_first
                ∙ aligned_begins (record { shape = batch_of ns; chunk = batch_of cs }) (record { shape = f.sizes; chunk = f.chunks }) (take br d) al (length-chunks ∙ sym f.rank) (coord_batch ∙ sym f.rank),
            batch_long ns cs al ∙ (let n : length ns - 2 ≡ length cs - 2 = omega (arith, e) in n) ∙ sym q,
          )

      pub left_box : (left_walk arrays left right (chunk_lo co d) (chunk_hi o co d)).region.lo ≡ chunk_lo ca (left_index a b (product_index a b d) (part_number a b d))
      left_box =
          left_begins a b ca first d (first_inner (grid_at arrays left) (grid_at arrays right) first) (part_number a b d) coord_axes f.left_rank oka.ranks (λ h. batch_begins a ca f.left_batch oka.ranks)
          (λ h. first_at br (row_axis h) ∙ ap (λ m. get_or d br 0 * m) (row_chunk h ∙ ap (λ m. get_or ca (m - 2) 0) (sym oka.ranks))) inner_first

      pub right_box : (right_walk arrays left right (chunk_lo co d) (chunk_hi o co d)).region.lo ≡ chunk_lo cb (right_index a b (product_index a b d) (part_number a b d))
      right_box =
          right_begins a b cb first d (first_inner (grid_at arrays left) (grid_at arrays right) first) (part_number a b d) coord_axes f.right_rank okb.ranks (λ h. batch_begins b cb f.right_batch okb.ranks)
          (λ h. first_at (br + outer_axes a) (column_axis h) ∙ ap (λ m. get_or d (br + outer_axes a) 0 * m) (column_chunk h ∙ ap (λ m. get_or cb (m - 1) 0) (sym okb.ranks)))
          (inner_first ∙ ap (λ m. part_number a b d * m) f.inner_chunk)

      pub left_long : length (left_index a b (product_index a b d) (part_number a b d)) ≡ length a
      left_long = left_index_long a b d (part_number a b d) coord_axes f.left_rank (λ h. batch_long a ca f.left_batch)

      pub right_long : length (right_index a b (product_index a b d) (part_number a b d)) ≡ length b
      right_long = right_index_long a b d (part_number a b d) coord_axes f.right_rank (λ h. batch_long b cb f.right_batch)

    -- so two different regions of one array have no chunk in common
    pub operands_apart : (lo hi : List ℕ) → left < length arrays → right < length arrays → IsFilled o lo hi → IsSpan o co lo hi → left_walk arrays left right lo hi ≢ right_walk arrays left right lo hi
        → AreApart arrays (left_walk arrays left right lo hi) (right_walk arrays left right lo hi)
    operands_apart lo hi wl wr filled s other d here there =
        let v = left_walk arrays left right lo hi in
        let w = right_walk arrays left right lo hi in
        let (dv, (cv, (iv, lv, ov))) = walk_meets arrays v d oka (wl, left_over lo hi filled) here in
        let (dw, (cw, (iw, lw, ow))) = walk_meets arrays w d okb (wr, right_over lo hi filled) there in
        let same : left ≡ right = sym dv ∙ dw in
        let p = span_chunk a ca v.region.lo v.region.hi iv oka.positive (left_span lo hi filled s) lv in
        let q = span_chunk b cb w.region.lo w.region.hi iw okb.positive (right_span lo hi filled s) lw in
        let ev : d.coord ≡ quotients iv ca = only_chunk (grid_at arrays left) d.coord iv oka cv ov in
        let ew : d.coord ≡ quotients iw cb = only_chunk (grid_at arrays right) d.coord iw okb cw ow in
        let W : ℕ → _ = λ x. walk x (chunk_lo (grid_at arrays x).chunk d.coord) (chunk_hi (grid_at arrays x).shape (grid_at arrays x).chunk d.coord) in
        let is_left : v ≡ W left = as_walk left v.region.lo v.region.hi _ _ (p.0 ∙ ap (chunk_lo ca) (sym ev)) (p.1 ∙ ap (chunk_hi a ca) (sym ev)) in
        let is_right : w ≡ W right = as_walk right w.region.lo w.region.hi _ _ (q.0 ∙ ap (chunk_lo cb) (sym ew)) (q.1 ∙ ap (chunk_hi b cb) (sym ew)) in
        other (is_left ∙ ap W same ∙ sym is_right)
      where
        as_walk : (x : ℕ) (ls hs ms ks : List ℕ) → ls ≡ ms → hs ≡ ks → walk x ls hs ≡ walk x ms ks
        as_walk x ls hs ms ks e g = λ i. record { array = x; region = record { lo = e i; hi = g i } }

  -- ---- the parts of a region by its first and its last index

  pub product_region : (lo hi : List ℕ) → IsInside o lo → IsInside o (map pred hi) → IsProductRegion (grid_at arrays left) (grid_at arrays right) lo hi
  product_region lo hi first last =
      let axes = axes_out in
      let lo_long = inside-length o lo first in
      let hi_long : length hi ≡ length o = sym (length-map hi pred) ∙ inside-length o (map pred hi) last in
      record {
        inner = f.left_rank;
        lo_axes = omega (arith, axes, lo_long);
        hi_axes = omega (arith, axes, hi_long);
        first = elim f.numbered [
          | inl whole ↦ let z : part_number a b lo ≡ 0 = none_at whole.1 lo 0 lo_long in omega (arith, z)
          | inr many ↦
              let size = one_at (max 1 (inner_chunk_count (grid_at arrays left))) many.0 in
              let below = inside-at o lo (product_rank a b) first size.1 in
              let e = size.0 in
              omega (arith, below, e)
        ];
        last = elim f.numbered [
          | inl whole ↦ let z : end_number a b hi ≡ 1 = none_at whole.1 hi 1 hi_long in omega (arith, z)
          | inr many ↦
              let size = one_at (max 1 (inner_chunk_count (grid_at arrays left))) many.0 in
              let l = size.1 in
              let e = size.0 in
              let is : end_number a b hi ≡ get_or hi (product_rank a b) 0 = other_default hi (product_rank a b) 1 0 (omega (arith, hi_long, l)) in
              let below = inside-at o (map pred hi) (product_rank a b) last l in
              let own : get_or (map pred hi) (product_rank a b) 0 ≡ pred (get_or hi (product_rank a b) 0) = get_or-map pred hi (product_rank a b) 0 0 (omega (arith, hi_long, l)) in
              let most = up_to (get_or hi (product_rank a b) 0) (get_or o (product_rank a b) 0) (omega (arith, below, own)) in
              omega (arith, is, most, e)
        ];
      }
    where
      up_to : (h m : ℕ) → pred h < m → h ≤ m
      up_to zero m b = omega arith
      up_to (suc h) m b = b
