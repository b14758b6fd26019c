-- Walks whose chunks are those of a list.
use Rattle.cu_grid.proofs.Parting.{only_chunk, in_array, has_coordinate}
use Rattle.cu_grid.proofs.Regions.{coordinate-length, region_inside}
use Rattle.cu_grid.specs.Counts.{chunk_lo, chunk_hi, IsWithin}
use Rattle.cu_grid.specs.Cover.{covering}
use Rattle.cu_grid.specs.Grid.{RegularGrid, IsGrid, IsCoordinate}
use Rattle.cu_op.proofs.CellsOfTasks.{map_contains}
use Rattle.cu_op.proofs.Filled.{below_range, contains_mapped}
use Rattle.cu_op.proofs.InputBoxes.{own_chunk, span_ends}
use Rattle.cu_op.proofs.MapRegions.{read_within, region_lengths}
use Rattle.cu_op.proofs.Nested.{begins_within}
use Rattle.cu_op.proofs.PlanGroups.{chunk_ranks, merge_ranks}
use Rattle.cu_op.proofs.ReadElements.{reads_from}
use Rattle.cu_op.proofs.ReducedBoxes.{box_sizes, chunk_boxes, merge_boxes, partial_box, IsBoxOf}
use Rattle.cu_op.proofs.Spans.{IsSpan, span_back, span_chunk, chunk_span}
use Rattle.cu_op.proofs.WalkCells.{walk_meets, meets_walk, kept_walk, All-new_walks, one_walk, from_walk}
use Rattle.cu_op.proofs.Wholes.{whole_within}
use Rattle.cu_op.specs.Arrays.{grid_at, grid_counts}
use Rattle.cu_op.specs.Chunks.{cell, chunk_where, all_chunks, chunks_in_box, walk, whole_walk, IsOneChunk}
use Rattle.cu_op.specs.Reductions.{source_coord, merged_chunks, partial_walk}
use Rattle.cu_op.specs.Aligned.{IsAligned}
use Rattle.cu_op.specs.Partial.{partial_grid, IsSqueezed, merge_groups}
use Rattle.cu_op.specs.Walks.{back_as, IsWalkOver, walk_cells, cells_of_walks, new_walks}
use Rattle.cu_op.specs.Kind.Map.{read_walk}
use Rattle.cu_op.specs.declared.cells.Cell.{Cell}
use Rattle.cu_op.specs.declared.layout.ArrayInfo.{ArrayInfo}
use Rattle.cu_op.specs.declared.walks.Walk.{Walk}
use Rattle.cu_reduce.specs.Groups.{groups_of}
use Rattle.cu_shape.proofs.Places.{index-inside, index-place, test_from_inside, place-below}
use Rattle.cu_shape.specs.Index.{IsInside, product, index_at, place_of, quotients, back, indices_of}
use Rattle.std.proofs.Common.{◌≡◌, inl, inr, ℕ, ◌<◌, ◌+◌, List, [], ◌∷◌, ◌++◌, length, map, All, Contains, refl, ap, sym, ◌∙◌, subst, arith, ◌↔◌, set}
use Rattle.std.proofs.lemmas.List.Elements.{All-head, All-tail, All-contains, All-contains_itself, Contains-append_left, Contains-append_right, Contains-append_cases}
use Rattle.std.proofs.lemmas.List.FromFn.{length-range_with_len, get_or-range_with_len}
use Rattle.std.specs.List.{range_with_len}
use Rattle.std.specs.Prelude.{flat_map}

-- ---- lists with the same members

abbrev pub HaveSame : List Cell → List Cell → Cell → Type 0
HaveSame xs ys c = (Contains xs c) ↔ (Contains ys c)

pub same_list : (xs ys : List Cell) (c : Cell) → xs ≡ ys → HaveSame xs ys c
same_list xs ys c e = (λ h. subst (λ (zs : List Cell). Contains zs c) e h, λ h. subst (λ (zs : List Cell). Contains zs c) (sym e) h)

pub same_more : (xs ys vs ws : List Cell) (c : Cell) → HaveSame xs ys c → HaveSame vs ws c → HaveSame (xs ++ vs) (ys ++ ws) c
same_more xs ys vs ws c a b = (
  λ h. elim (Contains-append_cases xs vs c h) [ inl x ↦ Contains-append_left ys ws c (a.0 x) | inr v ↦ Contains-append_right ys ws c (b.0 v) ],
  λ h. elim (Contains-append_cases ys ws c h) [ inl x ↦ Contains-append_left xs vs c (a.1 x) | inr v ↦ Contains-append_right xs vs c (b.1 v) ],
)

none_there : (c : Cell) → Contains [] c → ⊥
none_there c (k, l, e) = omega arith

module _ (arrays : List ArrayInfo) where
  -- one walk, two, and one for each array of a list
  pub of_one : (w : Walk) (ys : List Cell) (c : Cell) → HaveSame (walk_cells arrays w) ys c → HaveSame (cells_of_walks arrays (w ∷ [])) ys c
  of_one w ys c a = (
    λ h. elim (Contains-append_cases (walk_cells arrays w) [] c h) [ inl x ↦ a.0 x | inr v ↦ absurd (none_there c v) ],
    λ h. Contains-append_left (walk_cells arrays w) [] c (a.1 h),
  )

  pub of_two : (v w : Walk) (xs ys : List Cell) (c : Cell) → HaveSame (walk_cells arrays v) xs c → HaveSame (walk_cells arrays w) ys c → HaveSame (cells_of_walks arrays (v ∷ w ∷ [])) (xs ++ ys) c
  of_two v w xs ys c a b = same_more (walk_cells arrays v) xs (cells_of_walks arrays (w ∷ [])) ys c a (of_one w ys c b)

  pub of_each : (f : ℕ → Walk) (g : ℕ → List Cell) (numbers : List ℕ) (c : Cell) → All (λ a. HaveSame (walk_cells arrays (f a)) (g a) c) numbers
      → HaveSame (cells_of_walks arrays (map f numbers)) (flat_map g numbers) c
  of_each f g [] c h = (λ x. x, λ x. x)
  of_each f g (a ∷ numbers) c h =
      same_more (walk_cells arrays (f a)) (g a) (cells_of_walks arrays (map f numbers)) (flat_map g numbers) c (All-head (λ b. HaveSame (walk_cells arrays (f b)) (g b) c) a numbers h)
      (of_each f g numbers c (All-tail (λ b. HaveSame (walk_cells arrays (f b)) (g b) c) a numbers h))

  -- walks that are gone over once
  pub of_new : (ws : List Walk) (c : Cell) → HaveSame (cells_of_walks arrays (new_walks ws [])) (cells_of_walks arrays ws) c
  of_new ws c = (
    λ h.
        let (w, kept, here) = one_walk arrays (new_walks ws []) c h in
        from_walk arrays ws w c (All-contains (Contains ws) (new_walks ws []) w (All-new_walks (Contains ws) ws [] (All-contains_itself ws)) kept) here,
    λ h. let (w, among, here) = one_walk arrays ws c h in from_walk arrays (new_walks ws []) w c (kept_walk ws w among) here,
  )

  -- ---- whole arrays

  listed : (ds is : List ℕ) → IsInside ds is → Contains (indices_of ds) is
  listed ds is h =
      let below = place-below ds is h in
      let there : Contains (range_with_len 0 (product ds)) (place_of ds is) =
      (place_of ds is, (let n = length-range_with_len 0 (product ds) in omega (arith, n, below)), get_or-range_with_len 0 (product ds) (place_of ds is) (place_of ds is) below ∙ (let z : 0 + place_of ds is ≡ place_of ds is = omega arith in z)) in
      subst (Contains (indices_of ds)) (index-place ds is h) (map_contains (index_at ds) (range_with_len 0 (product ds)) (place_of ds is) there)

  inside_listed : (ds is : List ℕ) → Contains (indices_of ds) is → IsInside ds is
  inside_listed ds is h =
      let (p, place, e) = contains_mapped (index_at ds) (range_with_len 0 (product ds)) is h in
      let b = below_range 0 (product ds) p place in
      subst (IsInside ds) e (index-inside ds p (let l = b.1 in omega arith))

  pub whole_same : (a : ℕ) (c : Cell) → IsGrid (grid_at arrays a) → IsWalkOver arrays (whole_walk arrays a) → HaveSame (walk_cells arrays (whole_walk arrays a)) (all_chunks arrays a) c
  whole_same a c ok over =
      let g = grid_at arrays a in (
        λ h.
            let (array, (here, met)) = walk_meets arrays (whole_walk arrays a) c ok over h in
            subst (Contains (all_chunks arrays a)) (as_cell a c array) (map_contains (cell a) (indices_of (grid_counts g)) c.coord (listed (grid_counts g) c.coord here)),
        λ h.
            let (coord, among, e) = contains_mapped (cell a) (indices_of (grid_counts g)) c h in
            let here : IsCoordinate g coord = inside_listed (grid_counts g) coord among in
            let first = begins_within g coord ok here in
            subst (Contains (walk_cells arrays (whole_walk arrays a))) e
            (meets_walk arrays (whole_walk arrays a) coord ok over (here, (chunk_lo g.chunk coord, whole_within g.shape (chunk_lo g.chunk coord) (in_array g coord (chunk_lo g.chunk coord) ok here first), first))),
      )
    where
      as_cell : (a : ℕ) (c : Cell) → c.array ≡ a → cell a c.coord ≡ c
      as_cell a c e = λ i. record { array = sym e i; coord = c.coord }

  -- ---- an input of a map

  module _ (a : ℕ) (r : RegularGrid) (coord : List ℕ) (oka : IsGrid (grid_at arrays a)) (okr : IsGrid r) (al : IsAligned (grid_at arrays a) r) (here : IsCoordinate r coord) where
    abbrev g : RegularGrid
    g = grid_at arrays a

    abbrev lo : List ℕ
    lo = chunk_lo r.chunk coord

    abbrev hi : List ℕ
    hi = chunk_hi r.shape r.chunk coord

    own : IsWithin lo hi lo
    own = begins_within r coord okr here

    inside : IsInside r.shape lo
    inside = in_array r coord lo okr here own

    read_coord : quotients (back g.shape lo) g.chunk ≡ back g.shape coord
    read_coord = (reads_from g r lo oka okr al inside).chunk ∙ ap (back g.shape) (sym (only_chunk r coord lo okr here own))

    is_coord : IsCoordinate g (back g.shape coord)
    is_coord = subst (IsCoordinate g) read_coord (has_coordinate g (back g.shape lo) oka (reads_from g r lo oka okr al inside).inside)

    long : length coord ≡ length r.shape
    long = coordinate-length r coord okr here

    -- its region is one chunk
    pub read_one : IsOneChunk g (read_walk arrays lo hi a).region
    read_one =
        let n = region_lengths r.shape lo hi (region_inside r.shape r.chunk coord okr.positive okr.ranks here) in
        let rank = al.rank in
        let w = read_within g.shape lo hi lo refl (n.1 ∙ sym n.0) (let e = n.0 in omega (arith, rank, e)) own in
        let span = span_back g r lo hi oka.positive al (chunk_span r.shape r.chunk coord okr.ranks long) in
        let both = span_chunk g.shape g.chunk (back_as 0 g.shape lo) (back_as 1 g.shape hi) (back g.shape lo) oka.positive span w in
        record {
          coord = back g.shape coord;
          long = coordinate-length g (back g.shape coord) oka is_coord;
          begins = both.0 ∙ ap (chunk_lo g.chunk) read_coord;
          ends = both.1 ∙ ap (chunk_hi g.shape g.chunk) read_coord;
        }

    pub read_same : (c : Cell) → IsWalkOver arrays (read_walk arrays lo hi a) → HaveSame (walk_cells arrays (read_walk arrays lo hi a)) (cell a (back g.shape coord) ∷ []) c
    unfolding read_one
    read_same c over =
        let own = read_one in
        let all = own_chunk arrays a (back_as 0 g.shape lo) (back_as 1 g.shape hi) (back g.shape coord) c oka over own.long own.begins own.ends in
        let one : chunk_where arrays a (back g.shape coord) ≡ cell a (back g.shape coord) ∷ [] = only is_coord in
        (λ h. (same_list _ _ c one).0 (all.0 h), λ h. all.1 ((same_list _ _ c one).1 h))
      where
        only : IsCoordinate g (back g.shape coord) → chunk_where arrays a (back g.shape coord) ≡ cell a (back g.shape coord) ∷ []
        only h = let t = test_from_inside (grid_counts g) (back g.shape coord) h in rw t refl

  -- ---- boxes

  pub box_same : (a : ℕ) (sizes at lo hi : List ℕ) (c : Cell) → IsBoxOf sizes (grid_at arrays a).shape at lo hi → HaveSame (walk_cells arrays (walk a lo hi)) (chunks_in_box arrays a sizes at) c
  box_same a sizes at l h c b =
      same_list _ _ c (ap (λ (ls : List ℕ). map (cell a) (covering (grid_at arrays a).chunk ls h)) b.begins ∙ ap (λ (hs : List ℕ). map (cell a) (covering (grid_at arrays a).chunk (chunk_lo sizes at) hs)) b.ends)

  chunk_same : (a : ℕ) (sizes at lo hi : List ℕ) (c : Cell) → IsGrid (grid_at arrays a) → IsWalkOver arrays (walk a lo hi) → sizes ≡ (grid_at arrays a).chunk
      → IsBoxOf sizes (grid_at arrays a).shape at lo hi → HaveSame (walk_cells arrays (walk a lo hi)) (chunk_where arrays a at) c
  chunk_same a sizes at lo hi c ok over e b = own_chunk arrays a lo hi at c ok over b.long (b.begins ∙ ap (λ (cs : List ℕ). chunk_lo cs at) e) (b.ends ∙ ap (λ (cs : List ℕ). chunk_hi (grid_at arrays a).shape cs at) e)

  -- an operand of a product
  pub operand_one : (a : ℕ) (at l h : List ℕ) → IsGrid (grid_at arrays a) → length at ≡ length (grid_at arrays a).shape → l ≡ chunk_lo (grid_at arrays a).chunk at
      → IsSpan (grid_at arrays a).shape (grid_at arrays a).chunk l h → IsOneChunk (grid_at arrays a) (walk a l h).region
  operand_one a at l h ok long begins span =
      let g = grid_at arrays a in
      record { coord = at; long = long; begins = begins; ends = span_ends g.shape g.chunk at h ok.positive long (subst (λ (ls : List ℕ). IsSpan g.shape g.chunk ls h) begins span) }

  pub operand_same : (a : ℕ) (at lo hi : List ℕ) (c : Cell) → IsGrid (grid_at arrays a) → IsWalkOver arrays (walk a lo hi) → length at ≡ length (grid_at arrays a).shape → lo ≡ chunk_lo (grid_at arrays a).chunk at
      → IsSpan (grid_at arrays a).shape (grid_at arrays a).chunk lo hi → HaveSame (walk_cells arrays (walk a lo hi)) (chunk_where arrays a at) c
  operand_same a at lo hi c ok over long begins span =
      let g = grid_at arrays a in
      own_chunk arrays a lo hi at c ok over long begins (span_ends g.shape g.chunk at hi ok.positive long (subst (λ (ls : List ℕ). IsSpan g.shape g.chunk ls hi) begins span))

  -- ---- regions of a source that is reduced in groups

  module _ (grids : (a : ℕ) → a < length arrays → IsGrid (grid_at arrays a)) where
    pub folded_same : (f : ℕ → _) (source out : ℕ) (d : List ℕ) (c : Cell) → source < length arrays → out < length arrays
        → IsSqueezed (partial_grid (groups_of f (grid_at arrays source).chunk) (grid_at arrays source)) (grid_at arrays out) → IsCoordinate (grid_at arrays out) d
        → IsWalkOver arrays (partial_walk arrays (groups_of f (grid_at arrays source).chunk) source out (chunk_lo (grid_at arrays out).chunk d) (chunk_hi (grid_at arrays out).shape (grid_at arrays out).chunk d))
        → HaveSame (walk_cells arrays (partial_walk arrays (groups_of f (grid_at arrays source).chunk) source out (chunk_lo (grid_at arrays out).chunk d) (chunk_hi (grid_at arrays out).shape (grid_at arrays out).chunk d)))
        (chunk_where arrays source (source_coord arrays (groups_of f (grid_at arrays source).chunk) source out d)) c
    folded_same f source out d c ws wo q here over =
        let gs = groups_of f (grid_at arrays source).chunk in
        chunk_same source (box_sizes gs (grid_at arrays source).chunk) _ _ _ c (grids source ws) over (chunk_boxes f (grid_at arrays source).chunk)
        (partial_box arrays gs source out (chunk_ranks arrays f source (grids source ws)) q (grids source ws) (grids out wo) d here)

    pub folded_one : (f : ℕ → _) (source out : ℕ) (d : List ℕ) → source < length arrays → out < length arrays
        → IsSqueezed (partial_grid (groups_of f (grid_at arrays source).chunk) (grid_at arrays source)) (grid_at arrays out) → IsCoordinate (grid_at arrays out) d
        → IsOneChunk (grid_at arrays source) (partial_walk arrays (groups_of f (grid_at arrays source).chunk) source out (chunk_lo (grid_at arrays out).chunk d) (chunk_hi (grid_at arrays out).shape (grid_at arrays out).chunk d)).region
    folded_one f source out d ws wo q here =
        let g = grid_at arrays source in
        let gs = groups_of f g.chunk in
        let b = partial_box arrays gs source out (chunk_ranks arrays f source (grids source ws)) q (grids source ws) (grids out wo) d here in
        let e = chunk_boxes f g.chunk in
        record {
          coord = source_coord arrays gs source out d;
          long = b.long;
          begins = b.begins ∙ ap (λ (cs : List ℕ). chunk_lo cs (source_coord arrays gs source out d)) e;
          ends = b.ends ∙ ap (λ (cs : List ℕ). chunk_hi g.shape cs (source_coord arrays gs source out d)) e;
        }

    pub merged_same : (axis group source out : ℕ) (d : List ℕ) (c : Cell) → source < length arrays → out < length arrays → axis < length (grid_at arrays source).shape
        → IsSqueezed (partial_grid (merge_groups axis group (grid_at arrays source)) (grid_at arrays source)) (grid_at arrays out) → IsCoordinate (grid_at arrays out) d
        → HaveSame (walk_cells arrays (partial_walk arrays (merge_groups axis group (grid_at arrays source)) source out (chunk_lo (grid_at arrays out).chunk d) (chunk_hi (grid_at arrays out).shape (grid_at arrays out).chunk d)))
        (merged_chunks arrays axis group source out d) c
    merged_same axis group source out d c ws wo along q here =
        let g = grid_at arrays source in
        let gs = merge_groups axis group g in
        let b = partial_box arrays gs source out (merge_ranks arrays axis group source) q (grids source ws) (grids out wo) d here in
        let e : box_sizes gs g.chunk ≡ set g.chunk axis group = merge_boxes axis group g.shape g.chunk (grids source ws).ranks along in
        let lo = chunk_lo (grid_at arrays out).chunk d in
        let hi = chunk_hi (grid_at arrays out).shape (grid_at arrays out).chunk d in
        box_same source (set g.chunk axis group) (source_coord arrays gs source out d) _ _ c
        (subst (λ (sizes : List ℕ). IsBoxOf sizes g.shape (source_coord arrays gs source out d) (partial_walk arrays gs source out lo hi).region.lo (partial_walk arrays gs source out lo hi).region.hi) e b)
