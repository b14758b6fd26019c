-- The front of a chunk: its rows along the first axis, up to one of them.
use Rattle.std.proofs.Common.{◌≡◌, ℕ, suc, ◌+◌, ◌-◌, ◌*◌, ◌%◌, ◌≤◌, min, max, List, [], ◌∷◌, length, set, get_or, refl, sym, ap, ◌∙◌, subst, arith}
use Rattle.std.proofs.lemmas.Nat.{mul-le, mod-mul-add}
use Rattle.cu_num.specs.Dtype.{size_of}
use Rattle.cu_num.specs.declared.types.Dtype.{Dtype}
use Rattle.cu_shape.specs.Index.{product, place_of, remainders, differences, IsInside}
use Rattle.cu_shape.proofs.Places.{place-below}
use Rattle.cu_grid.specs.Counts.{IsRegion, IsWithin, chunk_lo, chunk_hi}
use Rattle.cu_grid.specs.Grid.{IsInChunk}
use Rattle.cu_grid.proofs.Parting.{lies_within}
use Rattle.cu_codec.proofs.Shared.{chunk_rest, chunk_rest_inside}
use Rattle.cu_origin.specs.declared.provenance.Provenance.TheVariants.{From}
use Rattle.cu_view_box.specs.declared.block.Block.{Block}
use Rattle.cu_kern.proofs.Parts.{size_positive}
use Rattle.cu_op.proofs.TaskCells.{region_lengths}
use Rattle.cu_task.specs.ViewJobs.{IsSourceChunk, IsFront, view_task_of}
use Rattle.cu_task.specs.Views.{source_in, origin_in, IsOfChunk}
use Rattle.cu_task.specs.declared.views.SourceChunk.{SourceChunk}
use Rattle.cu_task.proofs.JobViews.{source_grid, fitting, chunk_of_region}
use Rattle.cu_task.proofs.ViewChunks.{origin_inside}
use Rattle.cu_task.proofs.ViewElements.{IsInFront}

-- a region, and the sizes of a buffer for it, that end sooner, but not before what is needed
pub record IsCut (lo hi dims need_lo need_hi cut_hi cut_dims : List ℕ) : Type 0 where
  pub region : (shape : List ℕ) → IsRegion shape lo hi → IsRegion shape lo cut_hi
  pub within : (i : List ℕ) → IsWithin lo cut_hi i → IsWithin lo hi i
  pub needed : (i : List ℕ) → IsWithin lo hi i → IsWithin need_lo need_hi i → IsWithin lo cut_hi i
  pub inside : (i : List ℕ) → IsWithin lo cut_hi i → IsInside dims (differences i lo) → IsInside cut_dims (differences i lo)
  pub place : (i : List ℕ) → place_of cut_dims i ≡ place_of dims i
  pub few : product cut_dims ≤ product dims

pub not_cut : (lo hi dims need_lo need_hi : List ℕ) → IsCut lo hi dims need_lo need_hi hi dims
not_cut lo hi dims need_lo need_hi = record {
  region = λ shape r. r;
  within = λ i w. w;
  needed = λ i w n. w;
  inside = λ i w x. x;
  place = λ i. refl;
  few = omega arith;
}

-- ---- cut along the first axis

cut_region : (shape lo hi : List ℕ) (end : ℕ) → get_or lo 0 0 ≤ end → end ≤ get_or hi 0 0 → IsRegion shape lo hi → IsRegion shape lo (set hi 0 end)
cut_region [] [] [] end low high r = tt
cut_region [] [] (h ∷ hi) end low high r = absurd r
cut_region [] (l ∷ lo) hi end low high r = absurd r
cut_region (n ∷ ns) [] hi end low high r = absurd r
cut_region (n ∷ ns) (l ∷ lo) [] end low high r = absurd r
cut_region (n ∷ ns) (l ∷ lo) (h ∷ hi) end low high r = let most = r.1 in (low, omega arith, r.2)

cut_within : (lo hi i : List ℕ) (end : ℕ) → end ≤ get_or hi 0 0 → IsWithin lo (set hi 0 end) i → IsWithin lo hi i
cut_within lo [] i end high w = w
cut_within [] (h ∷ hi) i end high w = absurd w
cut_within (l ∷ lo) (h ∷ hi) [] end high w = absurd w
cut_within (l ∷ lo) (h ∷ hi) (x ∷ i) end high w = let below = w.1 in (w.0, omega arith, w.2)

cut_needed : (lo hi need_lo need_hi i : List ℕ) (end : ℕ) → min (get_or hi 0 0) (get_or need_hi 0 0) ≤ end → IsWithin lo hi i → IsWithin need_lo need_hi i → IsWithin lo (set hi 0 end) i
cut_needed lo [] need_lo need_hi i end most w n = w
cut_needed [] (h ∷ hi) need_lo need_hi i end most w n = absurd w
cut_needed (l ∷ lo) (h ∷ hi) need_lo need_hi [] end most w n = absurd w
cut_needed (l ∷ lo) (h ∷ hi) [] [] (x ∷ i) end most w n = absurd n
cut_needed (l ∷ lo) (h ∷ hi) [] (b ∷ need_hi) (x ∷ i) end most w n = absurd n
cut_needed (l ∷ lo) (h ∷ hi) (a ∷ need_lo) [] (x ∷ i) end most w n = absurd n
cut_needed (l ∷ lo) (h ∷ hi) (a ∷ need_lo) (b ∷ need_hi) (x ∷ i) end most w n = let below = w.1 in let before = n.1 in (w.0, omega arith, w.2)

cut_inside : (lo hi dims i : List ℕ) (end : ℕ) → IsWithin lo (set hi 0 end) i → IsInside dims (differences i lo) → IsInside (set dims 0 (end - get_or lo 0 0)) (differences i lo)
cut_inside lo hi [] i end w x = x
cut_inside [] hi (d ∷ dims) [] end w x = absurd x
cut_inside [] hi (d ∷ dims) (y ∷ i) end w x = absurd x
cut_inside (l ∷ lo) hi (d ∷ dims) [] end w x = absurd x
cut_inside (l ∷ lo) [] (d ∷ dims) (y ∷ i) end w x = absurd w
cut_inside (l ∷ lo) (h ∷ hi) (d ∷ dims) (y ∷ i) end w x = let low = w.0 in let below = w.1 in (omega arith, x.1)

cut_place : (dims i : List ℕ) (rows : ℕ) → place_of (set dims 0 rows) i ≡ place_of dims i
cut_place [] i rows = refl
cut_place (d ∷ dims) [] rows = refl
cut_place (d ∷ dims) (y ∷ i) rows = refl

cut_few : (dims : List ℕ) (rows : ℕ) → rows ≤ get_or dims 0 0 → product (set dims 0 rows) ≤ product dims
cut_few [] rows few = omega arith
cut_few (d ∷ dims) rows few = mul-le rows (product dims) d (product dims) few (omega arith)

pub cut_first : (lo hi dims need_lo need_hi : List ℕ) (end : ℕ) → get_or lo 0 0 ≤ end → end ≤ get_or hi 0 0 → min (get_or hi 0 0) (get_or need_hi 0 0) ≤ end → end - get_or lo 0 0 ≤ get_or dims 0 0
    → IsCut lo hi dims need_lo need_hi (set hi 0 end) (set dims 0 (end - get_or lo 0 0))
cut_first lo hi dims need_lo need_hi end low high most few = record {
  region = λ shape r. cut_region shape lo hi end low high r;
  within = λ i w. cut_within lo hi i end high w;
  needed = λ i w n. cut_needed lo hi need_lo need_hi i end most w n;
  inside = λ i w x. cut_inside lo hi dims i end w x;
  place = λ i. cut_place dims i (end - get_or lo 0 0);
  few = cut_few dims (end - get_or lo 0 0) few;
}

-- a chunk has no more rows than its size
pub chunk_rows : (shape chunk coord lo hi : List ℕ) → lo ≡ chunk_lo chunk coord → hi ≡ chunk_hi shape chunk coord → get_or hi 0 0 - get_or lo 0 0 ≤ get_or chunk 0 0
chunk_rows shape chunk coord lo hi low high = rw (low, high) (rows shape chunk coord)
  where
    rows : (shape chunk coord : List ℕ) → get_or (chunk_hi shape chunk coord) 0 0 - get_or (chunk_lo chunk coord) 0 0 ≤ get_or chunk 0 0
    rows shape chunk [] = omega arith
    rows shape [] (q ∷ coord) = omega arith
    rows [] (c ∷ chunk) (q ∷ coord) = omega arith
    rows (n ∷ shape) (c ∷ chunk) (q ∷ coord) = omega arith

-- ---- the front of a chunk of a source

pub is_front : (chunk : SourceChunk) → IsSourceChunk chunk → (b front : Block)
    → b.region.lo ≡ chunk_lo (source_in (view_task_of chunk.job.now) chunk.source).layout.grid.chunk chunk.coord
    → b.region.hi ≡ chunk_hi (source_in (view_task_of chunk.job.now) chunk.source).layout.grid.shape (source_in (view_task_of chunk.job.now) chunk.source).layout.grid.chunk chunk.coord
    → IsRegion (source_in (view_task_of chunk.job.now) chunk.source).layout.grid.shape b.region.lo b.region.hi
    → b.dims ≡ (source_in (view_task_of chunk.job.now) chunk.source).layout.grid.chunk → b.dtype ≡ (source_in (view_task_of chunk.job.now) chunk.source).layout.dtype
    → front.region.lo ≡ b.region.lo → front.dtype ≡ b.dtype → IsCut b.region.lo b.region.hi b.dims chunk.needed.lo chunk.needed.hi front.region.hi front.dims → IsFront chunk front
is_front chunk h b front low high region sizes dt from same cut =
    let grid = source_grid chunk.job.now h.job chunk.source h.source in
    let of_region : (i : List ℕ) → IsWithin front.region.lo front.region.hi i → IsWithin b.region.lo b.region.hi i
    = λ i w. cut.within i (subst (λ (x : List ℕ). IsWithin x front.region.hi i) from w) in
    let own : (i : List ℕ) → IsWithin front.region.lo front.region.hi i → IsInChunk (source_in (view_task_of chunk.job.now) chunk.source).layout.grid chunk.coord i
    = λ i w. rw (low, high) at (of_region i w) in
    let rest : (i : List ℕ) → IsWithin front.region.lo front.region.hi i → differences i b.region.lo ≡ remainders i (source_in (view_task_of chunk.job.now) chunk.source).layout.grid.chunk
    = λ i w. ap (differences i) low ∙ chunk_rest (source_in (view_task_of chunk.job.now) chunk.source).layout.grid chunk.coord i grid h.coordinate (own i w) in
    record {
      dtype = same ∙ dt;
      inside = subst (λ (x : List ℕ). IsRegion (source_in (view_task_of chunk.job.now) chunk.source).layout.grid.shape x front.region.hi) (sym from) (cut.region (source_in (view_task_of chunk.job.now) chunk.source).layout.grid.shape region);
      of_chunk = λ i w. chunk_of_region chunk.job.now h.job chunk.source chunk.coord i b.region.lo b.region.hi h.source h.coordinate low high (of_region i w);
      needed = λ i inside part near.
          let here : IsInChunk (source_in (view_task_of chunk.job.now) chunk.source).layout.grid chunk.coord i = subst (λ (x : List ℕ). IsInChunk (source_in (view_task_of chunk.job.now) chunk.source).layout.grid x i) part (lies_within (source_in (view_task_of chunk.job.now) chunk.source).layout.grid i grid inside) in
          let w : IsWithin b.region.lo b.region.hi i = rw (low, high) here in
          subst (λ (x : List ℕ). IsWithin x front.region.hi i) (sym from) (cut.needed i w near);
      places = λ i w.
          let inside : IsInside b.dims (differences i b.region.lo) = rw (sizes, rest i w) (chunk_rest_inside (source_in (view_task_of chunk.job.now) chunk.source).layout.grid chunk.coord i grid h.coordinate (own i w)) in (
            subst (λ (x : List ℕ). IsInside front.dims (differences i x)) (sym from) (cut.inside i (subst (λ (x : List ℕ). IsWithin x front.region.hi i) from w) inside),
            ap (λ (x : List ℕ). place_of front.dims (differences i x)) from ∙ cut.place (differences i b.region.lo) ∙ ap (λ (x : List ℕ). place_of x (differences i b.region.lo)) sizes
                ∙ ap (place_of (source_in (view_task_of chunk.job.now) chunk.source).layout.grid.chunk) (rest i w),
          );
      within = subst (λ (x : List ℕ). product front.dims ≤ product x) sizes cut.few;
    }

-- as many axes everywhere
pub record HasRanks (chunk : SourceChunk) (b : Block) : Type 0 where
  pub lo : length b.region.lo ≡ length b.dims
  pub hi : length b.region.hi ≡ length b.dims
  pub needed : length chunk.needed.hi ≡ length b.dims

pub has_ranks : (chunk : SourceChunk) → IsSourceChunk chunk → (b : Block) → IsRegion (source_in (view_task_of chunk.job.now) chunk.source).layout.grid.shape b.region.lo b.region.hi
    → b.dims ≡ (source_in (view_task_of chunk.job.now) chunk.source).layout.grid.chunk → HasRanks chunk b
has_ranks chunk h b region sizes =
    let rank = ap length sizes ∙ (source_grid chunk.job.now h.job chunk.source h.source).ranks in
    let own = region_lengths _ _ _ region in
    let need = region_lengths _ _ _ h.hull.0 in
    record { lo = own.0 ∙ sym rank; hi = own.1 ∙ sym rank; needed = need.1 ∙ sym rank }

region_rises : (shape lo hi : List ℕ) → IsRegion shape lo hi → get_or lo 0 0 ≤ get_or hi 0 0
region_rises [] [] [] r = omega arith
region_rises [] [] (h ∷ hi) r = absurd r
region_rises [] (l ∷ lo) hi r = absurd r
region_rises (n ∷ ns) [] hi r = absurd r
region_rises (n ∷ ns) (l ∷ lo) [] r = absurd r
region_rises (n ∷ ns) (l ∷ lo) (h ∷ hi) r = r.0

-- the rows up to the last one that is needed
pub rows_of_chunk : (chunk : SourceChunk) → IsSourceChunk chunk → (b front : Block)
    → b.region.lo ≡ chunk_lo (source_in (view_task_of chunk.job.now) chunk.source).layout.grid.chunk chunk.coord
    → b.region.hi ≡ chunk_hi (source_in (view_task_of chunk.job.now) chunk.source).layout.grid.shape (source_in (view_task_of chunk.job.now) chunk.source).layout.grid.chunk chunk.coord
    → IsRegion (source_in (view_task_of chunk.job.now) chunk.source).layout.grid.shape b.region.lo b.region.hi
    → b.dims ≡ (source_in (view_task_of chunk.job.now) chunk.source).layout.grid.chunk → b.dtype ≡ (source_in (view_task_of chunk.job.now) chunk.source).layout.dtype
    → front.region.lo ≡ b.region.lo → front.dtype ≡ b.dtype → (end rows : ℕ) → front.region.hi ≡ set b.region.hi 0 end → front.dims ≡ set b.dims 0 rows
    → end ≡ max (min (get_or b.region.hi 0 0) (get_or chunk.needed.hi 0 0)) (get_or b.region.lo 0 0) → rows ≡ end - get_or b.region.lo 0 0 → IsFront chunk front
rows_of_chunk chunk h b front low high region sizes dt from same end rows cut less is counts =
    let rises = region_rises (source_in (view_task_of chunk.job.now) chunk.source).layout.grid.shape b.region.lo b.region.hi region in
    let most : get_or b.region.hi 0 0 - get_or b.region.lo 0 0 ≤ get_or b.dims 0 0 = rw sizes
    (chunk_rows (source_in (view_task_of chunk.job.now) chunk.source).layout.grid.shape (source_in (view_task_of chunk.job.now) chunk.source).layout.grid.chunk chunk.coord b.region.lo b.region.hi low high) in
    is_front chunk h b front low high region sizes dt from same
    (rw (cut, less, counts) (cut_first b.region.lo b.region.hi b.dims chunk.needed.lo chunk.needed.hi end (omega arith) (omega arith) (omega arith) (omega arith)))

-- each element that comes from the chunk lies in a buffer of the front
pub in_front : (chunk : SourceChunk) → (h : IsSourceChunk chunk) → (front : Block) → IsFront chunk front → (buf : List ℕ) → length buf ≡ product front.dims * size_of front.dtype
    → (idx i : List ℕ) → IsWithin (view_task_of chunk.job.now).lo (view_task_of chunk.job.now).hi idx → origin_in (view_task_of chunk.job.now) idx ≡ From chunk.source i
    → IsOfChunk (view_task_of chunk.job.now) chunk.source chunk.coord i → IsInFront (view_task_of chunk.job.now) chunk.source buf i
in_front chunk h front f buf long idx i w o part =
    let own = origin_inside (view_task_of chunk.job.now) (fitting chunk.job.now h.job) idx i chunk.source w o in
    let there = f.places i (f.needed i own.inside part (h.hull.1 idx i w o)) in
    let below = place-below front.dims (differences i front.region.lo) there.0 in
    let far : suc (place_of front.dims (differences i front.region.lo)) * size_of front.dtype ≤ product front.dims * size_of front.dtype
    = mul-le _ (size_of front.dtype) (product front.dims) (size_of front.dtype) below (omega arith) in
    rw (← there.1, ← f.dtype) (omega (arith, far, long))

-- it has room where the chunk has
pub front_room : (chunk : SourceChunk) → (front : Block) → IsFront chunk front
    → product front.dims * size_of front.dtype ≤ product (source_in (view_task_of chunk.job.now) chunk.source).layout.grid.chunk * size_of (source_in (view_task_of chunk.job.now) chunk.source).layout.dtype
front_room chunk front f =
    rw f.dtype (mul-le (product front.dims) (size_of (source_in (view_task_of chunk.job.now) chunk.source).layout.dtype) (product (source_in (view_task_of chunk.job.now) chunk.source).layout.grid.chunk) (size_of (source_in (view_task_of chunk.job.now) chunk.source).layout.dtype) f.within (omega arith))

-- its bytes are whole elements
pub front_whole : (t : Dtype) (count n : ℕ) → n ≡ count * size_of t → n % size_of t ≡ 0
front_whole t count n e =
    let more : count * size_of t ≡ count * size_of t + 0 = omega arith in
    ap (λ m. m % size_of t) (e ∙ more) ∙ mod-mul-add count (size_of t) 0 (size_positive t)
