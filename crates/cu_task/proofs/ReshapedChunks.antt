-- Regions of a reshape's result that are a chunk of its source.
use Rattle.std.proofs.Common.{◌≡◌, ℕ, ◌+◌, ◌<◌, ◌^◌, List, [], get_or, refl, sym, ap, ◌∙◌, subst, arith}
use Rattle.cu_shape.specs.Index.{product, place_of, index_at, quotients, remainders, sums, products, differences, IsInside}
use Rattle.cu_shape.proofs.Places.{place-below, index-inside, place-index, index-place}
use Rattle.cu_grid.specs.Counts.{IsWithin}
use Rattle.cu_grid.specs.declared.region.Region.{Region}
use Rattle.cu_grid.proofs.Regions.{coordinate-length}
use Rattle.cu_codec.specs.Parts.{place_within}
use Rattle.cu_codec.proofs.Shared.{within_sizes}
use Rattle.cu_codec.proofs.Taken.{region_in_array}
use Rattle.cu_origin.specs.Pull.{origin_of}
use Rattle.cu_origin.specs.declared.provenance.Provenance.TheVariants.{From}
use Rattle.cu_origin.specs.declared.pull.Pull.{Pull as View}
use Rattle.cu_origin.specs.declared.pull.Pull.TheVariants.{Reshape}
use Rattle.cu_view.proofs.Fitting.{counted}
use Rattle.cu_view.proofs.Shares.{only_first}
use Rattle.cu_op.specs.Arrays.{grid_at}
use Rattle.cu_task.specs.Straight.{IsInOrder, StandsInChunk, StandTogether}
use Rattle.cu_task.specs.ViewJobs.{IsSourceChunk, IsChunkRegion, view_task_of}
use Rattle.cu_task.specs.Views.{source_in, origin_in}
use Rattle.cu_task.specs.declared.views.SourceChunk.{SourceChunk}
use Rattle.cu_task.proofs.JobViews.{is_view, origin_passed, shape_at, shape_count, source_grid}
use Rattle.cu_task.proofs.StraightReads.{shifted_place}
use Rattle.cu_task.proofs.Together.{few_in_region, from_first}

-- the task's region has no more elements than an array has
pub small_region : (chunk : SourceChunk) → IsSourceChunk chunk → (dims : List ℕ) → dims ≡ differences (view_task_of chunk.job.now).hi (view_task_of chunk.job.now).lo → product dims < 2 ^ 64
small_region chunk h dims sizes =
    let view = is_view chunk.job.now h.job (grid_at (view_task_of chunk.job.now).arrays (view_task_of chunk.job.now).out).shape refl in
    let few = few_in_region (grid_at (view_task_of chunk.job.now).arrays (view_task_of chunk.job.now).out).shape (view_task_of chunk.job.now).lo (view_task_of chunk.job.now).hi h.job.region in
    let all = counted (grid_at (view_task_of chunk.job.now).arrays (view_task_of chunk.job.now).out).shape view.result_size in
    let same = ap product sizes in
    omega (arith, few, all, same)

module _ (chunk : SourceChunk) (h : IsSourceChunk chunk) (reshape : chunk.job.now.pull.now ≡ Reshape) where
  -- the only source
  only_source : chunk.source ≡ 0
  only_source =
      let view = is_view chunk.job.now h.job (grid_at (view_task_of chunk.job.now).arrays (view_task_of chunk.job.now).out).shape refl in
      let one = only_first chunk.job.now.pull.now chunk.job.now.shapes.now (grid_at (view_task_of chunk.job.now).arrays (view_task_of chunk.job.now).out).shape reshape view.fits in
      let count = shape_count chunk.job.now h.job in
      let below = h.source in
      omega (arith, one, count, below)

  -- the index of the source at the same place
  from_place : (shape source idx : List ℕ) → shape ≡ (grid_at (view_task_of chunk.job.now).arrays (view_task_of chunk.job.now).out).shape
      → source ≡ (source_in (view_task_of chunk.job.now) chunk.source).layout.grid.shape
      → origin_in (view_task_of chunk.job.now) idx ≡ From chunk.source (index_at source (place_of shape idx))
  from_place shape source idx made from =
      let first : get_or chunk.job.now.shapes.now 0 [] ≡ source
      = ap (λ (s : ℕ). get_or chunk.job.now.shapes.now s []) (sym only_source) ∙ shape_at chunk.job.now h.job chunk.source h.source ∙ sym from in
      sym (origin_passed chunk.job.now h.job shape made idx)
      ∙ ap (λ (pull : View). origin_of pull chunk.job.now.shapes.now shape idx) reshape
      ∙ ap (λ (x : List ℕ). From 0 (index_at x (place_of shape idx))) first
      ∙ ap (λ (s : ℕ). From s (index_at source (place_of shape idx))) (sym only_source)

  pub reshaped_order : (shape source : List ℕ) (out part : Region) (first : ℕ) → shape ≡ (grid_at (view_task_of chunk.job.now).arrays (view_task_of chunk.job.now).out).shape
      → source ≡ (source_in (view_task_of chunk.job.now) chunk.source).layout.grid.shape → out.lo ≡ (view_task_of chunk.job.now).lo → out.hi ≡ (view_task_of chunk.job.now).hi → IsChunkRegion chunk part
      → differences part.hi part.lo ≡ (source_in (view_task_of chunk.job.now) chunk.source).layout.grid.chunk
      → product (differences (view_task_of chunk.job.now).hi (view_task_of chunk.job.now).lo) ≡ product (source_in (view_task_of chunk.job.now) chunk.source).layout.grid.chunk
      → StandTogether shape out first → StandTogether source part first → IsInOrder chunk
  reshaped_order shape source out part first made from low high region sizes count of_out of_part = record {
    count = count;
    stands = λ idx w.
        stands idx w
        (let below = place-below (differences (view_task_of chunk.job.now).hi (view_task_of chunk.job.now).lo) (differences idx (view_task_of chunk.job.now).lo) (within_sizes (view_task_of chunk.job.now).lo (view_task_of chunk.job.now).hi idx w) in omega (arith, below, count));
  }
    where
      stands : (idx : List ℕ) → IsWithin (view_task_of chunk.job.now).lo (view_task_of chunk.job.now).hi idx
          → place_within (view_task_of chunk.job.now).lo (view_task_of chunk.job.now).hi idx < product (source_in (view_task_of chunk.job.now) chunk.source).layout.grid.chunk → StandsInChunk chunk idx
      stands idx w below =
          let far = index_at (source_in (view_task_of chunk.job.now) chunk.source).layout.grid.chunk (place_within (view_task_of chunk.job.now).lo (view_task_of chunk.job.now).hi idx) in
          let inside : IsInside (source_in (view_task_of chunk.job.now) chunk.source).layout.grid.chunk far = index-inside (source_in (view_task_of chunk.job.now) chunk.source).layout.grid.chunk _ below in
          let place : place_of (source_in (view_task_of chunk.job.now) chunk.source).layout.grid.chunk far ≡ place_within (view_task_of chunk.job.now).lo (view_task_of chunk.job.now).hi idx
          = place-index (source_in (view_task_of chunk.job.now) chunk.source).layout.grid.chunk _ below in
          let in_source = region.inside in
          let own = from_first (source_in (view_task_of chunk.job.now) chunk.source).layout.grid.shape part.lo part.hi far in_source (subst (λ (x : List ℕ). IsInside x far) (sym sizes) inside) in
          let there : place_within part.lo part.hi (sums part.lo far) ≡ place_within (view_task_of chunk.job.now).lo (view_task_of chunk.job.now).hi idx
          = ap (place_of (differences part.hi part.lo)) own.1 ∙ ap (λ (x : List ℕ). place_of x far) sizes ∙ place in
          let here : place_within out.lo out.hi idx ≡ place_within (view_task_of chunk.job.now).lo (view_task_of chunk.job.now).hi idx
          = ap (λ (x : List ℕ). place_within x out.hi idx) low ∙ ap (λ (x : List ℕ). place_within (view_task_of chunk.job.now).lo x idx) high in
          let within : IsWithin out.lo out.hi idx = rw (low, high) w in
          let same : place_of shape idx ≡ place_of source (sums part.lo far)
          = of_out idx within ∙ ap (λ (n : ℕ). first + n) (here ∙ sym there) ∙ sym (of_part (sums part.lo far) own.0) in
          let index_inside : IsInside source (sums part.lo far)
          = subst (λ (x : List ℕ). IsInside x (sums part.lo far)) (sym from) (region_in_array (source_in (view_task_of chunk.job.now) chunk.source).layout.grid.shape part.lo part.hi (sums part.lo far) in_source own.0) in
          let ok = source_grid chunk.job.now h.job chunk.source h.source in
          let rank = coordinate-length (source_in (view_task_of chunk.job.now) chunk.source).layout.grid chunk.coord ok h.coordinate ∙ sym ok.ranks in
          let at = shifted_place (source_in (view_task_of chunk.job.now) chunk.source).layout.grid.chunk chunk.coord far rank inside in
          let moved : sums part.lo far ≡ sums (products chunk.coord (source_in (view_task_of chunk.job.now) chunk.source).layout.grid.chunk) far = ap (λ (x : List ℕ). sums x far) region.lo in
          record {
            index = sums part.lo far;
            origin = from_place shape source idx made from ∙ ap (λ (i : List ℕ). From chunk.source i) (ap (index_at source) same ∙ index-place source (sums part.lo far) index_inside);
            part = ap (λ (i : List ℕ). quotients i (source_in (view_task_of chunk.job.now) chunk.source).layout.grid.chunk) moved ∙ at.0;
            place = sym place ∙ ap (place_of (source_in (view_task_of chunk.job.now) chunk.source).layout.grid.chunk) (sym (ap (λ (i : List ℕ). remainders i (source_in (view_task_of chunk.job.now) chunk.source).layout.grid.chunk) moved ∙ at.1));
          }
