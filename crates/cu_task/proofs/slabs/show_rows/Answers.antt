use Rattle.std.proofs.Common.{◌≡◌, ◌*◌, ℕ, List, refl, ap, sym, ◌∙◌, subst, arith}
use Rattle.cu_grid.specs.Counts.{IsWithin, IsRegion}
use Rattle.cu_num.specs.Dtype.{size_of}
use Rattle.cu_num.specs.Element.{bytes_at, element_at, element_bytes}
use Rattle.cu_num.specs.declared.layout.Endian.TheVariants.{Little}
use Rattle.cu_num.specs.declared.types.Dtype.{Dtype}
use Rattle.cu_op.specs.Arrays.{grid_at}
use Rattle.cu_op.specs.declared.layout.ArrayInfo.{ArrayInfo}
use Rattle.cu_origin.specs.declared.provenance.Provenance.{Provenance}
use Rattle.cu_origin.specs.declared.provenance.Provenance.TheVariants.{From, Const}
use Rattle.cu_region.specs.Writing.{AreElements}
use Rattle.cu_shape.specs.Index.{differences, place_of, product}
use Rattle.cu_task.proofs.JobViews.{fitting, is_view, origin_passed, region_in_shape, shape_count}
use Rattle.cu_task.proofs.SlabPlaces.{slab_inside, slab_region, slab_within}
use Rattle.cu_task.proofs.SlabReads.{only_place}
use Rattle.cu_task.proofs.ViewChunks.{no_number, origin_inside}
use Rattle.cu_task.specs.Slabs.{bytes_shown, number_shown, slab_dims, slab_hi, slab_lo, view_type}
use Rattle.cu_task.specs.ViewJobs.{source_of_chunk, view_of_chunk}
use Rattle.cu_task.specs.Views.{origin_in}
use Rattle.cu_task.proofs.slabs.show_rows.Goals as goal

pub slab_block-rows-requires-clause-job : goal.slab_block-rows-requires-clause-job
slab_block-rows-requires-clause-job c = c.requires.chunk.of_source.job

pub lay_constants-requires-clause-view : goal.lay_constants-requires-clause-view
lay_constants-requires-clause-view c = is_view c.args.job.now.chunk.now.job.now c.requires.chunk.of_source.job c.shape-shape.result.now (c.shape-shape.ensures.value ∙ ap (λ (a : ArrayInfo). a.layout.grid.shape) c.made_array-made.ensures)

-- the rows are a region of the result
region_of : (shape own lo hi slo shi : List ℕ) (first end : ℕ) → shape ≡ own → lo ≡ slo → hi ≡ shi → IsRegion own slo shi → IsRegion shape lo hi
region_of shape own lo hi slo shi first end e f g r = rw (e, f, g) r

pub lay_constants-requires-clause-to_region : goal.lay_constants-requires-clause-to_region
lay_constants-requires-clause-to_region c =
    let v = view_of_chunk c.args.job.now.chunk.now in
    let rows = c.slab_block-rows.ensures in
    region_of c.shape-shape.result.now (grid_at v.arrays v.out).shape _ _ (slab_lo v c.args.first) (slab_hi v c.args.end) c.args.first c.args.end
    (c.shape-shape.ensures.value ∙ ap (λ (a : ArrayInfo). a.layout.grid.shape) c.made_array-made.ensures) rows.lo rows.hi
    (slab_region (grid_at v.arrays v.out).shape v.lo v.hi c.args.first c.args.end c.requires.chunk.of_source.job.region c.requires.first c.requires.end)

pub lay_constants-requires-clause-to_block : goal.lay_constants-requires-clause-to_block
lay_constants-requires-clause-to_block c =
    let v = view_of_chunk c.args.job.now.chunk.now in
    let rows = c.slab_block-rows.ensures in
    record {
      inside = λ idx w.
          let own : IsWithin (slab_lo v c.args.first) (slab_hi v c.args.end) idx = rw (rows.lo, rows.hi) at w in
          rw (rows.dims, rows.lo) (slab_inside v.lo v.hi idx c.args.first c.args.end own);
      long = c.requires.strip ∙ ap (λ (ds : List ℕ). product ds * size_of (view_type c.args.job.now.chunk.now)) (sym rows.dims) ∙ ap (λ (t : Dtype). product c.slab_block-rows.result.dims * size_of t) (sym rows.dtype);
    }

pub gather-requires-clause-view : goal.gather-requires-clause-view
gather-requires-clause-view c = is_view c.args.job.now.chunk.now.job.now c.requires.chunk.of_source.job c.shape-shape.result.now (c.shape-shape.ensures.value ∙ ap (λ (a : ArrayInfo). a.layout.grid.shape) c.made_array-made.ensures)

pub gather-requires-clause-source : goal.gather-requires-clause-source
gather-requires-clause-source c =
    let n = shape_count c.args.job.now.chunk.now.job.now c.requires.chunk.of_source.job in
    let low = c.requires.chunk.of_source.source in
    omega (arith, n, low)

pub gather-requires-clause-from_region : goal.gather-requires-clause-from_region
gather-requires-clause-from_region c =
    region_in_shape c.args.job.now.chunk.now.job.now c.requires.chunk.of_source.job c.args.job.now.chunk.now.source c.args.job.now.front.region.lo c.args.job.now.front.region.hi c.requires.chunk.of_source.source c.requires.read.inside

pub gather-requires-clause-to_region : goal.gather-requires-clause-to_region
gather-requires-clause-to_region c =
    let v = view_of_chunk c.args.job.now.chunk.now in
    let rows = c.slab_block-rows.ensures in
    region_of c.shape-shape.result.now (grid_at v.arrays v.out).shape _ _ (slab_lo v c.args.first) (slab_hi v c.args.end) c.args.first c.args.end
    (c.shape-shape.ensures.value ∙ ap (λ (a : ArrayInfo). a.layout.grid.shape) c.made_array-made.ensures) rows.lo rows.hi
    (slab_region (grid_at v.arrays v.out).shape v.lo v.hi c.args.first c.args.end c.requires.chunk.of_source.job.region c.requires.first c.requires.end)

pub gather-requires-clause-from_block : goal.gather-requires-clause-from_block
gather-requires-clause-from_block c = record { inside = λ idx w. (c.requires.read.places idx w).0; long = c.requires.front }

pub gather-requires-clause-to_block : goal.gather-requires-clause-to_block
gather-requires-clause-to_block c =
    let v = view_of_chunk c.args.job.now.chunk.now in
    let rows = c.slab_block-rows.ensures in
    record {
      inside = λ idx w.
          let own : IsWithin (slab_lo v c.args.first) (slab_hi v c.args.end) idx = rw (rows.lo, rows.hi) at w in
          rw (rows.dims, rows.lo) (slab_inside v.lo v.hi idx c.args.first c.args.end own);
      long = c.lay_constants.ensures.same_length ∙ c.requires.strip ∙ ap (λ (ds : List ℕ). product ds * size_of (view_type c.args.job.now.chunk.now)) (sym rows.dims) ∙ ap (λ (t : Dtype). product c.slab_block-rows.result.dims * size_of t) (sym rows.dtype);
    }

pub gather-requires-clause-spelled : goal.gather-requires-clause-spelled
gather-requires-clause-spelled c same = subst (λ (t : Dtype). AreElements t c.args.front.now) (sym c.requires.read.dtype) c.requires.elements

-- the bytes of an element of the rows, by the words of a block
same_strip : (t u : Dtype) (dims ds lo sl buf idx : List ℕ) → t ≡ u → dims ≡ ds → lo ≡ sl
    → bytes_at t buf (place_of dims (differences idx lo)) ≡ bytes_at u buf (place_of ds (differences idx sl))
same_strip t u dims ds lo sl buf idx e f g = rw (e, f, g) refl

pub returns : goal.returns
returns c idx w = by_origin (origin_in (view_of_chunk c.args.job.now.chunk.now) idx) refl
  where
    by_origin : (o : Provenance) → origin_in (view_of_chunk c.args.job.now.chunk.now) idx ≡ o
        → bytes_at (view_type c.args.job.now.chunk.now) c.gather.new.output (place_of (slab_dims (view_of_chunk c.args.job.now.chunk.now) c.args.first c.args.end) (differences idx (slab_lo (view_of_chunk c.args.job.now.chunk.now) c.args.first)))
        ≡ bytes_shown c.args.job.now.chunk.now c.args.front.now idx
    by_origin (From s i) e =
        let chunk = c.args.job.now.chunk.now in
        let v = view_of_chunk c.args.job.now.chunk.now in
        let h = c.requires.chunk.of_source in
        let rows = c.slab_block-rows.ensures in
        let from = c.requires.read in
        let shape = c.shape-shape.ensures.value ∙ ap (λ (a : ArrayInfo). a.layout.grid.shape) c.made_array-made.ensures in
        let own = slab_within v.lo v.hi idx c.args.first c.args.end c.requires.end w in
        let (same, part) = only_place c.args.job.now.chunk.now c.requires.chunk idx i s own e in
        let o = e ∙ ap (λ (n : ℕ). From n i) (sym same) in
        let inside = (origin_inside (view_of_chunk c.args.job.now.chunk.now) (fitting c.args.job.now.chunk.now.job.now c.requires.chunk.of_source.job) idx i c.args.job.now.chunk.now.source own o).inside in
        let here = from.needed i inside part (h.hull.1 idx i own o) in
        let within : IsWithin c.slab_block-rows.result.region.lo c.slab_block-rows.result.region.hi idx = rw (rows.lo, rows.hi) w in
        sym (same_strip c.slab_block-rows.result.dtype (view_type c.args.job.now.chunk.now) c.slab_block-rows.result.dims _ c.slab_block-rows.result.region.lo _ c.gather.new.output idx rows.dtype rows.dims rows.lo)
        ∙ c.gather.ensures.moved idx i within (origin_passed c.args.job.now.chunk.now.job.now c.requires.chunk.of_source.job c.shape-shape.result.now shape idx ∙ o) here
        ∙ ap (λ (t : Dtype). element_bytes Little t (element_at Little c.args.job.now.front.dtype c.args.front.now (place_of c.args.job.now.front.dims (differences i c.args.job.now.front.region.lo)))) rows.dtype
        ∙ ap (λ (t : Dtype). element_bytes Little (view_type c.args.job.now.chunk.now) (element_at Little t c.args.front.now (place_of c.args.job.now.front.dims (differences i c.args.job.now.front.region.lo)))) from.dtype
        ∙ ap (λ (n : ℕ). element_bytes Little (view_type c.args.job.now.chunk.now) (element_at Little (source_of_chunk c.args.job.now.chunk.now).layout.dtype c.args.front.now n)) (from.places i here).1
        ∙ sym (ap (λ (p : Provenance). element_bytes Little (view_type c.args.job.now.chunk.now) (number_shown c.args.job.now.chunk.now c.args.front.now p)) e)
    by_origin (Const x) e =
        let v = view_of_chunk c.args.job.now.chunk.now in
        let rows = c.slab_block-rows.ensures in
        let shape = c.shape-shape.ensures.value ∙ ap (λ (a : ArrayInfo). a.layout.grid.shape) c.made_array-made.ensures in
        let passed = origin_passed c.args.job.now.chunk.now.job.now c.requires.chunk.of_source.job c.shape-shape.result.now shape idx in
        let within : IsWithin c.slab_block-rows.result.region.lo c.slab_block-rows.result.region.hi idx = rw (rows.lo, rows.hi) w in
        sym (same_strip c.slab_block-rows.result.dtype (view_type c.args.job.now.chunk.now) c.slab_block-rows.result.dims _ c.slab_block-rows.result.region.lo _ c.gather.new.output idx rows.dtype rows.dims rows.lo)
        ∙ c.gather.ensures.others idx within (λ i o there. no_number c.args.job.now.chunk.now.source i x (sym (sym passed ∙ o) ∙ e))
        ∙ c.lay_constants.ensures.laid idx x within (passed ∙ e)
        ∙ ap (λ (t : Dtype). element_bytes Little t x) rows.dtype
        ∙ sym (ap (λ (p : Provenance). element_bytes Little (view_type c.args.job.now.chunk.now) (number_shown c.args.job.now.chunk.now c.args.front.now p)) e)
