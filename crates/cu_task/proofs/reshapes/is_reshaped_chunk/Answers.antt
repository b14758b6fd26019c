use Rattle.std.proofs.Common.{◌≡◌, ◌<◌, ◌^◌, ℕ, List, sym, ap, ◌∙◌, subst, rules}
use Rattle.cu_shape.specs.Index.{product}
use Rattle.cu_grid.proofs.Covers.{bounds_of}
use Rattle.cu_op.specs.declared.layout.ArrayInfo.{ArrayInfo}
use Rattle.cu_view.proofs.Fitting.{counted}
use Rattle.cu_task.specs.Straight.{StandTogether}
use Rattle.cu_task.specs.ViewJobs.{view_task_of}
use Rattle.cu_task.specs.Views.{source_in}
use Rattle.cu_task.proofs.JobViews.{is_view, source_grid}
use Rattle.cu_task.proofs.ReshapedChunks.{small_region, reshaped_order}
use Rattle.cu_task.proofs.StraightReads.{on_equal}
use Rattle.cu_task.proofs.reshapes.is_reshaped_chunk.Goals as goal

pub product-requires : goal.product-requires
product-requires c = small_region c.args.chunk.now c.requires.chunk c.result_block-to.result.dims c.result_block-to.ensures.dims

pub sizes-requires : goal.sizes-requires
sizes-requires c =
    let b = bounds_of (source_in (view_task_of c.args.chunk.now.job.now) c.args.chunk.now.source).layout.grid.shape c.chunk_part-part.result.lo c.chunk_part-part.result.hi c.chunk_part-part.ensures.inside in
    b.lo_rank ∙ sym b.hi_rank

pub first_place-requires-clause-small : goal.first_place-requires-clause-small
first_place-requires-clause-small c =
    let made = c.shape.ensures.value ∙ ap (λ (a : ArrayInfo). a.layout.grid.shape) c.made_array-made.ensures in
    let view = is_view c.args.chunk.now.job.now c.requires.chunk.job c.shape.result.now made in
    counted c.shape.result.now view.result_size

pub first_place-requires-2-clause-small : goal.first_place-requires-2-clause-small
first_place-requires-2-clause-small c =
    let from = c.shape-2.ensures.value ∙ ap (λ (a : ArrayInfo). a.layout.grid.shape) c.source_array-from.ensures in
    let grid = source_grid c.args.chunk.now.job.now c.requires.chunk.job c.args.chunk.now.source c.requires.chunk.source in
    subst (λ (x : List ℕ). product x < 2 ^ 64) (sym from) (counted (source_in (view_task_of c.args.chunk.now.job.now) c.args.chunk.now.source).layout.grid.shape grid.elements)

pub returns-in-Some-first_place : goal.returns-in-Some-first_place
returns-in-Some-first_place c =
    let made = c.shape.ensures.value ∙ ap (λ (a : ArrayInfo). a.layout.grid.shape) c.made_array-made.ensures in
    let from = c.shape-2.ensures.value ∙ ap (λ (a : ArrayInfo). a.layout.grid.shape) c.source_array-from.ensures in
    let dims = c.chunk-dims.ensures.value ∙ ap (λ (a : ArrayInfo). a.layout.grid.chunk) c.source_array-from.ensures in
    let equal : c.sizes.result ≡ c.chunk-dims.result.now = c.is.ensures.0 (search rules) in
    let as_many : c.product.result ≡ c.product-2.result = search rules in
    let count = sym (ap product c.result_block-to.ensures.dims) ∙ sym c.product.ensures ∙ as_many ∙ c.product-2.ensures ∙ ap product dims in
    on_equal c.in-Some-first_place.start c.in-Some.first
    (λ same. reshaped_order c.args.chunk.now c.requires.chunk c.requires.reshape c.shape.result.now c.shape-2.result.now c.result_block-to.result.region c.chunk_part-part.result c.in-Some.first
    made from c.result_block-to.ensures.lo c.result_block-to.ensures.hi c.chunk_part-part.ensures (sym c.sizes.ensures ∙ equal ∙ dims) count c.in-Some.ensures
    (subst (StandTogether c.shape-2.result.now c.chunk_part-part.result) same c.in-Some-first_place.ensures))
