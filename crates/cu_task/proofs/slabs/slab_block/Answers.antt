use Rattle.std.proofs.Common.{◌≡◌, ℕ, List, get_or, ap, ◌∙◌, arith}
use Rattle.cu_task.proofs.SlabPlaces.{ends_before, some_axis}
use Rattle.cu_task.specs.ViewJobs.{view_task_of}
use Rattle.cu_task.proofs.slabs.slab_block.Goals as goal

pub at-lo-requires : goal.at-lo-requires
at-lo-requires c = rw c.result_block-rows.ensures.lo c.requires.axis

pub at-hi-requires : goal.at-hi-requires
at-hi-requires c = rw c.result_block-rows.ensures.hi (some_axis _ _ _ c.requires.job.region c.requires.axis).0

pub overflow_add-lo : goal.overflow_add-lo
overflow_add-lo c =
    let v = view_task_of c.args.job.now in
    let ends = ends_before _ v.lo v.hi c.args.end c.requires.job.region c.requires.axis c.requires.end in
    let lo : c.at-lo.result ≡ get_or v.lo 0 0 = c.at-lo.ensures ∙ ap (λ (x : List ℕ). get_or x 0 0) c.result_block-rows.ensures.lo in
    let hi : c.at-hi.result ≡ get_or v.hi 0 0 = c.at-hi.ensures ∙ ap (λ (x : List ℕ). get_or x 0 0) c.result_block-rows.ensures.hi in
    omega (arith, ends, lo, hi, c.requires.first)

pub overflow_add-lo-2 : goal.overflow_add-lo-2
overflow_add-lo-2 c =
    let v = view_task_of c.args.job.now in
    let ends = ends_before _ v.lo v.hi c.args.end c.requires.job.region c.requires.axis c.requires.end in
    let lo : c.at-lo.result ≡ get_or v.lo 0 0 = c.at-lo.ensures ∙ ap (λ (x : List ℕ). get_or x 0 0) c.result_block-rows.ensures.lo in
    let hi : c.at-hi.result ≡ get_or v.hi 0 0 = c.at-hi.ensures ∙ ap (λ (x : List ℕ). get_or x 0 0) c.result_block-rows.ensures.hi in
    omega (arith, ends, lo, hi)

pub put-requires-2 : goal.put-requires-2
put-requires-2 c = rw c.result_block-rows.ensures.hi (some_axis _ _ _ c.requires.job.region c.requires.axis).0

pub put-requires-3 : goal.put-requires-3
put-requires-3 c = rw c.result_block-rows.ensures.dims (some_axis _ _ _ c.requires.job.region c.requires.axis).1
