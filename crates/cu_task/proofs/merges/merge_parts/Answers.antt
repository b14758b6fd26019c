use Rattle.std.proofs.Common.{◌≡◌, ◌-◌, ◌*◌, ◌/◌, ℕ, List, get_or, length, refl, ap, sym, ◌∙◌, subst}
use Rattle.cu_kern.proofs.Parts.{size_positive}
use Rattle.cu_num.specs.Dtype.{size_of}
use Rattle.cu_num.specs.Element.{element_at}
use Rattle.cu_num.specs.declared.layout.Endian.TheVariants.{Little}
use Rattle.cu_num.specs.declared.types.Dtype.{Dtype}
use Rattle.cu_op.proofs.TaskCells.{region_lengths}
use Rattle.cu_op.specs.Arrays.{type_at}
use Rattle.cu_op.specs.TaskView.{walk_at}
use Rattle.cu_op.specs.Walks.{IsWalkOver}
use Rattle.cu_reduce.specs.Groups.{group_counts}
use Rattle.cu_reduce.specs.Kinds.{HasEnough}
use Rattle.cu_shape.specs.Index.{product, place_of}
use Rattle.cu_task.specs.Merges.{without_axis}
use Rattle.cu_task.proofs.PartCells.{ordered_at}
use Rattle.cu_task.proofs.PartGroups.{axis_groups, rows_count, rows_enough, rows_merged, rows_of, rows_results, HasMerged}
use Rattle.cu_task.proofs.PartMerges.{axis_within, rows_known, sizes_of, task_merge, times_over}
use Rattle.cu_task.proofs.merges.merge_parts.Goals as goal

pub dtype_of-dtype-requires : goal.dtype_of-dtype-requires
dtype_of-dtype-requires c =
    let task = c.args.task.now in
    let m = c.args.merge.now in
    let w = walk_at task 0 in
    let known = task_merge task c.input_walk-walk.ensures.sound m c.requires.merge.merge in
    known.made

pub at-requires : goal.at-requires
at-requires c =
    let task = c.args.task.now in
    let m = c.args.merge.now in
    let within = axis_within task c.input_walk-walk.ensures.sound m c.input_walk-walk.result c.requires.merge.merge c.input_walk-walk.ensures.walk c.input_walk-walk.ensures.over in
    within.1

pub at-requires-2 : goal.at-requires-2
at-requires-2 c =
    let task = c.args.task.now in
    let m = c.args.merge.now in
    let within = axis_within task c.input_walk-walk.ensures.sound m c.input_walk-walk.result c.requires.merge.merge c.input_walk-walk.ensures.walk c.input_walk-walk.ensures.over in
    within.0

pub overflow_sub-parts : goal.overflow_sub-parts
overflow_sub-parts c = rw (c.at.ensures, c.at-2.ensures) (ordered_at c.args.merge.now.axis _ _ _ c.input_walk-walk.ensures.over.1)

pub merge_region-requires-clause-types : goal.merge_region-requires-clause-types
merge_region-requires-clause-types c =
    let task = c.args.task.now in
    let m = c.args.merge.now in
    let w = walk_at task 0 in
    let known = task_merge task c.input_walk-walk.ensures.sound m c.requires.merge.merge in
    rw c.dtype_of-dtype.ensures known.types

pub merge_region-requires-clause-enough : goal.merge_region-requires-clause-enough
merge_region-requires-clause-enough c =
    let task = c.args.task.now in
    let m = c.args.merge.now in
    let w = walk_at task 0 in
    let known = task_merge task c.input_walk-walk.ensures.sound m c.requires.merge.merge in
    let acc = type_at task.plan.arrays m.out in
    let over = subst (IsWalkOver task.plan.arrays) c.input_walk-walk.ensures.walk c.input_walk-walk.ensures.over in
    let within = axis_within task c.input_walk-walk.ensures.sound m w c.requires.merge.merge refl over in
    let ranks = region_lengths _ _ _ over.1 in
    let long = c.requires.output ∙ known.output in
    let parts : c.at.result - c.at-2.result ≡ get_or w.region.hi m.axis 0 - get_or w.region.lo m.axis 0 = rw (c.at.ensures, c.at-2.ensures, c.input_walk-walk.ensures.walk) refl in
    let results : length c.args.output.now / c.from.result ≡ product (without_axis m.axis (sizes_of w)) = rw (c.from.ensures, c.size.ensures, c.dtype_of-dtype.ensures, long) (times_over (product (without_axis m.axis (sizes_of w))) (size_of acc) (size_positive acc)) in
    let rows : c.push-2.new.self ≡ rows_of m.axis (sizes_of w) = rw (c.push-2.ensures, c.push.ensures, c.default-rows.ensures) (rows_known m.axis _ _ w (ranks.1 ∙ sym ranks.0) within.0 parts results) in
    subst (λ (ds : List ℕ). HasEnough m.kind (axis_groups 0 ds) ds) (sym rows) (rows_enough m.axis (sizes_of w) known.along m.kind known.enough)

pub merge_region-requires-clause-input : goal.merge_region-requires-clause-input
merge_region-requires-clause-input c =
    let task = c.args.task.now in
    let m = c.args.merge.now in
    let w = walk_at task 0 in
    let known = task_merge task c.input_walk-walk.ensures.sound m c.requires.merge.merge in
    let acc = type_at task.plan.arrays m.out in
    let over = subst (IsWalkOver task.plan.arrays) c.input_walk-walk.ensures.walk c.input_walk-walk.ensures.over in
    let within = axis_within task c.input_walk-walk.ensures.sound m w c.requires.merge.merge refl over in
    let ranks = region_lengths _ _ _ over.1 in
    let long = c.requires.output ∙ known.output in
    let parts : c.at.result - c.at-2.result ≡ get_or w.region.hi m.axis 0 - get_or w.region.lo m.axis 0 = rw (c.at.ensures, c.at-2.ensures, c.input_walk-walk.ensures.walk) refl in
    let results : length c.args.output.now / c.from.result ≡ product (without_axis m.axis (sizes_of w)) = rw (c.from.ensures, c.size.ensures, c.dtype_of-dtype.ensures, long) (times_over (product (without_axis m.axis (sizes_of w))) (size_of acc) (size_positive acc)) in
    let rows : c.push-2.new.self ≡ rows_of m.axis (sizes_of w) = rw (c.push-2.ensures, c.push.ensures, c.default-rows.ensures) (rows_known m.axis _ _ w (ranks.1 ∙ sym ranks.0) within.0 parts results) in
    let count = rows_count m.axis (sizes_of w) known.along in
    rw (rows, c.dtype_of-dtype.ensures) (c.requires.input ∙ known.input ∙ ap (λ n. n * size_of acc) (sym count))

pub merge_region-requires-clause-out : goal.merge_region-requires-clause-out
merge_region-requires-clause-out c =
    let task = c.args.task.now in
    let m = c.args.merge.now in
    let w = walk_at task 0 in
    let known = task_merge task c.input_walk-walk.ensures.sound m c.requires.merge.merge in
    let acc = type_at task.plan.arrays m.out in
    let over = subst (IsWalkOver task.plan.arrays) c.input_walk-walk.ensures.walk c.input_walk-walk.ensures.over in
    let within = axis_within task c.input_walk-walk.ensures.sound m w c.requires.merge.merge refl over in
    let ranks = region_lengths _ _ _ over.1 in
    let long = c.requires.output ∙ known.output in
    let parts : c.at.result - c.at-2.result ≡ get_or w.region.hi m.axis 0 - get_or w.region.lo m.axis 0 = rw (c.at.ensures, c.at-2.ensures, c.input_walk-walk.ensures.walk) refl in
    let results : length c.args.output.now / c.from.result ≡ product (without_axis m.axis (sizes_of w)) = rw (c.from.ensures, c.size.ensures, c.dtype_of-dtype.ensures, long) (times_over (product (without_axis m.axis (sizes_of w))) (size_of acc) (size_positive acc)) in
    let rows : c.push-2.new.self ≡ rows_of m.axis (sizes_of w) = rw (c.push-2.ensures, c.push.ensures, c.default-rows.ensures) (rows_known m.axis _ _ w (ranks.1 ∙ sym ranks.0) within.0 parts results) in
    let count = rows_results m.axis (sizes_of w) known.along in
    subst (λ (ds : List ℕ). length c.args.output.now ≡ product (group_counts (axis_groups 0 ds) ds) * size_of c.dtype_of-dtype.result) (sym rows)
    (rw c.dtype_of-dtype.ensures (long ∙ ap (λ n. n * size_of acc) (sym count)))

pub returns-clause-values : goal.returns-clause-values
returns-clause-values c =
    let task = c.args.task.now in
    let m = c.args.merge.now in
    let w = walk_at task 0 in
    let known = task_merge task c.input_walk-walk.ensures.sound m c.requires.merge.merge in
    let acc = type_at task.plan.arrays m.out in
    let over = subst (IsWalkOver task.plan.arrays) c.input_walk-walk.ensures.walk c.input_walk-walk.ensures.over in
    let within = axis_within task c.input_walk-walk.ensures.sound m w c.requires.merge.merge refl over in
    let ranks = region_lengths _ _ _ over.1 in
    let long = c.requires.output ∙ known.output in
    let parts : c.at.result - c.at-2.result ≡ get_or w.region.hi m.axis 0 - get_or w.region.lo m.axis 0 = rw (c.at.ensures, c.at-2.ensures, c.input_walk-walk.ensures.walk) refl in
    let results : length c.args.output.now / c.from.result ≡ product (without_axis m.axis (sizes_of w)) = rw (c.from.ensures, c.size.ensures, c.dtype_of-dtype.ensures, long) (times_over (product (without_axis m.axis (sizes_of w))) (size_of acc) (size_positive acc)) in
    let rows : c.push-2.new.self ≡ rows_of m.axis (sizes_of w) = rw (c.push-2.ensures, c.push.ensures, c.default-rows.ensures) (rows_known m.axis _ _ w (ranks.1 ∙ sym ranks.0) within.0 parts results) in
    let first = subst (λ (ds : List ℕ). HasMerged m.kind c.dtype_of-dtype.result 0 ds (λ i. element_at Little c.dtype_of-dtype.result c.args.input.now (place_of ds i)) c.merge_region.new.out) rows c.merge_region.ensures in
    let second = subst (λ (t : Dtype). HasMerged m.kind t 0 (rows_of m.axis (sizes_of w)) (λ i. element_at Little t c.args.input.now (place_of (rows_of m.axis (sizes_of w)) i)) c.merge_region.new.out) c.dtype_of-dtype.ensures first in
    let merged = rows_merged m.axis (sizes_of w) known.along m.kind acc c.args.input.now c.merge_region.new.out second in
    λ at reads. known.values at c.args.input.now c.merge_region.new.out reads merged

pub returns-clause-elements : goal.returns-clause-elements
returns-clause-elements c =
    let task = c.args.task.now in
    let m = c.args.merge.now in
    let w = walk_at task 0 in
    let known = task_merge task c.input_walk-walk.ensures.sound m c.requires.merge.merge in
    let acc = type_at task.plan.arrays m.out in
    let over = subst (IsWalkOver task.plan.arrays) c.input_walk-walk.ensures.walk c.input_walk-walk.ensures.over in
    let within = axis_within task c.input_walk-walk.ensures.sound m w c.requires.merge.merge refl over in
    let ranks = region_lengths _ _ _ over.1 in
    let long = c.requires.output ∙ known.output in
    let parts : c.at.result - c.at-2.result ≡ get_or w.region.hi m.axis 0 - get_or w.region.lo m.axis 0 = rw (c.at.ensures, c.at-2.ensures, c.input_walk-walk.ensures.walk) refl in
    let results : length c.args.output.now / c.from.result ≡ product (without_axis m.axis (sizes_of w)) = rw (c.from.ensures, c.size.ensures, c.dtype_of-dtype.ensures, long) (times_over (product (without_axis m.axis (sizes_of w))) (size_of acc) (size_positive acc)) in
    let rows : c.push-2.new.self ≡ rows_of m.axis (sizes_of w) = rw (c.push-2.ensures, c.push.ensures, c.default-rows.ensures) (rows_known m.axis _ _ w (ranks.1 ∙ sym ranks.0) within.0 parts results) in
    let first = subst (λ (ds : List ℕ). HasMerged m.kind c.dtype_of-dtype.result 0 ds (λ i. element_at Little c.dtype_of-dtype.result c.args.input.now (place_of ds i)) c.merge_region.new.out) rows c.merge_region.ensures in
    let second = subst (λ (t : Dtype). HasMerged m.kind t 0 (rows_of m.axis (sizes_of w)) (λ i. element_at Little t c.args.input.now (place_of (rows_of m.axis (sizes_of w)) i)) c.merge_region.new.out) c.dtype_of-dtype.ensures first in
    let merged = rows_merged m.axis (sizes_of w) known.along m.kind acc c.args.input.now c.merge_region.new.out second in
    known.elements _ c.merge_region.new.out (c.merge_region.auto.out ∙ c.requires.output) merged
