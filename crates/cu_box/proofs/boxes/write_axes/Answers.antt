use Rattle.std.proofs.Common.{◌≡◌, ◌-◌, ℕ, drop, subst, arith}
use Rattle.cu_shape.proofs.Places.{inside-positive}
use Rattle.cu_box.specs.StridedSteps.{box_axes}
use Rattle.cu_box.proofs.BoxAxes.{product_behind, corner_inside, axes_step, none_axes}
use Rattle.cu_box.proofs.boxes.write_axes.Goals as goal

pub loop-axis-init : goal.loop-axis-init
loop-axis-init c =
    let p = c.args.placing.now in
    let n = none_axes p.sizes p.from p.to c.args.axes.now c.rank-rank.result c.requires.box_from.shape_rank c.requires.box_to.shape_rank c.requires.ranks (omega arith) in
    record { from = n.0; to = n.1; written = n.2 }

pub overflow_mul-from : goal.overflow_mul-from
overflow_mul-from c =
    let p = c.args.placing.now in
    let r = c.requires.ranks in
    let step = axes_step p.sizes p.from p.to c.loop-axis.axes c.loop-axis.axis c.at-count.result c.at-read.result c.at-written.result c.loop-axis.from c.loop-axis.to
    (omega arith) (omega arith) c.requires.box_from.shape_rank c.requires.box_to.shape_rank (omega arith) c.at-count.ensures c.at-read.ensures c.at-written.ensures
    c.loop-axis.invariant.from c.loop-axis.invariant.to c.loop-axis.invariant.written in
    let low = product_behind p.from (c.loop-axis.axis - 1) (inside-positive p.from p.start (corner_inside p.sizes p.from p.start c.requires.box_from c.requires.some)) in
    let small = c.requires.from_small in
    omega (arith, step.1, low, small)

pub overflow_mul-to : goal.overflow_mul-to
overflow_mul-to c =
    let p = c.args.placing.now in
    let r = c.requires.ranks in
    let step = axes_step p.sizes p.from p.to c.loop-axis.axes c.loop-axis.axis c.at-count.result c.at-read.result c.at-written.result c.loop-axis.from c.loop-axis.to
    (omega arith) (omega arith) c.requires.box_from.shape_rank c.requires.box_to.shape_rank (omega arith) c.at-count.ensures c.at-read.ensures c.at-written.ensures
    c.loop-axis.invariant.from c.loop-axis.invariant.to c.loop-axis.invariant.written in
    let low = product_behind p.to (c.loop-axis.axis - 1) (inside-positive p.to p.corner (corner_inside p.sizes p.to p.corner c.requires.box_to c.requires.some)) in
    let small = c.requires.to_small in
    omega (arith, step.2, low, small)

pub loop-axis-preserved : goal.loop-axis-preserved
loop-axis-preserved c =
    let p = c.args.placing.now in
    let r = c.requires.ranks in
    let step = axes_step p.sizes p.from p.to c.loop-axis.axes c.loop-axis.axis c.at-count.result c.at-read.result c.at-written.result c.loop-axis.from c.loop-axis.to
    (omega arith) (omega arith) c.requires.box_from.shape_rank c.requires.box_to.shape_rank (omega arith) c.at-count.ensures c.at-read.ensures c.at-written.ensures
    c.loop-axis.invariant.from c.loop-axis.invariant.to c.loop-axis.invariant.written in
    record { from = step.1; to = step.2; written = step.0 }

pub returns : goal.returns
returns c =
    let p = c.args.placing.now in
    let none : c.loop-axis.axis ≡ 0 = omega arith in
    subst (λ (k : ℕ). drop k c.loop-axis.axes ≡ box_axes (drop k p.sizes) (drop k p.from) (drop k p.to)) none c.loop-axis.invariant.written
