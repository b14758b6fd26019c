use Rattle.std.proofs.Common.{◌-◌, refl, ◌∙◌, sym, arith}
use Rattle.cu_shape.proofs.Axes.{length-axis_by_axis}
use Rattle.cu_shape.proofs.Places.{inside-length}
use Rattle.cu_shape.specs.Index.{differences}
use Rattle.cu_grid.proofs.Covers.{bounds_of}
use Rattle.cu_view_box.proofs.Reshapes.{region_inside_shape}
use Rattle.cu_view_box.proofs.gathering.reshape_gather.Goals as goal

pub is_empty-requires : goal.is_empty-requires
is_empty-requires c =
    let b = bounds_of c.args.shape.now c.args.to.now.region.lo c.args.to.now.region.hi c.requires.to_region in
    record { rank = b.hi_rank ∙ sym b.lo_rank }

pub run_axis-requires-clause-lo_rank : goal.run_axis-requires-clause-lo_rank
run_axis-requires-clause-lo_rank c = (bounds_of c.args.shape.now c.args.to.now.region.lo c.args.to.now.region.hi c.requires.to_region).lo_rank

pub run_axis-requires-clause-hi_rank : goal.run_axis-requires-clause-hi_rank
run_axis-requires-clause-hi_rank c = (bounds_of c.args.shape.now c.args.to.now.region.lo c.args.to.now.region.hi c.requires.to_region).hi_rank

pub run_axis-requires-clause-dims_rank : goal.run_axis-requires-clause-dims_rank
run_axis-requires-clause-dims_rank c =
    let lo = c.args.to.now.region.lo in
    let b = bounds_of c.args.shape.now c.args.to.now.region.lo c.args.to.now.region.hi c.requires.to_region in
    let i = inside-length c.args.to.now.dims (differences lo lo) (c.requires.to_block.inside lo c.if-not-is_empty.ensures.some) in
    sym i ∙ (length-axis_by_axis (λ i j. i - j) lo lo refl ∙ b.lo_rank)

pub gather_part-requires-clause-part : goal.gather_part-requires-clause-part
gather_part-requires-clause-part c = record {
  some = c.if-not-is_empty.ensures.some;
  inside = λ idx w. region_inside_shape c.args.shape.now c.args.to.now.region.lo c.args.to.now.region.hi idx c.requires.to_region w;
  of_result = λ idx w. w;
}

pub gather_part-requires-clause-end : goal.gather_part-requires-clause-end
gather_part-requires-clause-end c =
    let b = (bounds_of c.args.shape.now c.args.to.now.region.lo c.args.to.now.region.hi c.requires.to_region).lo_rank in
    let e = c.run_axis.ensures.below in
    omega (arith, b, e)

pub gather_part-requires-clause-single : goal.gather_part-requires-clause-single
gather_part-requires-clause-single c = λ k b off. absurd (omega arith)
