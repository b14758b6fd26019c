use Rattle.std.proofs.Common.{◌≡◌, length, max, sym, ap, ◌∙◌, arith}
use Rattle.cu_shape.specs.Index.{axis_by_axis}
use Rattle.cu_shape.proofs.Axes.{axis_by_axis_from}
use Rattle.cu_codec.proofs.Shared.{ranks_of}
use Rattle.cu_print.proofs.reads.first_in.Goals as goal

pub at-requires : goal.at-requires
at-requires c =
    let r = (ranks_of c.args.grid.now c.args.coord.now c.args.region.now.lo c.args.region.now.hi c.chunk_region-own.ensures.kept c.requires.meets.0 c.requires.region).a_rank in
    let e = ap length c.chunk_region-own.ensures.lo in
    omega arith

pub returns : goal.returns
returns c =
    let r = (ranks_of c.args.grid.now c.args.coord.now c.args.region.now.lo c.args.region.now.hi c.chunk_region-own.ensures.kept c.requires.meets.0 c.requires.region).a_rank in
    let long : length c.chunk_region-own.result.lo ≡ length c.args.region.now.lo = ap length c.chunk_region-own.ensures.lo ∙ r in
    axis_by_axis_from max c.loop-axis.first c.chunk_region-own.result.lo c.args.region.now.lo (c.loop-axis.invariant.rank ∙ sym long) long (λ k b. c.loop-axis.invariant.done k (omega arith))
    ∙ ap (λ a. axis_by_axis max a c.args.region.now.lo) c.chunk_region-own.ensures.lo
