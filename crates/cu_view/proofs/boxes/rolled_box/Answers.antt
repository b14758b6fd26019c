use Rattle.std.proofs.Common.{◌≡◌, ℕ, List, length, ap, ◌∙◌, arith}
use Rattle.cu_shape.specs.Index.{index_at}
use Rattle.cu_shape.proofs.Places.{inside-length}
use Rattle.cu_view.specs.Pieces.{ranges_of}
use Rattle.cu_view.proofs.Rolls.{rolled_region, rolled_exactly, length-ranges}
use Rattle.cu_view.proofs.boxes.rolled_box.Goals as goal

pub at-stays-requires : goal.at-stays-requires
at-stays-requires c =
    let n = inside-length c.ranges-2.result c.index_of-chosen.result c.index_of-chosen.ensures.inside in
    let e : length c.ranges-2.result ≡ length (ranges_of c.args.shifts.now c.args.shape.now) = ap length c.ranges-2.ensures in
    let m = length-ranges c.args.shifts.now c.args.shape.now in
    omega arith

pub returns-clause-region : goal.returns-clause-region
returns-clause-region c =
    rolled_region c.args.shifts.now c.args.shape.now c.index_of-chosen.result c.loop-axis.region.lo c.loop-axis.region.hi
    (record { lo_rank = c.loop-axis.invariant.lo_rank; hi_rank = c.loop-axis.invariant.hi_rank; begins = λ d l. c.loop-axis.invariant.begins d (omega arith); ends = λ d l. c.loop-axis.invariant.ends d (omega arith) })

pub returns-clause-exactly : goal.returns-clause-exactly
returns-clause-exactly c =
    rolled_exactly c.args.shifts.now c.args.shape.now c.index_of-chosen.result c.loop-axis.region.lo c.loop-axis.region.hi c.args.number
    (record { lo_rank = c.loop-axis.invariant.lo_rank; hi_rank = c.loop-axis.invariant.hi_rank; begins = λ d l. c.loop-axis.invariant.begins d (omega arith); ends = λ d l. c.loop-axis.invariant.ends d (omega arith) })
    c.requires.number (c.index_of-chosen.ensures.index ∙ ap (λ (x : List ℕ). index_at x c.args.number) c.ranges-2.ensures)
