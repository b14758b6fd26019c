use Rattle.std.proofs.Common.{◌≡◌, length, ap, arith}
use Rattle.cu_shape.proofs.Places.{inside-length}
use Rattle.cu_view.specs.Pieces.{ranges_of}
use Rattle.cu_view.proofs.Rolls.{length-ranges}
use Rattle.cu_view.proofs.ways.rolled_way.Goals as goal

pub at-requires : goal.at-requires
at-requires c =
    let n = inside-length c.ranges-2.result c.index_of-chosen.result c.index_of-chosen.ensures.inside in
    let e : length c.ranges-2.result ≡ length (ranges_of c.args.shifts.now c.args.shape.now) = ap length c.ranges-2.ensures in
    let m = length-ranges c.args.shifts.now c.args.shape.now in
    omega arith
