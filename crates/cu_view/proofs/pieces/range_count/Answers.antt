use Rattle.std.proofs.Common.{◌≡◌, ap, arith}
use Rattle.cu_shape.specs.Index.{product}
use Rattle.cu_view.specs.Pieces.{ranges_of}
use Rattle.cu_view.proofs.Rolls.{few_ranges}
use Rattle.cu_view.proofs.pieces.range_count.Goals as goal

pub returns-in-None : goal.returns-in-None
returns-in-None c =
    let n = few_ranges c.args.shifts.now c.args.shape.now (omega arith) in
    let e : product c.ranges-2.result ≡ product (ranges_of c.args.shifts.now c.args.shape.now) = ap product c.ranges-2.ensures in
    let h = c.in-None.ensures.counted.1 (omega arith) in
    cc
