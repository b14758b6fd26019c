use Rattle.std.proofs.Common.{◌≡◌, length, ap, arith}
use Rattle.cu_op.specs.Broadcast.{back_as}
use Rattle.cu_op.proofs.Broadcasting.{back_short}
use Rattle.cu_op.proofs.kinds.mul.batch_numbers.Goals as goal

pub returns-clause-short : goal.returns-clause-short
returns-clause-short c =
    let own : length c.back_as.result ≡ length (back_as c.args.one c.batch.result c.first.result) = ap length c.back_as.ensures in
    let most = back_short c.args.one c.batch.result c.first.result in
    let short = c.batch.ensures.short in
    omega (arith, own, most, short)
