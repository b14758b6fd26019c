use Rattle.std.proofs.Common.{arith}
use Rattle.cu_mean.proofs.Steps.{inside_at}
use Rattle.cu_mean.proofs.views.rolled_at.Goals as goal

pub rolled_on-requires : goal.rolled_on-requires
rolled_on-requires c =
    let i = inside_at c.args.shape.now c.args.idx.now c.args.axis c.requires.inside c.requires.axis in
    let e = c.at.ensures in
    omega arith
