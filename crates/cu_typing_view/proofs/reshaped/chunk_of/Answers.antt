use Rattle.std.proofs.Common.{◌≡◌, rules}
use Rattle.cu_typing_view.specs.Reshaped.{chunk_of}
use Rattle.cu_typing_view.proofs.PositiveSizes.{positive-chunk_of}
use Rattle.cu_typing_view.proofs.reshaped.chunk_of.Goals as goal

pub returns-clause-positive : goal.returns-clause-positive
returns-clause-positive c =
    let e : c.loop-axis.chunk ≡ chunk_of c.args.count c.args.sizes.now = search rules in
    rw e (positive-chunk_of c.args.count c.args.sizes.now)
