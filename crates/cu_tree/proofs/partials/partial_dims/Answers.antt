use Rattle.std.proofs.Common.{◌≡◌, ◌+◌, arith}
use Rattle.cu_tree.proofs.Sizes.{dims_from}
use Rattle.cu_tree.proofs.partials.partial_dims.Goals as goal

pub returns : goal.returns
returns c =
    let n = c.rank-axis-end.ensures.rank in
    dims_from c.args.axes 0 c.loop-axis.dims c.args.source.now.dims c.args.source.now.chunk c.loop-axis.invariant.rank c.requires.ranks
    (λ k l. let z : 0 + k ≡ k = omega arith in rw z (c.loop-axis.invariant.front k (omega arith)))
