use Rattle.std.proofs.Common.{◌≡◌, ◌+◌, arith}
use Rattle.cu_tree.proofs.Sizes.{chunk_from}
use Rattle.cu_tree.proofs.partials.partial_chunk.Goals as goal

pub returns : goal.returns
returns c =
    let n = c.rank-axis-end.ensures.rank in
    chunk_from c.args.axes 0 c.loop-axis.sizes c.args.chunk.now c.loop-axis.invariant.rank
    (λ k l. let z : 0 + k ≡ k = omega arith in rw z (c.loop-axis.invariant.front k (omega arith)))
