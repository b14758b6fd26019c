use Rattle.std.proofs.Common.{arith}
use Rattle.std.proofs.lemmas.List.FromFn.{fill_by_all}
use Rattle.cu_typing.specs.Joined.{aligned_on}
use Rattle.cu_typing.proofs.joining.chunk_aligned.Goals as goal

pub returns-clause-chunk : goal.returns-clause-chunk
returns-clause-chunk c =
    fill_by_all (aligned_on c.args.shape.now c.args.chunk.now c.args.i.now) c.loop-axis.aligned _ 0 c.loop-axis.invariant.ranks
    (λ k h. c.loop-axis.invariant.done k (omega arith))
