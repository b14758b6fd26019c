use Rattle.std.proofs.Common.{arith}
use Rattle.std.proofs.lemmas.List.FromFn.{fill_by_all}
use Rattle.cu_typing.specs.Joined.{arrays_of, joined_chunk_on}
use Rattle.cu_typing.proofs.joining.chunk_joined.Goals as goal

pub returns-clause-chunk : goal.returns-clause-chunk
returns-clause-chunk c =
    fill_by_all (joined_chunk_on c.args.shape.now (arrays_of c.args.args.now)) c.loop-axis.chunk _ 0 c.loop-axis.invariant.ranks
    (λ k h. c.loop-axis.invariant.done k (omega arith))
