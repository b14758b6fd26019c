use Rattle.std.proofs.Common.{arith}
use Rattle.cu_grid.proofs.Covers.{spans_from}
use Rattle.cu_grid.proofs.cover.spans.Goals as goal

pub returns : goal.returns
returns c = spans_from c.loop-axis.spans c.args.lo.now c.args.hi.now c.args.chunk.now c.loop-axis.invariant.ranks c.requires.lo_rank c.requires.hi_rank
    (λ k h. c.loop-axis.invariant.done k (omega arith))
