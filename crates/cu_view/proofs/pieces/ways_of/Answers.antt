use Rattle.std.proofs.Common.{arith}
use Rattle.cu_view.proofs.Comes.{ways_read}
use Rattle.cu_view.proofs.pieces.ways_of.Goals as goal

pub returns-clause-reads : goal.returns-clause-reads
returns-clause-reads c = λ idx h e i.
    let n = c.loop-axis.invariant.count in
    ways_read c.args.pull.now c.args.sources.now c.args.shape.now c.args.source.now c.args.region.now.lo idx c.args.number c.loop-axis.ways.items (omega arith) h e
    (λ k b. c.loop-axis.invariant.reads k (omega arith)) i
