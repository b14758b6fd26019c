use Rattle.std.proofs.Common.{◌++◌, drop, length-append, length-drop, arith}
use Rattle.cu_mean.proofs.IndexEntries.{outside_long}
use Rattle.cu_mean.proofs.indexing.with_rest.Goals as goal

pub returns-then-rank-front-gt-MOST_AXES : goal.returns-then-rank-front-gt-MOST_AXES
returns-then-rank-front-gt-MOST_AXES c =
    let f = c.args.front.now in
    outside_long (f.read ++ drop f.at c.args.idx.now) (omega (arith, length-append f.read (drop f.at c.args.idx.now), length-drop f.at c.args.idx.now))
