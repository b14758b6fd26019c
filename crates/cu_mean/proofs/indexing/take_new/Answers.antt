use Rattle.std.proofs.Common.{◌++◌, ℕ, List, ap, drop, arith}
use Rattle.cu_mean.proofs.IndexEntries.{new_step}
use Rattle.cu_mean.proofs.indexing.take_new.Goals as goal

pub returns-clause-taken : goal.returns-clause-taken
returns-clause-taken c spare items =
    let f = c.args.front.now in
    ap (λ (rest : List ℕ). f.read ++ rest) (new_step spare items (drop f.axis c.args.shape.now) c.args.idx.now f.at (let r = c.rank.ensures.rank in let b = c.requires.at in omega arith))
