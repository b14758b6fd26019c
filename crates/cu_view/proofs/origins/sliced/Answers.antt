use Rattle.std.proofs.Common.{arith}
use Rattle.cu_view.proofs.Taken.{runs-length}
use Rattle.cu_view.proofs.origins.sliced.Goals as goal

pub counts_of_runs-requires : goal.counts_of_runs-requires
counts_of_runs-requires c = let n = runs-length c.args.runs.now c.args.source.now c.requires.runs in omega arith
