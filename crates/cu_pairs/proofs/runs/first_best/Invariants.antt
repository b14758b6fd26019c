use Rattle.std.proofs.Common.{◌*◌, min}
use Rattle.cu_pairs.specs.Runs.{elements, IsFirstBest}
use Rattle.cu_pairs.proofs.runs.first_best.Given as goal

abbrev pub invariant-loop-block : goal.invariant-loop-block
invariant-loop-block l = IsFirstBest l.least (elements l.t l.bytes) (min (l.block * 64) l.count) l.best
