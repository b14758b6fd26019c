use Rattle.cu_pairs.specs.Runs.{elements, TellsBeyond}
use Rattle.cu_pairs.proofs.runs.has_beyond.Given as goal

abbrev pub invariant-loop-at : goal.invariant-loop-at
invariant-loop-at l = TellsBeyond l.any l.least (elements l.t l.bytes) l.at l.x
