use Rattle.cu_num.specs.Element.{element_at}
use Rattle.cu_num.specs.declared.layout.Endian.TheVariants.{Little}
use Rattle.cu_pairs.specs.Runs.{elements, IsBestValue}
use Rattle.cu_pairs.proofs.runs.best_value.Given as goal

abbrev pub invariant-loop-at : goal.invariant-loop-at
invariant-loop-at l = IsBestValue l.least (elements l.t l.bytes) l.at (element_at Little l.t l.best 0)
