use Rattle.cu_check.specs.Plains.{AreNumbers}
use Rattle.cu_check.proofs.arrays.numbers_of.Given as goal

abbrev pub invariant-loop-at : goal.invariant-loop-at
invariant-loop-at l = AreNumbers l.dtype l.bytes l.at l.numbers.items
