use Rattle.cu_check.specs.Plains.{AreSameBelow}
use Rattle.cu_check.proofs.compare.compare.Given as goal

abbrev pub invariant-loop-place : goal.invariant-loop-place
invariant-loop-place l = AreSameBelow l.dtype l.bytes l.plain.cells l.place
