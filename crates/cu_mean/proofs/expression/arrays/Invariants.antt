use Rattle.cu_mean.specs.Going.{IsGoing}
use Rattle.cu_mean.proofs.expression.arrays.Given as goal

abbrev pub invariant-loop-number : goal.invariant-loop-number
invariant-loop-number l = IsGoing l.expr l.infos.items l.fn.inputs l.number l.rest.items l.plains.items
