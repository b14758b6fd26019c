use Rattle.std.proofs.Common.{drop}
use Rattle.cu_mean.specs.Evenly.{IsSpan}
use Rattle.cu_mean.proofs.lines.span_of.Given as goal

abbrev pub invariant-loop-axis : goal.invariant-loop-axis
invariant-loop-axis l = IsSpan (drop l.axis l.dims) (drop l.axis l.start) (drop l.axis l.sizes) l.behind
