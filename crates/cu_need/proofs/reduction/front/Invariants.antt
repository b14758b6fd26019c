use Rattle.std.proofs.Common.{◌≡◌, take}
use Rattle.cu_need.proofs.reduction.front.Given as goal

abbrev pub invariant-loop-axis : goal.invariant-loop-axis
invariant-loop-axis l = l.front ≡ take l.axis l.sizes
