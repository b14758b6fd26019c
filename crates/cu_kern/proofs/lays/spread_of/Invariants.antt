use Rattle.std.proofs.Common.{◌≡◌, ◌≤◌, length}
use Rattle.cu_kern.proofs.Spreads.{SpreadsFrom}
use Rattle.cu_kern.proofs.lays.spread_of.Given as goal

abbrev pub invariant-loop-axis : goal.invariant-loop-axis
invariant-loop-axis l = record {
  within : l.axis ≤ length l.dims;
  ranks : length l.shape ≡ length l.dims;
  spreads : SpreadsFrom l.shape l.dims l.axis l.own l.run;
}

abbrev pub decreases-loop-axis : goal.decreases-loop-axis
decreases-loop-axis l = l.axis
