use Rattle.std.proofs.Common.{◌≡◌, ◌<◌, ◌≤◌, ◌*◌, drop}
use Rattle.cu_shape.specs.Index.{product}
use Rattle.cu_shape.specs.Counts.{at_least_one}
use Rattle.cu_shape.proofs.counts.is_above.Given as goal

abbrev pub invariant-loop-axis : goal.invariant-loop-axis
invariant-loop-axis l = record {
  positive : 0 < l.count;
  small : l.count ≤ l.limit;
  whole : product (at_least_one l.sizes) ≡ l.count * product (at_least_one (drop l.axis l.sizes));
}
