use Rattle.std.proofs.Common.{◌≡◌, ◌++◌, ◌-◌, drop, map, take}
use Rattle.cu_lower_view.specs.Runs.{whole_run}
use Rattle.cu_lower_view.proofs.entries.with_whole.Given as goal

abbrev pub invariant-loop-axis : goal.invariant-loop-axis
invariant-loop-axis l = record {
  whole : l.fn.runs.items ++ map whole_run (take l.count (drop l.first l.sizes)) ≡ l.runs.items ++ map whole_run (take (l.end - l.axis) (drop l.axis l.sizes));
}
