use Rattle.std.proofs.Common.{◌≡◌, ◌++◌, ◌-◌, drop, length, map, take}
use Rattle.cu_lower_view.specs.Runs.{whole_run}
use Rattle.cu_lower_view.proofs.entries.whole_pull.Given as goal

-- the runs so far, and those of the axes that are left
abbrev pub invariant-loop-axis : goal.invariant-loop-axis
invariant-loop-axis l = record {
  whole : map whole_run l.source ≡ l.runs.items ++ map whole_run (take (l.axis-end - l.axis) (drop l.axis l.source));
  count : length l.runs.items ≡ l.axis;
}
