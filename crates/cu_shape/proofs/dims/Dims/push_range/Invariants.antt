use Rattle.std.proofs.Common.{◌≡◌, ◌+◌, ◌-◌, ◌≤◌, ◌++◌, length}
use Rattle.std.specs.List.{slice_range}
use Rattle.cu_shape.proofs.dims.Dims.push_range.Given as goal

abbrev pub invariant-loop-axis : goal.invariant-loop-axis
invariant-loop-axis l = record {
  room : length l.self + (l.end - l.axis) ≤ 6;
  copied : l.self ++ slice_range l.from l.axis l.end ≡ l.initial.self ++ slice_range l.from l.initial.axis l.end;
}
