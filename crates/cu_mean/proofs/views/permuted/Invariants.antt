use Rattle.std.proofs.Common.{◌≡◌, map, length, pos}
use Rattle.std.specs.Prelude.{slice_index}
use Rattle.std.specs.List.{range_with_len, position_or_len}
use Rattle.std.specs.Ordering.{int_eq}
use Rattle.cu_mean.proofs.views.permuted.Given as goal

abbrev pub invariant-loop-axis : goal.invariant-loop-axis
invariant-loop-axis l = record {
  count : length l.read ≡ l.axis;
  read : l.read ≡ map (λ d. slice_index l.idx (position_or_len (λ axis. int_eq axis (pos d)) l.axes)) (range_with_len 0 l.axis);
}
