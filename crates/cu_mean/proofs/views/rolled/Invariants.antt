use Rattle.std.proofs.Common.{◌≡◌, map, length, pos}
use Rattle.std.specs.Prelude.{◌-ℤ◌, slice_index}
use Rattle.std.specs.Int.{int_rem_euclid}
use Rattle.std.specs.List.{range_with_len}
use Rattle.cu_semantics.specs.Index.{natural}
use Rattle.cu_semantics.specs.View.{shift_on}
use Rattle.cu_mean.proofs.views.rolled.Given as goal

abbrev pub invariant-loop-axis : goal.invariant-loop-axis
invariant-loop-axis l = record {
  count : length l.read ≡ l.axis;
  read : l.read ≡ map (λ d. natural (int_rem_euclid (pos (slice_index l.idx d) -ℤ shift_on (length l.shape) l.shifts l.axes d) (pos (slice_index l.shape d)))) (range_with_len 0 l.axis);
}
