use Rattle.std.proofs.Common.{◌≡◌, ◌-◌, map, length}
use Rattle.std.specs.Prelude.{slice_index, if◌then◌else◌}
use Rattle.std.specs.List.{range_with_len}
use Rattle.cu_semantics.specs.Index.{is_named}
use Rattle.cu_mean.proofs.views.flipped.Given as goal

abbrev pub invariant-loop-axis : goal.invariant-loop-axis
invariant-loop-axis l = record {
  count : length l.read ≡ l.axis;
  read : l.read ≡ map (λ d. if is_named (length l.shape) l.axes d then slice_index l.shape d - 1 - slice_index l.idx d else slice_index l.idx d) (range_with_len 0 l.axis);
}
