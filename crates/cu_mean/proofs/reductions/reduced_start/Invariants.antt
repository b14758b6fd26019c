use Rattle.std.proofs.Common.{◌≡◌, map, length}
use Rattle.std.specs.Prelude.{slice_index, if◌then◌else◌}
use Rattle.std.specs.List.{range_with_len}
use Rattle.cu_mean.specs.Axes.{axes_in}
use Rattle.cu_semantics.specs.Index.{is_named}
use Rattle.cu_semantics.specs.Reduction.{kept_before}
use Rattle.cu_mean.proofs.reductions.reduced_start.Given as goal

abbrev pub invariant-loop-axis : goal.invariant-loop-axis
invariant-loop-axis l = record {
  count : length l.start ≡ l.axis;
  start : l.start ≡ map (λ d. if is_named l.rank (axes_in l.axes) d then 0 else slice_index l.idx (if l.keepdims then d else kept_before l.rank (axes_in l.axes) d)) (range_with_len 0 l.axis);
}
