use Rattle.std.proofs.Common.{◌≡◌, map, length}
use Rattle.std.specs.Prelude.{slice_index, if◌then◌else◌}
use Rattle.std.specs.List.{range_with_len}
use Rattle.cu_mean.specs.Axes.{axes_in}
use Rattle.cu_semantics.specs.Index.{is_named}
use Rattle.cu_mean.proofs.reductions.reduced_box.Given as goal

abbrev pub invariant-loop-axis : goal.invariant-loop-axis
invariant-loop-axis l = record {
  count : length l.sizes ≡ l.axis;
  sizes : l.sizes ≡ map (λ d. if is_named (length l.shape) (axes_in l.axes) d then slice_index l.shape d else 1) (range_with_len 0 l.axis);
}
