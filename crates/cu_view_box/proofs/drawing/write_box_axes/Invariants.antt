use Rattle.std.proofs.Common.{◌≡◌, length}
use Rattle.cu_shape.specs.Index.{place_of}
use Rattle.cu_view_box.specs.Along.{AreAxesOf}
use Rattle.cu_view_box.specs.Block.{buffer_place}
use Rattle.cu_view_box.specs.Drawn.{place_in_run}
use Rattle.cu_view_box.proofs.drawing.write_box_axes.Given as goal

abbrev pub invariant-loop-axis : goal.invariant-loop-axis
invariant-loop-axis l = record {
  long : length l.axes ≡ length l.part.lo;
  made : AreAxesOf (λ idx. buffer_place l.drawing.from.now idx) (λ idx. place_in_run l.run (place_of l.drawing.source.now idx)) l.part l.axes l.axis;
}
