use Rattle.std.proofs.Common.{◌≡◌, length}
use Rattle.cu_view_box.specs.Along.{AreAxesOf}
use Rattle.cu_view_box.specs.Block.{buffer_place}
use Rattle.cu_view_box.specs.Piece.{read_at}
use Rattle.cu_view_box.proofs.along.write_axes.Given as goal

abbrev pub invariant-loop-axis : goal.invariant-loop-axis
invariant-loop-axis l = record {
  long : length l.axes ≡ length l.part.lo;
  made : AreAxesOf (λ idx. buffer_place l.copying.from.now (read_at l.copying.piece.now idx)) (λ idx. buffer_place l.copying.to.now idx) l.part l.axes l.axis;
}
