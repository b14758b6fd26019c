use Rattle.std.proofs.Common.{◌≡◌, ◌-◌, length}
use Rattle.cu_view_box.specs.Block.{IsMoved, IsKept}
use Rattle.cu_view_box.proofs.Slices.{up_to}
use Rattle.cu_view_box.proofs.copy.+copy_rows.Given as goal

abbrev pub decreases-copy_rows : goal.decreases-copy_rows
decreases-copy_rows l = length l.part.now.lo - l.level

abbrev pub invariant-loop-index : goal.invariant-loop-index
invariant-loop-index l = record {
  same_length : length l.output ≡ length l.fn.output;
  moved : IsMoved l.copying.piece.now (up_to l.part l.level l.index) l.copying.from.now l.copying.bytes.now l.copying.to.now l.output;
  others : IsKept (up_to l.part l.level l.index) l.copying.to.now l.fn.output l.output;
}
