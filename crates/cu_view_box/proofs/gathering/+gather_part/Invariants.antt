use Rattle.std.proofs.Common.{◌≡◌, ◌-◌, length}
use Rattle.cu_view_box.specs.Reshape.{reshaped, IsDrawn, AreOthersLeft}
use Rattle.cu_view_box.proofs.Slices.{up_to}
use Rattle.cu_view_box.proofs.gathering.+gather_part.Given as goal

abbrev pub decreases-gather_part : goal.decreases-gather_part
decreases-gather_part l = length l.part.now.lo - l.level

abbrev pub invariant-loop-index : goal.invariant-loop-index
invariant-loop-index l = record {
  same_length : length l.output ≡ length l.fn.output;
  drawn : IsDrawn (reshaped l.drawing.source.now l.shape) (up_to l.part l.level l.index) l.drawing.from.now l.drawing.bytes.now l.drawing.to.now l.output;
  others : AreOthersLeft (reshaped l.drawing.source.now l.shape) (up_to l.part l.level l.index) l.drawing.from.now l.drawing.to.now l.fn.output l.output;
}
