use Rattle.std.proofs.Common.{◌≡◌, ◌-◌, ◌≤◌, length}
use Rattle.cu_view_box.specs.Drawn.{AreDrawn, AreOthersUndrawn}
use Rattle.cu_view_box.proofs.drawing.draw_run.Given as goal

abbrev pub decreases-loop-first : goal.decreases-loop-first
decreases-loop-first l = l.run.end - l.first

abbrev pub invariant-loop-first : goal.invariant-loop-first
invariant-loop-first l = record {
  same_length : length l.output ≡ length l.fn.output;
  low : l.run.first ≤ l.first;
  high : l.first ≤ l.run.end;
  drawn : AreDrawn l.drawing.source.now l.drawing.from.now l.drawing.bytes.now l.drawing.to.now l.run l.run.first l.first l.output;
  others : AreOthersUndrawn l.drawing.source.now l.drawing.from.now l.drawing.to.now l.run l.run.first l.first l.fn.output l.output;
}
