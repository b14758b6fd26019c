use Rattle.std.proofs.Common.{◌≡◌}
use Rattle.cu_view.specs.Boxes.{offset_of}
use Rattle.cu_view.proofs.boxes.offset.Given as goal

abbrev pub invariant-loop-before : goal.invariant-loop-before
invariant-loop-before l = l.from ≡ offset_of l.axis l.sources l.before
