use Rattle.std.proofs.Common.{[], ◌∷◌}
use Rattle.cu_box.specs.Strided.{IsStridedCopy}
use Rattle.cu_box.specs.StridedSteps.{with_count}
use Rattle.cu_box.proofs.planes.copy_line.Given as goal

abbrev pub invariant-loop-number : goal.invariant-loop-number
invariant-loop-number g l = IsStridedCopy g.row.N l.order (with_count l.axis l.number ∷ []) l.start l.source l.fn.target l.target
