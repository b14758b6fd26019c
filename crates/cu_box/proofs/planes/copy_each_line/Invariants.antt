use Rattle.std.proofs.Common.{[], ◌∷◌}
use Rattle.cu_box.specs.Strided.{IsStridedCopy}
use Rattle.cu_box.specs.StridedSteps.{with_count}
use Rattle.cu_box.proofs.planes.copy_each_line.Given as goal

abbrev pub invariant-loop-row : goal.invariant-loop-row
invariant-loop-row g l = IsStridedCopy g.row.N l.order (with_count l.plane.outer l.row ∷ l.plane.inner ∷ []) l.plane.start l.source l.fn.target l.target
