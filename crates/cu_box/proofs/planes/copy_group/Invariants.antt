use Rattle.std.proofs.Common.{[], ◌∷◌, ◌≤◌, ◌-◌}
use Rattle.cu_box.specs.Strided.{IsStridedCopy}
use Rattle.cu_box.specs.StridedSteps.{with_count}
use Rattle.cu_box.proofs.planes.copy_group.Given as goal

abbrev pub decreases-loop-at : goal.decreases-loop-at
decreases-loop-at g l = l.plane.inner.count - l.at

abbrev pub invariant-loop-at : goal.invariant-loop-at
invariant-loop-at g l = record {
  within : l.at ≤ l.plane.inner.count;
  copied : IsStridedCopy g.row.N l.order (with_count l.plane.inner l.at ∷ l.plane.outer ∷ []) l.plane.start l.source l.fn.target l.target;
}
