use Rattle.std.proofs.Common.{◌∷◌, length}
use Rattle.cu_box.specs.Strided.{IsStridedCopy}
use Rattle.cu_box.specs.StridedSteps.{with_count}
use Rattle.cu_box.proofs.copying.+copy_axes.Given as goal

abbrev pub decreases-copy_axes : goal.decreases-copy_axes
decreases-copy_axes l = length l.axes.now

abbrev pub invariant-loop-number : goal.invariant-loop-number
invariant-loop-number l = IsStridedCopy l.size l.order (with_count l.outer l.number ∷ l.rest) l.start l.source l.fn.target l.target
