use Rattle.std.proofs.Common.{ℕ, ◌<◌, get_or}
use Rattle.cu_num.specs.Element.{element_at}
use Rattle.cu_num.specs.Word.{IsWord}
use Rattle.cu_num.specs.declared.layout.Endian.TheVariants.{Little}
use Rattle.cu_lane.proofs.loops.load_each.Given as goal

abbrev pub invariant-loop-at : goal.invariant-loop-at
invariant-loop-at l = (k : ℕ) → k < l.at → IsWord l.t (get_or l.out k 0) (element_at Little l.t l.bytes k)
