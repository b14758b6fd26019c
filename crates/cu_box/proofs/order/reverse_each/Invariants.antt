use Rattle.cu_box.proofs.Swapped.{SwappedTo}
use Rattle.cu_box.proofs.order.reverse_each.Given as goal

abbrev pub invariant-loop-at : goal.invariant-loop-at
invariant-loop-at l = SwappedTo l.size l.at l.fn.bytes l.bytes
