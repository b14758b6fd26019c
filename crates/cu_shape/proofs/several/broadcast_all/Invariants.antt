use Rattle.std.proofs.Common.{◌≡◌, drop}
use Rattle.cu_shape.specs.Several.{broadcast_from, broadcast_of_all}
use Rattle.cu_shape.proofs.several.broadcast_all.Given as goal

abbrev pub invariant-loop-next : goal.invariant-loop-next
invariant-loop-next l = record {
  whole : broadcast_of_all l.shapes ≡ broadcast_from l.rank l.shape (drop l.next-index l.shapes);
}
