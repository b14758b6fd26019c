use Rattle.std.proofs.Common.{◌≡◌, take}
use Rattle.arrayvec.specs.ArrayVec.{array_vec_len}
use Rattle.cu_op.specs.Kind.Pull.{shapes_at}
use Rattle.cu_view.proofs.planned.shapes_of.Given as goal

abbrev pub invariant-loop-number : goal.invariant-loop-number
invariant-loop-number l = record {
  shapes : l.shapes.items ≡ shapes_at l.plan.arrays (take l.number-index l.numbers);
  count : array_vec_len l.shapes ≡ l.number-index;
}
