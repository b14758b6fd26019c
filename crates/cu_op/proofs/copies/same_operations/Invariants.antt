use Rattle.std.proofs.Common.{◌≡◌, take}
use Rattle.cu_op.proofs.copies.same_operations.Given as goal

abbrev pub invariant-loop-planned : goal.invariant-loop-planned
invariant-loop-planned l = l.same.items ≡ take l.planned-index l.ops
