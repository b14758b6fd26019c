use Rattle.std.proofs.Common.{◌≡◌, false, take}
use Rattle.std.specs.List.{list_any}
use Rattle.cu_op.specs.Walks.{same_walk}
use Rattle.cu_op.proofs.walks.is_among.Given as goal

abbrev pub invariant-loop-other : goal.invariant-loop-other
invariant-loop-other l = list_any (λ v. same_walk v l.walk) (take l.other-index l.walks) ≡ false
