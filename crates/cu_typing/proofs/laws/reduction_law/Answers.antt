use Rattle.cu_typing.proofs.PassedTogether.{reduction_passed}
use Rattle.cu_typing.proofs.laws.reduction_law.Goals as goal

pub returns : goal.returns
returns c rule axes keepdims i r h = reduction_passed rule axes keepdims i r h
