use Rattle.cu_num.proofs.Wrapped.{wrapped-add, wrapped-mul}
use Rattle.cu_num.proofs.laws.wrap_arithmetic_law.Goals as goal

pub returns-clause-sum : goal.returns-clause-sum
returns-clause-sum c = wrapped-add

pub returns-clause-product : goal.returns-clause-product
returns-clause-product c = wrapped-mul
