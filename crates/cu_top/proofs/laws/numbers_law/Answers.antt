use Rattle.cu_top.proofs.InnerNumbers.{inner_of, number_of}
use Rattle.cu_top.proofs.laws.numbers_law.Goals as goal

pub returns-clause-inner : goal.returns-clause-inner
returns-clause-inner c = inner_of

pub returns-clause-listed : goal.returns-clause-listed
returns-clause-listed c = number_of
