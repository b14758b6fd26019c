use Rattle.cu_reduce.proofs.Combined.{combined_assoc, combined_comm, combined_unit, combined_wrapped}
use Rattle.cu_reduce.proofs.laws.combination_law.Goals as goal

pub returns-clause-associative : goal.returns-clause-associative
returns-clause-associative c = combined_assoc

pub returns-clause-commutative : goal.returns-clause-commutative
returns-clause-commutative c = combined_comm

pub returns-clause-unit : goal.returns-clause-unit
returns-clause-unit c = combined_unit

pub returns-clause-wrap : goal.returns-clause-wrap
returns-clause-wrap c = combined_wrapped
