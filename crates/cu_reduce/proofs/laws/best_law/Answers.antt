use Rattle.cu_reduce.proofs.Bests.{best_append, best_assoc, best_comm, best_none, best_both, best_numbered}
use Rattle.cu_reduce.proofs.laws.best_law.Goals as goal

pub returns-clause-concatenation : goal.returns-clause-concatenation
returns-clause-concatenation c = best_append

pub returns-clause-associative : goal.returns-clause-associative
returns-clause-associative c = best_assoc

pub returns-clause-commutative : goal.returns-clause-commutative
returns-clause-commutative c = best_comm

pub returns-clause-none : goal.returns-clause-none
returns-clause-none c = best_none

pub returns-clause-best : goal.returns-clause-best
returns-clause-best c = best_both

pub returns-clause-first : goal.returns-clause-first
returns-clause-first c = best_numbered
