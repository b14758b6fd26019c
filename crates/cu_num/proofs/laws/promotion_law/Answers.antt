use Rattle.cu_num.proofs.Promoted.{none_refused, refused_none, promotion_comm, promotion_same, first_in_range, promotion_apart}
use Rattle.cu_num.proofs.laws.promotion_law.Goals as goal

pub returns-clause-refused : goal.returns-clause-refused
returns-clause-refused c a b = (none_refused a b, refused_none a b)

pub returns-clause-order : goal.returns-clause-order
returns-clause-order c = promotion_comm

pub returns-clause-equal : goal.returns-clause-equal
returns-clause-equal c = promotion_same

pub returns-clause-range : goal.returns-clause-range
returns-clause-range c = first_in_range

pub returns-clause-apart : goal.returns-clause-apart
returns-clause-apart c = promotion_apart
