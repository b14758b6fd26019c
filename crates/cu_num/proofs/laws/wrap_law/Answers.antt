use Rattle.cu_num.proofs.Wrapped.{wrapped_is_wrap, wrapped_unique, InRange-wrapped, wrapped_in_range}
use Rattle.cu_num.proofs.laws.wrap_law.Goals as goal

pub returns-clause-allowed : goal.returns-clause-allowed
returns-clause-allowed c = wrapped_is_wrap

pub returns-clause-only : goal.returns-clause-only
returns-clause-only c = wrapped_unique

pub returns-clause-range : goal.returns-clause-range
returns-clause-range c = InRange-wrapped

pub returns-clause-identity : goal.returns-clause-identity
returns-clause-identity c = wrapped_in_range
