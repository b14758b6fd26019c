use Rattle.cu_num.proofs.ElementBytes.{length-element_bytes, InRange-element_at, element_at-element_bytes_in_range, element_at_own}
use Rattle.cu_num.proofs.laws.element_law.Goals as goal

pub returns-clause-size : goal.returns-clause-size
returns-clause-size c = length-element_bytes

pub returns-clause-range : goal.returns-clause-range
returns-clause-range c = InRange-element_at

pub returns-clause-read_back : goal.returns-clause-read_back
returns-clause-read_back c = element_at-element_bytes_in_range

pub returns-clause-own_bytes : goal.returns-clause-own_bytes
returns-clause-own_bytes c = element_at_own
