use Rattle.cu_v2.proofs.Exact as law
use Rattle.cu_v2.proofs.laws.v2_law.Goals as goal

pub returns-clause-form : goal.returns-clause-form
returns-clause-form c = law.exact

pub returns-clause-storable : goal.returns-clause-storable
returns-clause-storable c = law.read_storable
