use Rattle.cu_meta.proofs.Accepted.{read_accepted, read_said, said_read}
use Rattle.cu_meta.proofs.MetaLaw as law
use Rattle.cu_meta.proofs.laws.meta_law.Goals as goal

pub returns-clause-read_back : goal.returns-clause-read_back
returns-clause-read_back c = law.read_back

pub returns-clause-told_apart : goal.returns-clause-told_apart
returns-clause-told_apart c = law.told_apart

pub returns-clause-storable : goal.returns-clause-storable
returns-clause-storable c = read_accepted

pub returns-clause-accepted : goal.returns-clause-accepted
returns-clause-accepted c = read_said

pub returns-clause-said : goal.returns-clause-said
returns-clause-said c = said_read
