use Rattle.cu_load.proofs.LoadLemmas.{load_accepted}
use Rattle.cu_load.proofs.SaidLemmas.{load_said, said_load}
use Rattle.cu_load.proofs.laws.form_law.Goals as goal

pub returns-clause-accepted : goal.returns-clause-accepted
returns-clause-accepted c = load_said

pub returns-clause-said : goal.returns-clause-said
returns-clause-said c = said_load

pub returns-clause-given : goal.returns-clause-given
returns-clause-given c = load_accepted
