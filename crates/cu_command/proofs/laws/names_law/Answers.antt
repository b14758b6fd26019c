use Rattle.cu_command.proofs.NameLemmas.{first_use}
use Rattle.cu_command.proofs.laws.names_law.Goals as goal

pub returns : goal.returns
returns c e front name behind is = first_use e front name behind is
