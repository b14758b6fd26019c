use Rattle.cu_need.proofs.Outlined.{table_most}
use Rattle.cu_need.proofs.laws.outline_law.Goals as goal

pub returns : goal.returns
returns c = table_most
