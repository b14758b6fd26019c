use Rattle.cu_mean.proofs.Kept.{node_keeps}
use Rattle.cu_mean.proofs.laws.keeps_law.Goals as goal

pub returns : goal.returns
returns c inputs e infos env k node is h kept fit at = node_keeps inputs e infos env k node is h kept fit at
