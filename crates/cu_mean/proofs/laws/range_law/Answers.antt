use Rattle.cu_semantics.proofs.Equation.{meaning_fits}
use Rattle.cu_mean.proofs.Kept.{node_keeps}
use Rattle.cu_mean.proofs.laws.range_law.Goals as goal

pub returns : goal.returns
returns c inputs e infos env k idx is h kept fit = meaning_fits e infos env k idx is (λ n node at. node_keeps inputs e infos env n node is h kept fit at)
