use Rattle.cu_semantics.proofs.Equation.{meaning_fits}
use Rattle.cu_semantics.proofs.laws.type_law.Goals as goal

pub returns : goal.returns
returns c = meaning_fits
