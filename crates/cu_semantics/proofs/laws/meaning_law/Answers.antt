use Rattle.cu_semantics.proofs.Equation.{equation, outside}
use Rattle.cu_semantics.proofs.RuleLaws.{node_agrees}
use Rattle.cu_semantics.proofs.laws.meaning_law.Goals as goal

pub returns : goal.returns
returns c = record { equation = equation; earlier = node_agrees; outside = outside }
