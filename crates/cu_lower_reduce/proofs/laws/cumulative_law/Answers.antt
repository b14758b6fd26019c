use Rattle.cu_lower_reduce.proofs.Outlined.{cumulative_comes}
use Rattle.cu_lower_reduce.proofs.SumValues.{cumulative_value}
use Rattle.cu_lower_reduce.proofs.Summing.{cumulative_holds, cumulative_last}
use Rattle.cu_lower_reduce.proofs.laws.cumulative_law.Goals as goal

pub returns-clause-steps : goal.returns-clause-steps
returns-clause-steps c = cumulative_holds

pub returns-clause-last : goal.returns-clause-last
returns-clause-last c = cumulative_last

pub returns-clause-sizes : goal.returns-clause-sizes
returns-clause-sizes c = cumulative_comes

pub returns-clause-value : goal.returns-clause-value
returns-clause-value c = cumulative_value c.array_law.ensures.carried c.array_law.ensures.single
