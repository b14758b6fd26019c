use Rattle.cu_typing.proofs.PassedAlong.{cumulative_passed, groups_passed}
use Rattle.cu_typing.proofs.laws.along_law.Goals as goal

pub returns-clause-cumulative : goal.returns-clause-cumulative
returns-clause-cumulative c = cumulative_passed

pub returns-clause-groups : goal.returns-clause-groups
returns-clause-groups c = groups_passed
