use Rattle.cu_along.proofs.Merging.{groups_merged, groups_in_rounds}
use Rattle.cu_along.proofs.laws.group_merge_law.Goals as goal

pub returns-clause-once : goal.returns-clause-once
returns-clause-once c = groups_merged

pub returns-clause-rounds : goal.returns-clause-rounds
returns-clause-rounds c = groups_in_rounds
