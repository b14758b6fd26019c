use Rattle.cu_node.proofs.KeptLimits.{beside_kept, kept}
use Rattle.cu_node.proofs.laws.limits_law.Goals as goal

pub returns-clause-kept : goal.returns-clause-kept
returns-clause-kept c beside t shape chunk i ranks positive passed = kept beside t shape chunk i ranks positive passed

pub returns-clause-beside : goal.returns-clause-beside
returns-clause-beside c beside t shape chunk i passed = beside_kept beside t shape chunk i passed
