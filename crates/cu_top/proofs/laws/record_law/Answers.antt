use Rattle.cu_top.proofs.RecordVersions.{differ_once, version_differs}
use Rattle.cu_top.proofs.laws.record_law.Goals as goal

pub returns-clause-version : goal.returns-clause-version
returns-clause-version c = version_differs

pub returns-clause-once : goal.returns-clause-once
returns-clause-once c = differ_once
