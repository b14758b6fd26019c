use Rattle.cu_copy.proofs.Staged.{staged_exactly, staged_tiles}
use Rattle.cu_copy.proofs.laws.copy_law.Goals as goal

pub returns-clause-exactly : goal.returns-clause-exactly
returns-clause-exactly c = staged_exactly

pub returns-clause-tiles : goal.returns-clause-tiles
returns-clause-tiles c = staged_tiles
