use Rattle.cu_grid.proofs.WholeRegions.{whole_region, whole_exactly}
use Rattle.cu_grid.proofs.region.Region.whole.Goals as goal

pub returns-clause-inside : goal.returns-clause-inside
returns-clause-inside c = rw c.filled.ensures (whole_region c.args.shape.now)

pub returns-clause-exactly : goal.returns-clause-exactly
returns-clause-exactly c = λ idx. rw c.filled.ensures (whole_exactly c.args.shape.now idx)
