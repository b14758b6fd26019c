use Rattle.cu_grid.proofs.WholeRegions.{meet_exactly}
use Rattle.cu_grid.proofs.region.Region.meet.Goals as goal

pub returns-clause-exactly : goal.returns-clause-exactly
returns-clause-exactly c = λ idx.
    rw (c.greater.ensures.numbers, c.smaller.ensures.numbers)
    (meet_exactly c.args.self.now.lo c.args.self.now.hi c.args.other.now.lo c.args.other.now.hi idx c.requires.ranks c.requires.other_lo c.requires.other_hi)
