use Rattle.cu_view.proofs.Ranges.{range_region, range_exactly}
use Rattle.cu_view.proofs.boxes.range.Goals as goal

pub returns-clause-region : goal.returns-clause-region
returns-clause-region c =
    rw (c.put.ensures, c.put-2.ensures, c.whole-region.ensures.end)
    (range_region c.whole-region.result.lo c.args.shape.now c.args.axis c.args.from c.args.to c.whole-region.ensures.rank c.whole-region.ensures.first c.requires.axis c.requires.order c.requires.inside)

pub returns-clause-exactly : goal.returns-clause-exactly
returns-clause-exactly c =
    rw (c.put.ensures, c.put-2.ensures, c.whole-region.ensures.end)
    (range_exactly c.whole-region.result.lo c.args.shape.now c.args.axis c.args.from c.args.to c.whole-region.ensures.rank c.whole-region.ensures.first c.requires.axis c.requires.inside)
