use Rattle.std.proofs.Common.{refl, arith}
use Rattle.cu_view.proofs.Ranges.{region_from, whole_exactly}
use Rattle.cu_view.proofs.boxes.whole.Goals as goal

pub returns-clause-region : goal.returns-clause-region
returns-clause-region c =
    region_from c.args.shape.now c.loop-axis.lo c.args.shape.now c.loop-axis.invariant.rank refl
    (λ k b. let e = c.loop-axis.invariant.done k (omega arith) in (omega arith, omega arith))

pub returns-clause-exactly : goal.returns-clause-exactly
returns-clause-exactly c = whole_exactly c.loop-axis.lo c.args.shape.now c.loop-axis.invariant.rank (λ k b. c.loop-axis.invariant.done k (omega arith))
