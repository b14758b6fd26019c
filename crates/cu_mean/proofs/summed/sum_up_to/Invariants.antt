use Rattle.std.proofs.Common.{◌≡◌}
use Rattle.cu_num.specs.Wrap.{wrapped}
use Rattle.cu_reduce.specs.Prefix.{sum_below}
use Rattle.cu_semantics.specs.Along.{along}
use Rattle.cu_mean.specs.Reading.{named_element}
use Rattle.cu_mean.proofs.summed.sum_up_to.Given as goal

abbrev pub invariant-loop-place : goal.invariant-loop-place
invariant-loop-place l =
    l.total ≡ wrapped l.t (sum_below (along (named_element l.arrays 0) l.axis l.idx) l.place)
