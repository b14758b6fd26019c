use Rattle.std.proofs.Common.{◌≡◌}
use Rattle.cu_num.specs.Wrap.{wrapped}
use Rattle.cu_mean.specs.Reading.{named_element}
use Rattle.cu_mean.proofs.InnerProducts.{products_from}
use Rattle.cu_reduce.specs.Folds.{exact_sum}
use Rattle.cu_mean.proofs.products.matmul_at.Given as goal

abbrev pub invariant-loop-inner : goal.invariant-loop-inner
invariant-loop-inner l = l.total ≡ wrapped l.t (exact_sum (products_from (named_element l.arrays 0) l.a (named_element l.arrays 1) l.b l.idx l.inner l.count))
