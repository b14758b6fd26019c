use Rattle.std.proofs.Common.{arith}
use Rattle.cu_typing_view.proofs.NumbersFit.{sum_fits}
use Rattle.cu_mean.proofs.Spaced.{count_fits, narrow_fits, wide, wide_is, product_wide, sum_wide, spaced}
use Rattle.cu_mean.proofs.creation.number_at.Goals as goal

pub overflow_cast-result : goal.overflow_cast-result
overflow_cast-result c = narrow_fits c.args.start c.ranges.start

pub overflow_cast-result-2 : goal.overflow_cast-result-2
overflow_cast-result-2 c = count_fits c.args.k (omega arith)

pub overflow_cast-result-3 : goal.overflow_cast-result-3
overflow_cast-result-3 c = narrow_fits c.args.step c.ranges.step

pub overflow_mul-result : goal.overflow_mul-result
overflow_mul-result c = product_wide c.args.k c.args.step (omega arith) c.ranges.step

pub overflow_add-result : goal.overflow_add-result
overflow_add-result c =
    sum_wide (wide c.args.start) c.args.start c.args.step c.args.k (wide_is c.args.start c.ranges.start) (omega arith) c.ranges.step
    (sum_fits c.args.k c.args.start c.args.step (omega arith) c.ranges.start c.ranges.step)

pub returns : goal.returns
returns c =
    spaced (wide c.args.start) c.args.start c.args.step c.args.k (wide_is c.args.start c.ranges.start) (omega arith) c.ranges.step
    (sum_fits c.args.k c.args.start c.args.step (omega arith) c.ranges.start c.ranges.step)
