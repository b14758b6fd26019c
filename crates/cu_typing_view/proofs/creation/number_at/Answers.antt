use Rattle.std.proofs.Common.{arith}
use Rattle.cu_typing_view.proofs.NumbersFit.{product_of_fits, sum_of_fits, sum_of_is}
use Rattle.cu_typing_view.proofs.creation.number_at.Goals as goal

pub overflow_mul-result : goal.overflow_mul-result
overflow_mul-result c = product_of_fits c.args.k c.args.step (omega arith) c.ranges.step

pub overflow_add-result : goal.overflow_add-result
overflow_add-result c = sum_of_fits c.args.start c.args.k c.args.step (omega arith) c.ranges.start c.ranges.step

pub returns : goal.returns
returns c = sum_of_is c.args.start c.args.k c.args.step (omega arith) c.ranges.start c.ranges.step
