use Rattle.std.proofs.Common.{pos, to_z, arith}
use mir.Syntax.{w128}
use Rattle.std.proofs.lemmas.Int.{to_z_pos}
use Rattle.cu_mean.proofs.Spaced.{count_fits, narrow_fits, product_wide, sum_wide, spaced, count_sum_fits}
use Rattle.cu_mean.proofs.indexing.step_from.Goals as goal

pub overflow_cast-result : goal.overflow_cast-result
overflow_cast-result c = count_fits c.args.first (omega arith)

pub overflow_cast-result-2 : goal.overflow_cast-result-2
overflow_cast-result-2 c = count_fits c.args.i (omega arith)

pub overflow_cast-result-3 : goal.overflow_cast-result-3
overflow_cast-result-3 c = narrow_fits c.args.step c.ranges.step

pub overflow_mul-result : goal.overflow_mul-result
overflow_mul-result c = product_wide c.args.i c.args.step (omega arith) c.ranges.step

pub overflow_add-result : goal.overflow_add-result
overflow_add-result c =
    sum_wide (to_z w128 c.args.first) (pos c.args.first) c.args.step c.args.i (to_z_pos w128 c.args.first (omega arith)) (omega arith) c.ranges.step
    (count_sum_fits c.args.first c.args.i c.args.step (omega arith) (omega arith) c.ranges.step)

pub returns : goal.returns
returns c =
    spaced (to_z w128 c.args.first) (pos c.args.first) c.args.step c.args.i (to_z_pos w128 c.args.first (omega arith)) (omega arith) c.ranges.step
    (count_sum_fits c.args.first c.args.i c.args.step (omega arith) (omega arith) c.ranges.step)
