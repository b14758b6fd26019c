use Rattle.std.proofs.Common.{◌≡◌, ap, ◌∙◌, arith}
use Rattle.cu_op.specs.Arrays.{grid_counts}
use Rattle.cu_op.specs.Cells.{regions_of}
use Rattle.cu_op.specs.Schedule.{op_of}
use Rattle.cu_shape.specs.Index.{product}
use Rattle.cu_op.proofs.Plans.{few_regions}
use Rattle.cu_op.proofs.schedule.region_count.Goals as goal

is_count : (c : goal.After-count) → c.count.result ≡ regions_of c.args.plan.now.arrays (op_of c.args.plan.now c.args.op)
is_count c = c.count.ensures.count ∙ ap (λ g. product (grid_counts g)) c.task_grid.ensures.grid

pub overflow_cast-result : goal.overflow_cast-result
overflow_cast-result c =
    let e = is_count c in
    let few = few_regions c.args.plan.now c.args.op c.task_grid.ensures.sound c.requires in
    omega (arith, e, few)

pub returns-clause-few : goal.returns-clause-few
returns-clause-few c =
    let e = is_count c in
    let few = few_regions c.args.plan.now c.args.op c.task_grid.ensures.sound c.requires in
    omega (arith, e, few)
