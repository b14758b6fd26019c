use Rattle.std.proofs.Common.{◌*◌, ℕ, List, sym, ap, ◌∙◌}
use Rattle.cu_num.specs.Dtype.{size_of}
use Rattle.cu_shape.specs.Index.{product, differences}
use Rattle.cu_codec.proofs.Shared.{few_elements}
use Rattle.cu_op.specs.Arrays.{type_at}
use Rattle.cu_op.specs.Cells.{task_grid, task_hi}
use Rattle.cu_op.specs.Schedule.{op_of}
use Rattle.cu_op.specs.declared.layout.ArrayInfo.{ArrayInfo}
use Rattle.cu_op.proofs.Operations as ops
use Rattle.cu_op.proofs.Plans.{grid_ok}
use Rattle.cu_op.proofs.TaskCells.{fit_of, region_lengths}
use Rattle.cu_task.proofs.results.region_room.Goals as goal

pub region_bytes-requires-clause-ranks : goal.region_bytes-requires-clause-ranks
region_bytes-requires-clause-ranks c = let e = region_lengths _ _ _ c.region.ensures.inside in e.1 ∙ sym e.0

pub region_bytes-requires-clause-few : goal.region_bytes-requires-clause-few
region_bytes-requires-clause-few c =
    few_elements (task_grid c.args.task.now.plan.arrays (op_of c.args.task.now.plan c.args.task.now.op)) c.region.result.now.lo c.region.result.now.hi
    (ops.grid_of_tasks c.args.task.now.plan.arrays (λ a h. grid_ok c.args.task.now.plan a c.array.ensures.sound h) c.args.task.now.op (op_of c.args.task.now.plan c.args.task.now.op) (fit_of c.args.task.now.plan c.array.ensures.sound c.args.task.now.op c.args.task.now.operation)) c.region.ensures.inside

pub returns-clause-bytes : goal.returns-clause-bytes
returns-clause-bytes c =
    c.region_bytes.ensures ∙ ap (λ (i : ArrayInfo). product (differences c.region.result.now.hi c.region.result.now.lo) * size_of i.layout.dtype) c.array.ensures.array
    ∙ ap (λ (x : List ℕ). product (differences x c.region.result.now.lo) * size_of (type_at c.args.task.now.plan.arrays c.args.array)) c.region.ensures.hi
    ∙ ap (λ (x : List ℕ). product (differences (task_hi c.args.task.now.plan.arrays (op_of c.args.task.now.plan c.args.task.now.op) c.args.task.now.number) x) * size_of (type_at c.args.task.now.plan.arrays c.args.array)) c.region.ensures.lo
