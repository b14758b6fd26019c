use Rattle.cu_op.specs.Schedule.{op_of}
use Rattle.cu_op.proofs.TaskCells.{fit_of, target_within, tasks_grid}
use Rattle.cu_op.proofs.schedule.task_grid.Goals as goal

pub grid_of_tasks-requires-clause-target : goal.grid_of_tasks-requires-clause-target
grid_of_tasks-requires-clause-target c =
    let p = c.args.plan.now in
    let s = c.operation.ensures.sound in
    rw (c.arrays.ensures.arrays, c.operation.ensures.operation) (target_within p s c.args.op (op_of p c.args.op) (fit_of p s c.args.op c.requires))

pub grid_of_tasks-requires-clause-regions : goal.grid_of_tasks-requires-clause-regions
grid_of_tasks-requires-clause-regions c =
    let p = c.args.plan.now in
    let s = c.operation.ensures.sound in
    rw (c.arrays.ensures.arrays, c.operation.ensures.operation) (tasks_grid p s c.args.op (op_of p c.args.op) (fit_of p s c.args.op c.requires))
