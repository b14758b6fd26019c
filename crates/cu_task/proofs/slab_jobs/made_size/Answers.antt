use Rattle.std.proofs.Common.{◌<◌, ◌∙◌, ℕ, length, sym, ap, subst}
use Rattle.cu_op.proofs.TaskCells.{fit_of}
use Rattle.cu_op.specs.Operation.{target_of}
use Rattle.cu_op.specs.TaskView.{task_op}
use Rattle.cu_task.proofs.TaskRegions.{target_in}
use Rattle.cu_task.proofs.slab_jobs.made_size.Goals as goal

pub array-requires : goal.array-requires
array-requires c =
    let task = c.args.task.now in
    subst (λ (a : ℕ). a < length c.args.task.now.plan.arrays) (sym (c.target.ensures ∙ ap target_of c.operation.ensures.operation))
    (target_in task.plan c.operation.ensures.sound task.op (task_op task) (fit_of task.plan c.operation.ensures.sound task.op task.operation) task.number task.within).over.0
