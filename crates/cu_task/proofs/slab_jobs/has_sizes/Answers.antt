use Rattle.std.proofs.Common.{sym, ◌∙◌}
use Rattle.cu_op.proofs.TaskCells.{region_lengths}
use Rattle.cu_task.proofs.slab_jobs.has_sizes.Goals as goal

pub difference-requires : goal.difference-requires
difference-requires c = let e = region_lengths _ _ _ c.input_walk-walk.ensures.over.1 in e.0 ∙ sym e.1
