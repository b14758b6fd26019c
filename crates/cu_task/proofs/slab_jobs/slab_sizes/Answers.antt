use Rattle.std.proofs.Common.{sym, ◌∙◌}
use Rattle.cu_op.proofs.TaskCells.{region_lengths}
use Rattle.cu_task.proofs.slab_jobs.slab_sizes.Goals as goal

pub difference-sizes-requires : goal.difference-sizes-requires
difference-sizes-requires c = let e = region_lengths _ _ _ c.region-region.ensures.inside in e.0 ∙ sym e.1
