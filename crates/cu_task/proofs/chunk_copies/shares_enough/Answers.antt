use Rattle.std.proofs.Common.{sym, subst}
use Rattle.cu_grid.specs.Counts.{IsRegion}
use Rattle.cu_op.specs.Schedule.{op_of}
use Rattle.cu_op.specs.declared.layout.ArrayInfo.{ArrayInfo}
use Rattle.cu_task.proofs.TaskKinds.{copy_some}
use Rattle.cu_task.proofs.chunk_copies.shares_enough.Goals as goal

pub input_walk-walk-requires : goal.input_walk-walk-requires
input_walk-walk-requires c = copy_some c.args.task.now.plan.arrays (op_of c.args.task.now.plan c.args.task.now.op) c.args.task.now.number c.requires

pub array-requires : goal.array-requires
array-requires c = c.input_walk-walk.ensures.over.0

pub chunk_count-read-requires : goal.chunk_count-read-requires
chunk_count-read-requires c = subst (λ (i : ArrayInfo). IsRegion i.layout.grid.shape c.input_walk-walk.result.region.lo c.input_walk-walk.result.region.hi) (sym c.array.ensures.array) c.input_walk-walk.ensures.over.1

pub chunk_count-made-requires : goal.chunk_count-made-requires
chunk_count-made-requires c = rw (c.region.ensures.lo, c.region.ensures.hi) c.target_array.ensures.region
