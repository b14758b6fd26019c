use Rattle.std.proofs.Common.{◌≡◌, ◌<◌, ℕ, length, sym, ap, ◌∙◌, subst}
use Rattle.cu_grid.specs.Counts.{IsRegion}
use Rattle.cu_op.specs.Arrays.{array_at}
use Rattle.cu_op.specs.Operation.{target_of}
use Rattle.cu_op.specs.Schedule.{op_of}
use Rattle.cu_op.specs.declared.layout.ArrayInfo.{ArrayInfo}
use Rattle.cu_op.proofs.TaskCells.{fit_of}
use Rattle.cu_task.proofs.TaskRegions.{target_in}
use Rattle.cu_task.specs.ChunkCopies.{own_lo, own_hi}
use Rattle.cu_task.proofs.chunk_copies.target_array.Goals as goal

pub array-requires : goal.array-requires
array-requires c =
    let target : c.target.result ≡ target_of (op_of c.args.task.now.plan c.args.task.now.op) = c.target.ensures ∙ ap target_of c.operation.ensures.operation in
    subst (λ (a : ℕ). a < length c.args.task.now.plan.arrays) (sym target) (target_in c.args.task.now.plan c.operation.ensures.sound c.args.task.now.op (op_of c.args.task.now.plan c.args.task.now.op) (fit_of c.args.task.now.plan c.operation.ensures.sound c.args.task.now.op c.args.task.now.operation) c.args.task.now.number c.args.task.now.within).over.0

pub returns-clause-info : goal.returns-clause-info
returns-clause-info c = c.array.ensures.array ∙ ap (array_at c.args.task.now.plan.arrays) (c.target.ensures ∙ ap target_of c.operation.ensures.operation)

pub returns-clause-region : goal.returns-clause-region
returns-clause-region c =
    let target : c.target.result ≡ target_of (op_of c.args.task.now.plan c.args.task.now.op) = c.target.ensures ∙ ap target_of c.operation.ensures.operation in
    subst (λ (i : ArrayInfo). IsRegion i.layout.grid.shape (own_lo c.args.task.now) (own_hi c.args.task.now)) (sym (c.array.ensures.array ∙ ap (array_at c.args.task.now.plan.arrays) target))
    (target_in c.args.task.now.plan c.operation.ensures.sound c.args.task.now.op (op_of c.args.task.now.plan c.args.task.now.op) (fit_of c.args.task.now.plan c.operation.ensures.sound c.args.task.now.op c.args.task.now.operation) c.args.task.now.number c.args.task.now.within).over.1
