use Rattle.std.proofs.Common.{◌<◌, ◌∙◌, length, refl, sym, ap, subst, arith}
use Rattle.cu_op.specs.Arrays.{grid_at}
use Rattle.cu_op.specs.Schedule.{op_of}
use Rattle.cu_op.specs.declared.layout.ArrayInfo.{ArrayInfo}
use Rattle.cu_op.specs.declared.operation.Op.{Op}
use Rattle.cu_task.specs.Inputs.{IsMergeOf}
use Rattle.cu_task.specs.declared.merges.PartMerge.{PartMerge}
use Rattle.cu_task.proofs.PartMerges.{task_merge}
use Rattle.cu_task.proofs.merges.part_merge.Goals as goal

pub at-requires : goal.at-requires
at-requires c =
    let merge : PartMerge = record { kind = c.in-Merge.kind; axis = c.in-Merge.axis; out = c.in-Merge.out } in
    let of_kind : IsMergeOf (op_of c.args.task.now.plan c.args.task.now.op) merge.kind merge.axis merge.out = subst (λ (o : Op). IsMergeOf o merge.kind merge.axis merge.out) (sym (sym c.operation.ensures.operation ∙ c.in-Merge.is)) (refl, refl, refl) in
    let inside = (task_merge c.args.task.now c.operation.ensures.sound merge of_kind).source in
    let here : c.in-Merge.axis < length (grid_at c.args.task.now.plan.arrays c.input_walk.result.array).shape = rw c.input_walk.ensures.walk inside in
    let ranks = c.chunk.ensures.kept.ranks in
    let value = ap length c.chunk.ensures.value in
    let own : c.in-Merge.axis < length c.array-source.result.now.layout.grid.shape = subst (λ (i : ArrayInfo). c.in-Merge.axis < length i.layout.grid.shape) (sym c.array-source.ensures.array) here in
    omega (arith, ranks, value, own)
