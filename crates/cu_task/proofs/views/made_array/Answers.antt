use Rattle.std.proofs.Common.{◌≡◌, ◌<◌, ℕ, length, sym, ap, ◌∙◌, subst}
use Rattle.cu_op.specs.Arrays.{array_at}
use Rattle.cu_op.specs.Operation.{target_of}
use Rattle.cu_op.specs.Schedule.{op_of}
use Rattle.cu_task.proofs.views.made_array.Goals as goal

pub array-requires : goal.array-requires
array-requires c =
    let target : c.target.result ≡ target_of (op_of c.args.job.now.task.now.plan c.args.job.now.task.now.op) = c.target.ensures ∙ ap target_of c.operation.ensures.operation in
    subst (λ (a : ℕ). a < length c.args.job.now.task.now.plan.arrays) (sym target) c.requires.makes

pub returns : goal.returns
returns c =
    let target : c.target.result ≡ target_of (op_of c.args.job.now.task.now.plan c.args.job.now.task.now.op) = c.target.ensures ∙ ap target_of c.operation.ensures.operation in
    c.array.ensures.array ∙ ap (array_at c.args.job.now.task.now.plan.arrays) target
