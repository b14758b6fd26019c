use Rattle.cu_op.specs.PlanView.{op_of}
use Rattle.cu_op.proofs.TaskCells.{fit_of, target_within}
use Rattle.cu_op.proofs.inlining.is_listed.Goals as goal

pub array-requires : goal.array-requires
array-requires c =
    let p = c.args.plan.now in
    let s = c.operation.ensures.sound in
    rw (c.target.ensures, c.operation.ensures.operation)
    (target_within p s c.args.op (op_of p c.args.op) (fit_of p s c.args.op c.requires))
