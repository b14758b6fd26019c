use Rattle.cu_op.specs.Schedule.{op_of}
use Rattle.cu_op.proofs.Plans.{own_region}
use Rattle.cu_op.proofs.task.PlanTask.make.Goals as goal

pub of_region-requires-clause-region : goal.of_region-requires-clause-region
of_region-requires-clause-region c = own_region c.args.plan.now.arrays (op_of c.args.plan.now c.args.op) c.args.number c.requires.task
