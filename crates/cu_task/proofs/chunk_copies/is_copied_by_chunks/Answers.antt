use Rattle.std.proofs.Common.{subst}
use Rattle.cu_op.specs.Schedule.{op_of}
use Rattle.cu_task.specs.Routes.{IsRouteOf}
use Rattle.cu_task.proofs.chunk_copies.is_copied_by_chunks.Goals as goal

pub shares_enough-requires : goal.shares_enough-requires
shares_enough-requires c = subst (IsRouteOf (op_of c.args.task.now.plan c.args.task.now.op)) c.in-Copying.is c.route_of.ensures.route
