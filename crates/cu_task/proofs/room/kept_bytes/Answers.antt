use Rattle.std.proofs.Common.{◌<◌, ◌^◌, ℕ, sym, ◌∙◌, subst}
use Rattle.cu_op.specs.Schedule.{op_of}
use Rattle.cu_task.specs.Task.{IsComputing}
use Rattle.cu_task.specs.Routes.{IsRouteOf}
use Rattle.cu_task.proofs.TaskKinds.{copy_keeps, view_keeps}
use Rattle.cu_task.proofs.TaskRooms.{kept_computing}
use Rattle.cu_task.proofs.room.kept_bytes.Goals as goal

pub returns-in-View : goal.returns-in-View
returns-in-View c =
    let t = c.args.task.now in
    let way = subst (IsRouteOf (op_of t.plan t.op)) c.in-View.is c.route_of.ensures.route in
    sym (view_keeps t.plan.arrays (op_of t.plan t.op) t.number _ _ way.0)

pub returns-in-Copying : goal.returns-in-Copying
returns-in-Copying c =
    let t = c.args.task.now in
    sym (copy_keeps t.plan.arrays (op_of t.plan t.op) t.number (subst (IsRouteOf (op_of t.plan t.op)) c.in-Copying.is c.route_of.ensures.route))

pub input_bytes-requires : goal.input_bytes-requires
input_bytes-requires c =
    let t = c.args.task.now in
    let is : IsComputing (op_of t.plan t.op) = subst (IsRouteOf (op_of t.plan t.op)) c.in-Computing.is c.route_of.ensures.route in
    subst (λ (n : ℕ). n < 2 ^ 64) (kept_computing t.plan.arrays (op_of t.plan t.op) t.number is) c.requires

pub returns-in-Computing : goal.returns-in-Computing
returns-in-Computing c =
    let t = c.args.task.now in
    let is : IsComputing (op_of t.plan t.op) = subst (IsRouteOf (op_of t.plan t.op)) c.in-Computing.is c.route_of.ensures.route in
    c.input_bytes.ensures ∙ sym (kept_computing t.plan.arrays (op_of t.plan t.op) t.number is)
