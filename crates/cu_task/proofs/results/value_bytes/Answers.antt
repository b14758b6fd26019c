use Rattle.std.proofs.Common.{◌≡◌, Some, None, sym, ap, ◌∙◌}
use Rattle.std.proofs.lemmas.List.Elements.{All-contains}
use Rattle.cu_op.specs.Operation.{reads_of, IsReadable, compared_array}
use Rattle.cu_op.specs.Schedule.{op_of}
use Rattle.cu_op.proofs.TaskCells.{fit_of}
use Rattle.cu_task.specs.Task.{room_beside}
use Rattle.cu_task.proofs.TaskKinds.{compared_reads}
use Rattle.cu_task.proofs.results.value_bytes.Goals as goal

pub region_room-requires : goal.region_room-requires
region_room-requires c =
    let is : compared_array (op_of c.args.task.now.plan c.args.task.now.op) ≡ Some c.in-Some.array = sym (c.compared.ensures ∙ ap compared_array c.operation.ensures.operation) ∙ c.in-Some.is in
    (All-contains (IsReadable c.args.task.now.plan.arrays c.args.task.now.op) (reads_of (op_of c.args.task.now.plan c.args.task.now.op)) c.in-Some.array (fit_of c.args.task.now.plan c.operation.ensures.sound c.args.task.now.op c.args.task.now.operation).0 (compared_reads (op_of c.args.task.now.plan c.args.task.now.op) c.in-Some.array is)).0

pub returns-in-Some : goal.returns-in-Some
returns-in-Some c =
    let is : compared_array (op_of c.args.task.now.plan c.args.task.now.op) ≡ Some c.in-Some.array = sym (c.compared.ensures ∙ ap compared_array c.operation.ensures.operation) ∙ c.in-Some.is in
    c.region_room.ensures.bytes ∙ ap (room_beside c.args.task.now.plan.arrays (op_of c.args.task.now.plan c.args.task.now.op) c.args.task.now.number) (sym is)

pub returns-in-None : goal.returns-in-None
returns-in-None c =
    let is : compared_array (op_of c.args.task.now.plan c.args.task.now.op) ≡ None = sym (c.compared.ensures ∙ ap compared_array c.operation.ensures.operation) ∙ c.in-None.is in
    ap (room_beside c.args.task.now.plan.arrays (op_of c.args.task.now.plan c.args.task.now.op) c.args.task.now.number) (sym is)
