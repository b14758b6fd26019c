use Rattle.cu_op.proofs.Plans.{own_region}
use Rattle.std.proofs.Common.{◌≡◌, refl}
use Rattle.std.proofs.lemmas.List.Elements.{All-same}
use Rattle.cu_op.specs.Cells.{IsChunk}
use Rattle.cu_op.specs.Schedule.{op_of}
use Rattle.cu_op.specs.Walks.{written_chunks}
use Rattle.cu_op.proofs.TaskCells.{fit_of, output_over, written_chunk}
use Rattle.cu_op.proofs.schedule.outputs.Goals as goal

pub make-requires : goal.make-requires
make-requires c =
    let p = c.args.plan.now in
    let s = c.arrays.ensures.sound in
    rw (c.arrays.ensures.arrays, c.output_walks-walks.ensures, c.operation.ensures.operation, c.task_region.ensures.lo, c.task_region.ensures.hi)
    (output_over p s c.args.op (op_of p c.args.op) (fit_of p s c.args.op c.requires.operation) c.args.task (own_region p.arrays (op_of p c.args.op) c.args.task c.requires.task))

pub returns-clause-chunks : goal.returns-clause-chunks
returns-clause-chunks c =
    let p = c.args.plan.now in
    let s = c.arrays.ensures.sound in
    let e : c.make.result ≡ written_chunks p.arrays (op_of p c.args.op) c.args.task =
    rw (c.make.ensures, c.arrays.ensures.arrays, c.output_walks-walks.ensures, c.operation.ensures.operation, c.task_region.ensures.lo, c.task_region.ensures.hi) refl in
    All-same (IsChunk p.arrays) c.make.result (written_chunks p.arrays (op_of p c.args.op) c.args.task) e
    (written_chunk p s c.args.op (op_of p c.args.op) (fit_of p s c.args.op c.requires.operation) c.args.task (own_region p.arrays (op_of p c.args.op) c.args.task c.requires.task))

pub task_region-requires-clause-task : goal.task_region-requires-clause-task
task_region-requires-clause-task c = own_region c.args.plan.now.arrays (op_of c.args.plan.now c.args.op) c.args.task c.requires.task
