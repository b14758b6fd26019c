use Rattle.std.proofs.Common.{◌≡◌, refl}
use Rattle.std.proofs.lemmas.List.Elements.{All-same}
use Rattle.cu_op.specs.Schedule.{op_of}
use Rattle.cu_op.specs.Walks.{IsWalkOver, input_walks}
use Rattle.cu_op.proofs.TaskCells.{fit_of, task_first, task_last, reads_within, target_within, input_over}
use Rattle.cu_op.proofs.schedule.walks_from.Goals as goal

pub read_walks-requires-clause-reads : goal.read_walks-requires-clause-reads
read_walks-requires-clause-reads c =
    let p = c.args.plan.now in
    let s = c.operation.ensures.sound in
    rw (c.arrays.ensures.arrays, c.operation.ensures.operation) (reads_within p s c.args.op (op_of p c.args.op) (fit_of p s c.args.op c.requires.operation))

pub read_walks-requires-clause-target : goal.read_walks-requires-clause-target
read_walks-requires-clause-target c =
    let p = c.args.plan.now in
    let s = c.operation.ensures.sound in
    rw (c.arrays.ensures.arrays, c.operation.ensures.operation) (target_within p s c.args.op (op_of p c.args.op) (fit_of p s c.args.op c.requires.operation))

pub read_walks-requires-clause-fits : goal.read_walks-requires-clause-fits
read_walks-requires-clause-fits c =
    let p = c.args.plan.now in
    let s = c.operation.ensures.sound in
    rw (c.arrays.ensures.arrays, c.operation.ensures.operation) (fit_of p s c.args.op c.requires.operation).2

pub read_walks-requires-clause-first : goal.read_walks-requires-clause-first
read_walks-requires-clause-first c =
    let p = c.args.plan.now in
    let s = c.operation.ensures.sound in
    rw (c.arrays.ensures.arrays, c.operation.ensures.operation, c.requires.lo)
    (task_first p s c.args.op (op_of p c.args.op) (fit_of p s c.args.op c.requires.operation) c.args.task c.requires.task)

pub read_walks-requires-clause-last : goal.read_walks-requires-clause-last
read_walks-requires-clause-last c =
    let p = c.args.plan.now in
    let s = c.operation.ensures.sound in
    rw (c.arrays.ensures.arrays, c.operation.ensures.operation, c.requires.hi)
    (task_last p s c.args.op (op_of p c.args.op) (fit_of p s c.args.op c.requires.operation) c.args.task c.requires.task)

pub returns-clause-regions : goal.returns-clause-regions
returns-clause-regions c =
    let p = c.args.plan.now in
    let s = c.operation.ensures.sound in
    let e : c.read_walks.result.items ≡ input_walks p.arrays (op_of p c.args.op) c.args.task =
    rw (c.read_walks.ensures.walks, c.arrays.ensures.arrays, c.operation.ensures.operation, c.requires.lo, c.requires.hi) refl in
    All-same (IsWalkOver p.arrays) c.read_walks.result.items (input_walks p.arrays (op_of p c.args.op) c.args.task) e
    (input_over p s c.args.op (op_of p c.args.op) (fit_of p s c.args.op c.requires.operation) c.args.task c.requires.task)
