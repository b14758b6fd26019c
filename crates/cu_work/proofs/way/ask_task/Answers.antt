use Rattle.std.proofs.Common.{◌+◌}
use Rattle.cu_work.proofs.Asking.{cells_at_first, cells_all, chunk_first, cells_ended, cells_more}
use Rattle.cu_work.proofs.way.ask_task.Goals as goal

pub loop-cell-init : goal.loop-cell-init
loop-cell-init g c =
    cells_at_first (c.args.retries + 1) c.args.plan.now c.args.op c.args.task (g.D.PutStore.shown c.args.depot.now) c.outputs-cell-items.result c.into_iter-cell-iterator.result
    c.into_iter-cell-iterator.ensures.into_iter_gives c.outputs-cell-items.ensures.cells c.outputs-cell-items.ensures.chunks

pub key_of-requires : goal.key_of-requires
key_of-requires g c =
    chunk_first (c.args.retries + 1) c.args.plan.now c.args.op c.args.task (g.D.PutStore.shown c.args.depot.now) (g.D.PutStore.shown c.loop-cell.depot) c.loop-cell.cell-iterator c.loop-cell.invariant
    c.in-Some.cell c.next.new.self c.in-Some.ensures.steps

pub returns-in-Err : goal.returns-in-Err
returns-in-Err g c =
    cells_ended (c.args.retries + 1) c.args.plan.now c.args.op c.args.task (g.D.PutStore.shown c.args.depot.now) (g.D.PutStore.shown c.loop-cell.depot) c.loop-cell.cell-iterator c.loop-cell.invariant
    c.in-Some.cell c.next.new.self c.in-Some.ensures.steps c.key_of.result c.key_of.ensures (g.D.PutStore.shown c.ask_key.new.depot) c.in-Err.fault c.in-Err.ensures

pub loop-cell-preserved : goal.loop-cell-preserved
loop-cell-preserved g c =
    cells_more (c.args.retries + 1) c.args.plan.now c.args.op c.args.task (g.D.PutStore.shown c.args.depot.now) (g.D.PutStore.shown c.loop-cell.depot) c.loop-cell.cell-iterator c.loop-cell.invariant
    c.in-Some.cell c.next.new.self c.in-Some.ensures.steps c.key_of.result c.key_of.ensures (g.D.PutStore.shown c.ask_key.new.depot) c.in_default.ensures

pub returns : goal.returns
returns g c =
    cells_all (c.args.retries + 1) c.args.plan.now c.args.op c.args.task (g.D.PutStore.shown c.args.depot.now) (g.D.PutStore.shown c.loop-cell.depot) c.loop-cell.cell-iterator c.loop-cell.invariant
    c.in-None.ensures.steps.0
