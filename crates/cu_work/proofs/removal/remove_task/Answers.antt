use Rattle.std.proofs.Common.{◌+◌}
use Rattle.cu_work.proofs.Removing.{removed_at_first, removed_all, chunk_at, removed_stopped, removed_more}
use Rattle.cu_work.proofs.removal.remove_task.Goals as goal

pub loop-cell-init : goal.loop-cell-init
loop-cell-init g c =
    removed_at_first (c.args.retries + 1) c.args.plan.now c.args.op c.args.task (g.D.Depot.shown c.args.depot.now) c.outputs-cell-items.result c.into_iter-cell-iterator.result
    c.into_iter-cell-iterator.ensures.into_iter_gives c.outputs-cell-items.ensures.cells c.outputs-cell-items.ensures.chunks

pub key_of-requires : goal.key_of-requires
key_of-requires g c =
    chunk_at (c.args.retries + 1) c.args.plan.now c.args.op c.args.task (g.D.Depot.shown c.args.depot.now) (g.D.Depot.shown c.loop-cell.depot) c.loop-cell.cell-iterator c.loop-cell.invariant
    c.in-Some.cell c.next.new.self c.in-Some.ensures.steps

pub returns-in-Err : goal.returns-in-Err
returns-in-Err g c =
    removed_stopped (c.args.retries + 1) c.args.plan.now c.args.op c.args.task (g.D.Depot.shown c.args.depot.now) (g.D.Depot.shown c.loop-cell.depot) c.loop-cell.cell-iterator c.loop-cell.invariant
    c.in-Some.cell c.next.new.self c.in-Some.ensures.steps c.key_of.result c.key_of.ensures (g.D.Depot.shown c.remove_key.new.depot) c.in-Err.fault c.in-Err.ensures.removed

pub loop-cell-preserved : goal.loop-cell-preserved
loop-cell-preserved g c =
    removed_more (c.args.retries + 1) c.args.plan.now c.args.op c.args.task (g.D.Depot.shown c.args.depot.now) (g.D.Depot.shown c.loop-cell.depot) c.loop-cell.cell-iterator c.loop-cell.invariant
    c.in-Some.cell c.next.new.self c.in-Some.ensures.steps c.key_of.result c.key_of.ensures (g.D.Depot.shown c.remove_key.new.depot) c.in_default.ensures.removed

pub returns : goal.returns
returns g c =
    removed_all (c.args.retries + 1) c.args.plan.now c.args.op c.args.task (g.D.Depot.shown c.args.depot.now) (g.D.Depot.shown c.loop-cell.depot) c.loop-cell.cell-iterator c.loop-cell.invariant
    c.in-None.ensures.steps.0
