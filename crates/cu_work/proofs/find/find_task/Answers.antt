use Rattle.std.proofs.Common.{◌+◌}
use Rattle.cu_work.proofs.Searching.{asked_at_first, asked_all, chunk_here, asked_ended, asked_yet, asked_absent}
use Rattle.cu_work.proofs.find.find_task.Goals as goal

pub loop-cell-init : goal.loop-cell-init
loop-cell-init g c =
    asked_at_first (c.args.retries + 1) c.args.plan.now c.args.op c.args.task (g.D.PutStore.shown c.args.depot.now) c.outputs-cell-items.result c.into_iter-cell-iterator.result
    c.into_iter-cell-iterator.ensures.into_iter_gives c.outputs-cell-items.ensures.cells c.outputs-cell-items.ensures.chunks

pub key_of-requires : goal.key_of-requires
key_of-requires g c =
    chunk_here (c.args.retries + 1) c.args.plan.now c.args.op c.args.task (g.D.PutStore.shown c.args.depot.now) (g.D.PutStore.shown c.loop-cell.depot) c.loop-cell.cell-iterator c.loop-cell.all
    c.loop-cell.invariant c.in-Some.cell c.next.new.self c.in-Some.ensures.steps

pub returns-in-Err-clause-cause : goal.returns-in-Err-clause-cause
returns-in-Err-clause-cause g c =
    asked_ended (c.args.retries + 1) c.args.plan.now c.args.op c.args.task (g.D.PutStore.shown c.args.depot.now) (g.D.PutStore.shown c.loop-cell.depot) c.loop-cell.cell-iterator c.loop-cell.all
    c.loop-cell.invariant c.in-Some.cell c.next.new.self c.in-Some.ensures.steps c.key_of.result c.key_of.ensures (g.D.PutStore.shown c.find_key.new.depot) c.in-Err.fault c.in-Err.ensures.cause

pub loop-cell-preserved-then-all : goal.loop-cell-preserved-then-all
loop-cell-preserved-then-all g c =
    asked_yet (c.args.retries + 1) c.args.plan.now c.args.op c.args.task (g.D.PutStore.shown c.args.depot.now) (g.D.PutStore.shown c.loop-cell.depot) c.loop-cell.cell-iterator c.loop-cell.all
    c.loop-cell.invariant c.in-Some.cell c.next.new.self c.in-Some.ensures.steps c.key_of.result c.key_of.ensures (g.D.PutStore.shown c.find_key.new.depot) c.in-Ok.held c.in-Ok.ensures.asked c.if-all.true

pub loop-cell-preserved : goal.loop-cell-preserved
loop-cell-preserved g c =
    asked_absent (c.args.retries + 1) c.args.plan.now c.args.op c.args.task (g.D.PutStore.shown c.args.depot.now) (g.D.PutStore.shown c.loop-cell.depot) c.loop-cell.cell-iterator c.loop-cell.all
    c.loop-cell.invariant c.in-Some.cell c.next.new.self c.in-Some.ensures.steps c.key_of.result c.key_of.ensures (g.D.PutStore.shown c.find_key.new.depot) c.in-Ok.held c.in-Ok.ensures.asked c.if-all.false

pub returns-clause-asked : goal.returns-clause-asked
returns-clause-asked g c =
    asked_all (c.args.retries + 1) c.args.plan.now c.args.op c.args.task (g.D.PutStore.shown c.args.depot.now) (g.D.PutStore.shown c.loop-cell.depot) c.loop-cell.cell-iterator c.loop-cell.all
    c.loop-cell.invariant c.in-None.ensures.steps.0
