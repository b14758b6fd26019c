use Rattle.cu_region.proofs.Passes.{later_pass}
use Rattle.cu_task.proofs.InputReads.{on_ok_then, on_err_more}
use Rattle.cu_task.proofs.Serving.{may_read, may_write, ready_told, seen_outputs, inputs_stay, bad_of_input}
use Rattle.cu_store.specs.Yard.{shown_by}
use Rattle.cu_task.proofs.yards.run_task.Goals as goal

pub run_task_of-requires-clause-may : goal.run_task_of-requires-clause-may
run_task_of-requires-clause-may g c =
    may_read c.args.plan.now c.ops-ops.ensures.sound (g.Y.Yard.serves c.args.yard.now) (g.Y.Yard.knows c.args.pass.now) (g.Y.Yard.laws.fits c.args.yard.now c.args.pass.now c.requires.own)
    c.requires.serves c.args.op c.args.task c.requires.operation c.requires.task c.requires.inputs

pub run_task_of-requires-clause-puts : goal.run_task_of-requires-clause-puts
run_task_of-requires-clause-puts g c =
    may_write c.args.plan.now c.ops-ops.ensures.sound c.range_law.ensures.values c.range_law.ensures.stored (g.Y.Yard.serves c.args.yard.now) (g.Y.Yard.knows c.args.pass.now)
    (g.Y.Yard.laws.fits c.args.yard.now c.args.pass.now c.requires.own) c.requires.serves c.args.op c.args.task c.requires.operation c.requires.task c.requires.inputs

pub returns-clause-later : goal.returns-clause-later
returns-clause-later g c = later_pass g.Y.Yard.laws c.args.yard.now c.args.pass.now c.run_task_of.new.access c.requires.own c.run_task_of.ensures.open.belongs c.run_task_of.ensures.open.gets

pub returns-clause-seen : goal.returns-clause-seen
returns-clause-seen g c =
    on_ok_then c.run_task_of.result
    (seen_outputs c.args.plan.now c.ops-ops.ensures.sound (g.Y.Yard.serves c.args.yard.now) (g.Y.Yard.knows c.run_task_of.new.access)
    (g.Y.Yard.laws.fits c.args.yard.now c.run_task_of.new.access c.run_task_of.ensures.open.belongs) c.requires.serves c.args.op c.args.task c.requires.operation c.requires.task)
    c.run_task_of.ensures.got

pub returns-clause-stored : goal.returns-clause-stored
returns-clause-stored g c entries told =
    c.run_task_of.ensures.stored _
    (ready_told c.args.plan.now c.ops-ops.ensures.sound c.range_law.ensures.values c.range_law.ensures.stored (g.Y.Yard.serves c.args.yard.now) (g.Y.Yard.knows c.args.pass.now)
    (g.Y.Yard.laws.fits c.args.yard.now c.args.pass.now c.requires.own) c.requires.serves c.args.op c.args.task c.requires.operation c.requires.task c.requires.inputs entries told)

pub returns-clause-bad : goal.returns-clause-bad
returns-clause-bad g c =
    let p = c.args.plan.now in
    let yard = g.Y.Yard.serves c.args.yard.now in
    let old = g.Y.Yard.knows c.args.pass.now in
    let new = g.Y.Yard.knows c.run_task_of.new.access in
    let fits = g.Y.Yard.laws.fits c.args.yard.now c.args.pass.now c.requires.own in
    let still = inputs_stay p c.ops-ops.ensures.sound yard old new c.requires.serves fits c.args.op c.args.task c.requires.operation c.requires.task c.run_task_of.ensures.open.gets c.requires.inputs in
    on_err_more c.run_task_of.result
    (bad_of_input p c.ops-ops.ensures.sound c.range_law.ensures.values c.range_law.ensures.stored yard new
    (g.Y.Yard.laws.fits c.args.yard.now c.run_task_of.new.access c.run_task_of.ensures.open.belongs) c.requires.serves c.args.op c.args.task c.requires.operation c.requires.task still (shown_by old))
    c.run_task_of.ensures.cause
