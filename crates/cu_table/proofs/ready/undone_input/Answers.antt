use Rattle.cu_table.proofs.Inputs.{inputs_first, inputs_done, inputs_undone, inputs_all}
use Rattle.cu_table.proofs.ready.undone_input.Goals as goal

pub loop-cell-init : goal.loop-cell-init
loop-cell-init c =
    inputs_first c.args.tasks.now c.args.states.now c.args.op c.args.task c.plan.result.now c.plan.ensures.plan c.into_iter-cell-iterator.result c.inputs-cell-items.result
    c.into_iter-cell-iterator.ensures.into_iter_gives c.inputs-cell-items.ensures.exact c.inputs-cell-items.ensures.chunks c.inputs-cell-items.ensures.stored

pub loop-cell-preserved-in-None-undone_maker : goal.loop-cell-preserved-in-None-undone_maker
loop-cell-preserved-in-None-undone_maker c =
    inputs_done c.args.tasks.now c.args.states.now c.args.op c.args.task c.loop-cell.last c.loop-cell.cell-iterator c.loop-cell.invariant c.in-Some.cell c.next.new.self c.in-Some.ensures.steps
    c.in-None-undone_maker.ensures

pub loop-cell-preserved : goal.loop-cell-preserved
loop-cell-preserved c =
    inputs_undone c.args.tasks.now c.args.states.now c.args.op c.args.task c.loop-cell.last c.loop-cell.cell-iterator c.loop-cell.invariant c.in-Some.cell c.next.new.self c.in-Some.ensures.steps
    c.in-Some-undone_maker.number c.in-Some-undone_maker.ensures

pub returns : goal.returns
returns c = inputs_all c.args.tasks.now c.args.states.now c.args.op c.args.task c.loop-cell.last c.loop-cell.cell-iterator c.loop-cell.invariant c.in-None.ensures.steps.0
