use Rattle.cu_table.specs.Queue.{of_tasks}
use Rattle.cu_table.proofs.Lining.{over_within}
use Rattle.cu_table.proofs.Wakes.{wake_place, wake_more, wake_less, wake_none}
use Rattle.cu_table.proofs.ready.wake.Goals as goal

pub settle-requires-clause-place : goal.settle-requires-clause-place
settle-requires-clause-place c =
    wake_place c.args.tasks.now c.args.states.now c.args.thing c.requires.over c.args.queue.now c.loop-number.queue c.unwatch.new.self c.loop-number.invariant c.in-Some.number
    (over_within c.args.tasks.now (of_tasks c.args.states.now) c.args.thing _ c.requires.over c.loop-number.invariant.lined.things) c.in-Some.ensures.task.0 c.in-Some.ensures.lists

pub loop-number-preserved : goal.loop-number-preserved
loop-number-preserved c =
    wake_more c.args.tasks.now c.args.states.now c.args.thing c.requires.over c.args.queue.now c.loop-number.queue c.unwatch.new.self c.loop-number.invariant c.in-Some.number
    (over_within c.args.tasks.now (of_tasks c.args.states.now) c.args.thing _ c.requires.over c.loop-number.invariant.lined.things) c.in-Some.ensures.task.0 c.in-Some.ensures.lists c.settle.new.queue c.settle.ensures

pub loop-number-smaller : goal.loop-number-smaller
loop-number-smaller c =
    wake_less c.args.tasks.now c.args.states.now c.args.thing c.requires.over c.args.queue.now c.loop-number.queue c.unwatch.new.self c.loop-number.invariant c.in-Some.number
    (over_within c.args.tasks.now (of_tasks c.args.states.now) c.args.thing _ c.requires.over c.loop-number.invariant.lined.things) c.in-Some.ensures.task.0 c.in-Some.ensures.lists c.settle.new.queue c.settle.ensures

pub returns : goal.returns
returns c =
    wake_none c.args.tasks.now c.args.states.now c.args.thing c.args.queue.now c.loop-number.queue c.unwatch.new.self c.loop-number.invariant c.in_default.ensures.task.0 c.in_default.ensures.task.1
