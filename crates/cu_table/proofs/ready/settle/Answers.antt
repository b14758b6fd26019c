use Rattle.cu_table.specs.Queue.{of_tasks}
use Rattle.cu_table.proofs.Lining.{thing_within, settle_pushed, settle_watched}
use Rattle.cu_table.proofs.ready.settle.Goals as goal

pub watch-requires-clause-thing : goal.watch-requires-clause-thing
watch-requires-clause-thing c =
    thing_within c.args.tasks.now (of_tasks c.args.states.now) c.in-Some.thing c.id.result.op c.id.result.task _ c.in-Some.ensures c.requires.place.things

pub returns-in-None : goal.returns-in-None
returns-in-None c =
    settle_pushed c.args.tasks.now (of_tasks c.args.states.now) c.id.result c.id.ensures.task c.args.number c.id.ensures.number c.args.queue.now c.push.new.self c.in-None.ensures c.push.ensures

pub returns-in-Some : goal.returns-in-Some
returns-in-Some c =
    settle_watched c.args.tasks.now (of_tasks c.args.states.now) c.id.result c.id.ensures.task c.args.number c.id.ensures.number c.args.queue.now c.watch.new.self c.in-Some.thing c.in-Some.ensures
    (thing_within c.args.tasks.now (of_tasks c.args.states.now) c.in-Some.thing c.id.result.op c.id.result.task _ c.in-Some.ensures c.requires.place.things) c.watch.ensures
