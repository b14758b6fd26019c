use Rattle.std.proofs.Common.{◌+◌, ◌≢◌, None}
use Rattle.std.specs.HashSet.{contains_text}
use Rattle.cu_op.specs.Arrays.{maker_at}
use Rattle.cu_op.specs.Schedule.{key_of}
use Rattle.cu_work.specs.Asked.{AskedOn, asking_of}
use Rattle.cu_work.proofs.AskedTasks.{cell_asked}
use Rattle.cu_work.proofs.choosing.ask_cell.Goals as goal

pub returns-clause-asked : goal.returns-clause-asked
returns-clause-asked g c = λ start own lacks a.
    cell_asked (AskedOn (asking_of c.args.plan.now c.args.part.now (c.args.retries + 1) start) own (contains_text c.ask_input.new.known) (g.D.PutStore.shown c.ask_input.new.depot) c.ask_input.result)
    c.ask_input.result (g.D.PutStore.shown c.ask_input.new.depot).held _ (key_of c.args.plan.now.arrays c.args.cell.now) (maker_at c.args.plan.now.arrays c.args.cell.now.array ≢ None)
    c.key_of.ensures (c.ask_input.ensures.asked start own lacks a)
