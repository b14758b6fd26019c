use Rattle.std.proofs.Common.{sym, ap, ◌∙◌, arith}
use Rattle.cu_op.specs.Schedule.{op_of}
use Rattle.cu_op.specs.Operation.{value_array}
use Rattle.cu_task.proofs.Inside.{scratch_of_work}
use Rattle.cu_task.proofs.TaskKinds.{only_written}
use Rattle.cu_task.proofs.results.write_results.Goals as goal

pub write_both-requires-clause-stored : goal.write_both-requires-clause-stored
write_both-requires-clause-stored g c = sym (c.stored.ensures ∙ ap value_array c.operation.ensures.operation) ∙ c.in-Some.is

pub write_only-requires-clause-only : goal.write_only-requires-clause-only
write_only-requires-clause-only g c = only_written (op_of c.args.task.now.plan c.args.task.now.op) (sym (c.stored.ensures ∙ ap value_array c.operation.ensures.operation) ∙ c.in-None.is)

pub write_only-requires-clause-puts : goal.write_only-requires-clause-puts
write_only-requires-clause-puts g c = (c.requires.puts.start, c.requires.puts.made.output, c.requires.puts.changes)

pub returns-in-None-clause-step : goal.returns-in-None-clause-step
returns-in-None-clause-step g c start over = c.write_only.ensures.step start over.output

pub returns-in-None-clause-stored : goal.returns-in-None-clause-stored
returns-in-None-clause-stored g c env start calls over ready before = c.write_only.ensures.stored env start calls over.output ready before

pub write_only-requires-clause-scratch : goal.write_only-requires-clause-scratch
write_only-requires-clause-scratch g c =
    let own = scratch_of_work c.args.task.now.plan c.args.task.now.op in
    let most = c.requires.room.scratch in
    omega (arith, own, most)
