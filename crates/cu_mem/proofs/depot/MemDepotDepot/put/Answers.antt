use Rattle.cu_store.proofs.Steps.{steps_none, steps_then}
use Rattle.cu_mem.proofs.MemorySteps.{set_step, put_off_step}
use Rattle.cu_mem.proofs.depot.MemDepotDepot.put.Goals as goal

pub returns-in-Ok-clause-step : goal.returns-in-Ok-clause-step
returns-in-Ok-clause-step c =
    steps_then (steps_none c.begin.ensures.step)
    (set_step c.args.key.now c.args.bytes.now c.begin.new.self c.insert.new.self c.in-Ok.ensures.stored c.in-Ok.ensures.others c.in-Ok.ensures.late c.in-Ok.ensures.faults c.in-Ok.ensures.calls)

pub returns-in-Ok-put_off-clause-step : goal.returns-in-Ok-put_off-clause-step
returns-in-Ok-put_off-clause-step c =
    steps_then (steps_none c.begin.ensures.step)
    (put_off_step record { entry = (c.args.key.now, c.args.bytes.now); wait = c.in-Fails-Some.wait } c.begin.new.self c.put_off.new.self c.fault-in-Ok-put_off.new.self c.in-Ok-put_off.ensures.kept c.fault-in-Ok-put_off.ensures.raised c.fault-in-Ok-put_off.ensures.count)
