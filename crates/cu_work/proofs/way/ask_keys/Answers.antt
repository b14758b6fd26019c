use Rattle.std.proofs.Common.{◌+◌, length}
use Rattle.cu_work.specs.Order.{plan_keys}
use Rattle.cu_work.proofs.Asking.{asked_then, asked_ended}
use Rattle.cu_work.proofs.way.ask_keys.Goals as goal

pub returns-in-Ok : goal.returns-in-Ok
returns-in-Ok g c =
    asked_then (c.args.retries + 1) (g.D.PutStore.shown c.args.depot.now) (g.D.PutStore.shown c.ask_texts.new.depot) (g.D.PutStore.shown c.ask_chunks.new.depot) c.args.texts.now
    (plan_keys c.args.plan.now (length c.args.plan.now.ops)) c.ask_chunks.result c.in-Ok.ensures c.ask_chunks.ensures

pub returns-in-Err : goal.returns-in-Err
returns-in-Err g c =
    asked_ended (c.args.retries + 1) (g.D.PutStore.shown c.args.depot.now) (g.D.PutStore.shown c.ask_texts.new.depot) c.args.texts.now (plan_keys c.args.plan.now (length c.args.plan.now.ops)) c.in-Err.fault c.in-Err.ensures
