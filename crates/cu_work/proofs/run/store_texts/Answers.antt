use Rattle.std.proofs.Common.{◌+◌, arith}
use Rattle.cu_store.proofs.Once.{once_then, once_few}
use Rattle.cu_work.proofs.Running.{record_step, texts_step, texts_own, texts_stored, metadata_unstored}
use Rattle.cu_work.proofs.run.store_texts.Goals as goal

pub returns-in-Err-clause-step : goal.returns-in-Err-clause-step
returns-in-Err-clause-step g c = record_step c.args.plan.now c.args.texts.now (c.args.retries + 1) (g.D.PutStore.shown c.args.depot.now) (g.D.PutStore.shown c.put_text.new.depot) c.put_text.ensures.step

pub returns-clause-step : goal.returns-clause-step
returns-clause-step g c =
    texts_step c.args.plan.now c.args.texts.now (c.args.retries + 1) (g.D.PutStore.shown c.args.depot.now) (g.D.PutStore.shown c.put_text.new.depot) c.put_text.ensures.step c.in_default.ensures.stored
    (g.D.PutStore.shown c.put_text-2.new.depot) c.put_text-2.ensures.step

pub returns-in-Err-clause-once : goal.returns-in-Err-clause-once
returns-in-Err-clause-once g c = once_few 1 2 (g.D.PutStore.shown c.args.depot.now) (g.D.PutStore.shown c.put_text.new.depot) (omega arith) c.put_text.ensures.once

pub returns-clause-once : goal.returns-clause-once
returns-clause-once g c =
    once_then 1 1 (g.D.PutStore.shown c.args.depot.now) (g.D.PutStore.shown c.put_text.new.depot) (g.D.PutStore.shown c.put_text-2.new.depot) c.put_text.ensures.once c.put_text-2.ensures.once

pub returns-clause-own : goal.returns-clause-own
returns-clause-own g c =
    texts_own c.args.plan.now c.args.texts.now (c.args.retries + 1) (g.D.PutStore.shown c.args.depot.now) (g.D.PutStore.shown c.put_text.new.depot) c.put_text.ensures.step c.in_default.ensures.stored
    (g.D.PutStore.shown c.put_text-2.new.depot) c.put_text-2.ensures.step

pub returns-clause-stored : goal.returns-clause-stored
returns-clause-stored g c =
    texts_stored c.args.plan.now c.args.texts.now (c.args.retries + 1) (g.D.PutStore.shown c.args.depot.now) (g.D.PutStore.shown c.put_text.new.depot) c.put_text.ensures.step c.in_default.ensures.stored
    (g.D.PutStore.shown c.put_text-2.new.depot) c.put_text-2.ensures.step
    c.put_text-2.result c.put_text-2.ensures.stored

pub returns-clause-unstored : goal.returns-clause-unstored
returns-clause-unstored g c =
    metadata_unstored c.args.plan.now c.args.texts.now (c.args.retries + 1) (g.D.PutStore.shown c.args.depot.now) (g.D.PutStore.shown c.put_text.new.depot) c.put_text.ensures.step c.in_default.ensures.stored
    (g.D.PutStore.shown c.put_text-2.new.depot) c.put_text-2.ensures.step
    c.put_text-2.result c.put_text-2.ensures.cause
