use Rattle.std.proofs.Common.{◌+◌}
use Rattle.cu_top.proofs.AskLemmas.{own_ended, own_zarray}
use Rattle.cu_top.proofs.ask.ask_own.Goals as goal

pub returns-in-Ok-clause-refused : goal.returns-in-Ok-clause-refused
returns-in-Ok-clause-refused g c = λ options.
    own_zarray (c.args.retries + 1) c.args.job.now options (g.D.PutStore.shown c.args.depot.now) (g.D.PutStore.shown c.ask_texts.new.depot) c.zarray_of.result c.zarray_of.ensures c.requires.own
    (rw (← c.text_keys.ensures.record, ← c.text_keys.ensures.metadata) c.in-Ok.ensures)

pub returns-in-Err-clause-refused : goal.returns-in-Err-clause-refused
returns-in-Err-clause-refused g c = λ options.
    own_ended (c.args.retries + 1) c.args.job.now options (g.D.PutStore.shown c.args.depot.now) (g.D.PutStore.shown c.ask_texts.new.depot) c.in-Err.fault
    (rw (← c.text_keys.ensures.record, ← c.text_keys.ensures.metadata) c.in-Err.ensures)
