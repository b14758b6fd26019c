use Rattle.std.proofs.Common.{◌+◌, [], ◌∷◌}
use Rattle.cu_work.proofs.Asking.{asked_then, asked_ended}
use Rattle.cu_top.proofs.ask.ask_texts.Goals as goal

pub returns : goal.returns
returns g c =
    asked_then (c.args.retries + 1) (g.D.PutStore.shown c.args.depot.now) (g.D.PutStore.shown c.ask_text.new.depot) (g.D.PutStore.shown c.ask_text-2.new.depot)
    (c.args.keys.now.«record» ∷ []) (c.args.keys.now.metadata ∷ []) c.ask_text-2.result c.in_default.ensures c.ask_text-2.ensures

pub returns-in-Err : goal.returns-in-Err
returns-in-Err g c =
    asked_ended (c.args.retries + 1) (g.D.PutStore.shown c.args.depot.now) (g.D.PutStore.shown c.ask_text.new.depot) (c.args.keys.now.«record» ∷ []) (c.args.keys.now.metadata ∷ [])
    c.in-Err.fault c.in-Err.ensures
