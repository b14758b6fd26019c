use Rattle.std.proofs.Common.{◌+◌, Bool, subst, Ok}
use Rattle.cu_store.specs.Held.{Answers}
use Rattle.cu_top.proofs.AskLemmas.{caused_rose}
use Rattle.cu_work.proofs.Asking.{asked_held, asked_failed}
use Rattle.cu_top.proofs.ask.ask_text.Goals as goal

pub returns-in-Ok-true : goal.returns-in-Ok-true
returns-in-Ok-true g c =
    asked_held (c.args.retries + 1) (g.D.PutStore.shown c.args.depot.now) (g.D.PutStore.shown c.has_tries.new.depot) c.args.key.now c.has_tries.ensures.step c.has_tries.ensures.once
    (subst (λ (b : Bool). Answers (g.D.PutStore.shown c.has_tries.new.depot).held c.args.key.now (Ok b)) c.in-Ok-true.field-0-test c.in-Ok-true.ensures.answer)

pub returns-in-Err-Failed : goal.returns-in-Err-Failed
returns-in-Err-Failed g c =
    asked_failed (c.args.retries + 1) (g.D.PutStore.shown c.args.depot.now) (g.D.PutStore.shown c.has_tries.new.depot) c.args.key.now c.has_tries.ensures.step c.has_tries.ensures.once
    (caused_rose (c.args.retries + 1) (g.D.PutStore.shown c.args.depot.now) (g.D.PutStore.shown c.has_tries.new.depot) c.in-Err-Failed.field-0 c.in-Err-Failed.field-0-is c.in-Err-Failed.ensures.cause)
