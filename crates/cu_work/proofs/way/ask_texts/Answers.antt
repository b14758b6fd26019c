use Rattle.std.proofs.Common.{ℕ, ◌+◌, List, subst}
use Rattle.std.specs.Prelude.{Ok, Err}
use Rattle.std.proofs.lemmas.List.{take_all}
use Rattle.cu_work.specs.Order.{IsAsked}
use Rattle.cu_work.proofs.Asking.{text_more, text_ended}
use Rattle.cu_work.proofs.way.ask_texts.Goals as goal

pub returns-in-Err : goal.returns-in-Err
returns-in-Err g c =
    text_ended (c.args.retries + 1) c.args.texts.now (c.loop-key.key-index + 1) (g.D.PutStore.shown c.args.depot.now) (g.D.PutStore.shown c.ask_key.new.depot) c.in-Err.fault
    (text_more (c.args.retries + 1) c.args.texts.now c.loop-key.key-index c.key-item.result (g.D.PutStore.shown c.args.depot.now) (g.D.PutStore.shown c.loop-key.depot) (g.D.PutStore.shown c.ask_key.new.depot)
    (Err c.in-Err.fault) c.loop-key-test.true c.key-item.is c.loop-key.invariant c.in-Err.ensures)

pub loop-key-preserved : goal.loop-key-preserved
loop-key-preserved g c =
    text_more (c.args.retries + 1) c.args.texts.now c.loop-key.key-index c.key-item.result (g.D.PutStore.shown c.args.depot.now) (g.D.PutStore.shown c.loop-key.depot) (g.D.PutStore.shown c.ask_key.new.depot)
    (Ok tt) c.loop-key-test.true c.key-item.is c.loop-key.invariant c.in_default.ensures

pub returns : goal.returns
returns g c =
    let t = c.loop-key-test.false in
    subst (λ (ks : List (List ℕ)). IsAsked (c.args.retries + 1) (g.D.PutStore.shown c.args.depot.now) (g.D.PutStore.shown c.loop-key.depot) ks (Ok tt)) (take_all c.loop-key.key-index c.args.texts.now t)
    c.loop-key.invariant
