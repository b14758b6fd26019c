use Rattle.std.proofs.Common.{◌+◌, subst}
use Rattle.cu_work.specs.Run.{AreTextsHeld}
use Rattle.cu_work.specs.declared.run.HeldTexts.{HeldTexts}
use Rattle.cu_work.proofs.Running.{second_step, second_stored, second_unstored, both_there}
use Rattle.cu_work.proofs.run.put_texts.Goals as goal

pub returns-in-Record-clause-step : goal.returns-in-Record-clause-step
returns-in-Record-clause-step g c =
    let first = g.D.PutStore.shown c.args.depot.now in
    second_step c.args.plan.now c.args.texts.now (c.args.retries + 1) first (subst (λ (h : HeldTexts). AreTextsHeld h c.args.texts.now first.held) c.in-Record.is c.requires)
    (g.D.PutStore.shown c.put_text.new.depot) c.put_text.ensures.step

pub returns-in-Record-clause-stored : goal.returns-in-Record-clause-stored
returns-in-Record-clause-stored g c =
    let first = g.D.PutStore.shown c.args.depot.now in
    second_stored c.args.plan.now c.args.texts.now (c.args.retries + 1) first (subst (λ (h : HeldTexts). AreTextsHeld h c.args.texts.now first.held) c.in-Record.is c.requires)
    (g.D.PutStore.shown c.put_text.new.depot) c.put_text.ensures.step c.put_text.result c.put_text.ensures.stored

pub returns-in-Record-clause-unstored : goal.returns-in-Record-clause-unstored
returns-in-Record-clause-unstored g c =
    let first = g.D.PutStore.shown c.args.depot.now in
    second_unstored c.args.plan.now c.args.texts.now (c.args.retries + 1) first (subst (λ (h : HeldTexts). AreTextsHeld h c.args.texts.now first.held) c.in-Record.is c.requires)
    (g.D.PutStore.shown c.put_text.new.depot) c.put_text.ensures.step c.put_text.result c.put_text.ensures.cause

pub returns-in-Both-clause-stored : goal.returns-in-Both-clause-stored
returns-in-Both-clause-stored g c =
    let first = g.D.PutStore.shown c.args.depot.now in
    both_there c.args.plan.now c.args.texts.now first (subst (λ (h : HeldTexts). AreTextsHeld h c.args.texts.now first.held) c.in-Both.is c.requires)
