use Rattle.std.proofs.Common.{◌∙◌, ap, length, subst, sym}
use Rattle.cu_work.specs.Asked.{AreChosen}
use Rattle.cu_work.proofs.PartEnds.{part_end, part_step}
use Rattle.cu_work.proofs.part.run_part.Goals as goal

pub returns-clause-end : goal.returns-clause-end
returns-clause-end g c =
    part_end c.range_law.ensures.values c.args.plan.now c.ops-ops.ensures.sound c.args.part.now c.requires.part c.args.retries (g.D.PutStore.shown c.args.depot.now) (g.D.PutStore.shown c.choose_tasks.new.depot) (g.D.PutStore.shown c.run_chosen.new.depot)
    c.deref.result.now (ap length c.deref.ensures.value ∙ c.in_ok-chosen.ensures.whole) c.in_ok-chosen.ensures.asked c.in_ok-chosen.ensures.each
    (subst (AreChosen c.args.plan.now c.args.part.now (g.D.PutStore.shown c.args.depot.now, g.D.PutStore.shown c.choose_tasks.new.depot)) (sym c.deref.ensures.value) c.in_ok-chosen.ensures.chosen) c.run_chosen.ensures.step
    c.run_chosen.result c.run_chosen.ensures.run c.run_chosen.ensures.starts c.run_chosen.ensures.stopped

pub returns-clause-step : goal.returns-clause-step
returns-clause-step g c =
    part_step c.range_law.ensures.values c.args.plan.now c.ops-ops.ensures.sound c.args.part.now c.requires.part c.args.retries (g.D.PutStore.shown c.args.depot.now) (g.D.PutStore.shown c.choose_tasks.new.depot) (g.D.PutStore.shown c.run_chosen.new.depot)
    c.deref.result.now (ap length c.deref.ensures.value ∙ c.in_ok-chosen.ensures.whole) c.in_ok-chosen.ensures.asked c.in_ok-chosen.ensures.each
    (subst (AreChosen c.args.plan.now c.args.part.now (g.D.PutStore.shown c.args.depot.now, g.D.PutStore.shown c.choose_tasks.new.depot)) (sym c.deref.ensures.value) c.in_ok-chosen.ensures.chosen) c.run_chosen.ensures.step
