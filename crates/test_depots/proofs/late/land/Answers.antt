use Rattle.std.proofs.Common.{◌∙◌, sym}
use Rattle.test_depots.proofs.OwnLate.{due_landed}
use Rattle.test_depots.proofs.late.land.Goals as goal

pub returns-in-Some-clause-landed : goal.returns-in-Some-clause-landed
returns-in-Some-clause-landed g c =
    rw c.due.ensures.waits
    (due_landed (g.D.Depot.shown c.args.depot.now) (g.D.Depot.shown c.put.new.self) c.args.late.now c.in-Some.put (sym c.in-Some.is ∙ c.due.ensures.lands) (rw (← c.deref.ensures.value) c.put.ensures.step))
