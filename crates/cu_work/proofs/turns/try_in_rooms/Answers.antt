use Rattle.cu_work.proofs.Turning.{may_report}
use Rattle.cu_work.proofs.turns.try_in_rooms.Goals as goal

pub returns-clause-may : goal.returns-clause-may
returns-clause-may g c =
    let e = c.try_in_yard.ensures in
    let k = g.Y.Yard.knows c.try_in_yard.new.pass in
    may_report c.args.plan.now c.args.op c.args.task c.try_in_yard.result (g.Y.Yard.knows c.args.pass.now, k) (g.Y.Yard.serves c.args.yard.now) c.requires.task
    (g.Y.Yard.laws.fits c.args.yard.now c.try_in_yard.new.pass e.own) e.tried
