use Rattle.cu_work.proofs.Worked.{alone_worked}
use Rattle.cu_work.proofs.together.work_alone.Goals as goal

pub returns-clause-worked : goal.returns-clause-worked
returns-clause-worked g c =
    let r = c.drive_alone-outcome in
    alone_worked (g.Y.Yard.serves c.args.yard.now) c.args.table r.new.table (g.Y.Yard.knows c.args.pass.now) (g.Y.Yard.knows r.new.pass)
    (g.Y.Yard.laws.fits c.args.yard.now r.new.pass r.ensures.own) r.ensures.ran
