use Rattle.std.proofs.Common.{subst}
use Rattle.cu_table.specs.Table.{TableView}
use Rattle.cu_work.specs.Starts.{IsOfWorkers}
use Rattle.cu_work.proofs.Started.{of_one}
use Rattle.cu_work.proofs.together.work.Goals as goal

pub returns-then-len-eq1-clause-workers : goal.returns-then-len-eq1-clause-workers
returns-then-len-eq1-clause-workers g c =
    of_one c.args.rooms.len c.requires.some c.args.table.settings c.work_alone.result.table.history c.work_alone.ensures.workers

pub returns-in-Err-clause-workers : goal.returns-in-Err-clause-workers
returns-in-Err-clause-workers g c =
    let was = c.in-Err.ensures.refused.0 in
    subst (λ (t : TableView). IsOfWorkers c.args.rooms.len t.settings c.work_alone-in-Err.result.table.history) was
    (of_one c.args.rooms.len c.requires.some c.in-Err.table.settings c.work_alone-in-Err.result.table.history c.work_alone-in-Err.ensures.workers)
