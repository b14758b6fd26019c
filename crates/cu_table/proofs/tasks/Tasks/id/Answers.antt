use Rattle.cu_table.proofs.Ids.{id_task, id_number}
use Rattle.cu_table.proofs.tasks.Tasks.id.Goals as goal

pub returns-clause-task : goal.returns-clause-task
returns-clause-task c = id_task _ _ _ c.self.invariant _ c.self.view_is c.args.number c.requires c.index.result.now c.index.ensures

pub returns-clause-number : goal.returns-clause-number
returns-clause-number c = id_number _ _ _ c.self.invariant _ c.self.view_is c.args.number c.requires c.index.result.now c.index.ensures
