use Rattle.cu_op.proofs.TaskCells.{ready_rule}
use Rattle.cu_op.proofs.laws.ready_law.Goals as goal

pub returns : goal.returns
returns c = λ p k task array env held coord idx s. ready_rule p s k task array env held coord idx
