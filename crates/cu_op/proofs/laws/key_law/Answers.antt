use Rattle.cu_op.proofs.CellsOfTasks.{coordinates_small}
use Rattle.cu_op.proofs.KeyTexts.{keys_differ}
use Rattle.cu_op.proofs.laws.key_law.Goals as goal

pub returns : goal.returns
returns c = record {
  small = coordinates_small;
  differ = keys_differ;
}
