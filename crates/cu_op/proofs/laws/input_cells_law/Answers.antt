use Rattle.cu_op.specs.Schedule.{op_of}
use Rattle.cu_op.proofs.Plans.{grid_ok}
use Rattle.cu_op.proofs.TaskCells.{fit_of}
use Rattle.cu_op.proofs.TaskInputs.{reads_same}
use Rattle.cu_op.proofs.Fetched.{fetched_before, fetched_same, fetched_stored}
use Rattle.cu_op.proofs.laws.input_cells_law.Goals as goal

pub returns : goal.returns
returns c = record {
  cells = λ p k task d s. fetched_same p s k task d;
  stored = λ p k task d s. fetched_stored p s k task d;
  before = λ p k task d s. fetched_before p s k task d;
  own = λ p k task d s h t. reads_same p.arrays (λ a l. grid_ok p a s l) k (op_of p k) task d (fit_of p s k h) t;
}
