use Rattle.cu_op.specs.Chunks.{cell}
use Rattle.cu_op.specs.Schedule.{op_of}
use Rattle.cu_op.proofs.TaskCells.{fit_of, reads_lie_in, read_array}
use Rattle.cu_op.proofs.laws.input_law.Goals as goal

pub returns : goal.returns
returns c = record {
  reads = λ p k task array a coord idx i s w within reads. reads_lie_in p s k (op_of p k) (fit_of p s k w.operation) task a (cell array coord) idx i w.number w.cell within reads;
  arrays = λ p k task d s h t there. read_array p s k (op_of p k) (fit_of p s k h) task d t there;
}
