use Rattle.cu_op.specs.Schedule.{op_of}
use Rattle.cu_op.proofs.TaskCells.{fit_of, some_task, one_task, written_cell, maker_of, number_of, task_for, written_once, read_once}
use Rattle.cu_op.proofs.laws.task_law.Goals as goal

pub returns : goal.returns
returns c = record {
  some = λ p a coord s. some_task p s a coord;
  only = λ p k task l other a coord s. one_task p s k task l other a coord;
  cell = λ p k task a coord s. written_cell p s k task a coord;
  maker = λ p k task a coord s. maker_of p s k task a coord;
  number = λ p k task a coord s. number_of p s k task a coord;
  at = λ p k a coord s. task_for p s k a coord;
  outputs = λ p k task s h t. written_once p s k (op_of p k) (fit_of p s k h) task t;
  inputs = λ p k task s h t. read_once p s k (op_of p k) (fit_of p s k h) task t;
}
