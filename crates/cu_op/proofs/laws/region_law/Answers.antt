use Rattle.cu_op.specs.PlanView.{op_of}
use Rattle.cu_op.proofs.Plans.{own_region}
use Rattle.cu_op.proofs.TaskCells.{made_cell, region_for, region_number, writes_of_stored}
use Rattle.cu_op.proofs.laws.region_law.Goals as goal

pub returns : goal.returns
returns c = record {
  at = λ p k a coord s. region_for p s k a coord;
  only = λ p k region a coord s w. ((made_cell p s k region a coord w).0, region_number p s k region a coord w);
  task = own_region;
  writes = λ p k task a coord w. record { operation = w.operation; number = own_region p.arrays (op_of p k) task w.number; cell = w.cell };
  stored = λ p k region a coord s. writes_of_stored p s k region a coord;
}
