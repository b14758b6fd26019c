use Rattle.cu_op.proofs.Plans.{own_region}
use Rattle.cu_op.specs.PlanView.{op_of}
use Rattle.cu_run_law.proofs.Reading.{task_ready, ready_after}
use Rattle.cu_run_law.proofs.laws.task_law.Goals as goal

pub returns : goal.returns
returns c = record {
  ready = λ r env shown k task left operation number.
      task_ready c.range_law.ensures.values r env shown left k task operation (own_region r.plan.arrays (op_of r.plan k) task number);
  after = λ r env shown k task before left operation number.
      ready_after c.range_law.ensures.values r env shown left k task operation (own_region r.plan.arrays (op_of r.plan k) task number) before;
}
