use Rattle.std.proofs.Common.{◌≡◌, ◌*◌, ◌≤◌, take}
use Rattle.std.specs.Prelude.{sum_by}
use Rattle.cu_op.specs.Cells.{tasks_of}
use Rattle.cu_plan.proofs.sums.task_count.Given as goal

abbrev pub invariant-loop-op : goal.invariant-loop-op
invariant-loop-op l = record {
  sum : l.count ≡ sum_by (λ o. tasks_of l.plan.arrays o.op) (take l.op l.plan.ops);
  few : l.count ≤ 65536 * l.op;
}
