use Rattle.std.proofs.Common.{◌≡◌, filter, map}
use Rattle.std.specs.List.{range_with_len}
use Rattle.cu_op.specs.PlanView.{operation_at}
use Rattle.cu_op.specs.Within.{is_listed}
use Rattle.cu_plan.proofs.sums.peak.Given as goal
use Rattle.cu_shape.specs.Counts.{largest}

abbrev pub invariant-loop-op : goal.invariant-loop-op
invariant-loop-op l = l.peak ≡ largest (map (λ k. (operation_at l.plan.ops k).projected) (filter (is_listed l.plan) (range_with_len 0 l.op)))
