use Rattle.cu_op.proofs.needs.+needs.Given as goal
use Rattle.cu_op.specs.Needs.{inner_ops, plan_over, IsNeedOf}
use Rattle.cu_op.specs.Operation.{reads_of}
use Rattle.cu_op.specs.PlanView.{op_of}
use Rattle.std.proofs.Common.{◌+◌, ◌*◌, ◌∷◌, take}
use Rattle.std.specs.List.{flat_map}

abbrev pub decreases-inner_needs : goal.decreases-inner_needs
decreases-inner_needs l = 2 * l.op

abbrev pub decreases-needs_within : goal.decreases-needs_within
decreases-needs_within l = 2 * l.op + 1

abbrev pub invariant-needs_within-loop-at : goal.invariant-needs_within-loop-at
invariant-needs_within-loop-at l =
    IsNeedOf l.arrays
    (op_of (plan_over l.arrays l.ops 0) l.op ∷ flat_map (inner_ops (plan_over l.arrays l.ops 0)) (take l.at (reads_of (op_of (plan_over l.arrays l.ops 0) l.op))))
    l.needs
