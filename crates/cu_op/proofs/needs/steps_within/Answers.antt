use Rattle.cu_op.proofs.Depths.{ordered}
use Rattle.cu_op.proofs.Projections.{countable_within, over_within}
use Rattle.cu_op.proofs.needs.steps_within.Goals as goal
use Rattle.cu_op.specs.Needs.{plan_over, IsCountable, IsOrdered}
use Rattle.cu_op.specs.PlanView.{PlanView}
use Rattle.cu_op.specs.Projection.{instruction_count}
use Rattle.cu_op.specs.Within.{ops_within}
use Rattle.cu_op.specs.declared.layout.ArrayInfo.{ArrayInfo}
use Rattle.cu_op.specs.declared.operation.Planned.{Planned}
use Rattle.std.proofs.Common.{◌≡◌, List, ap, sym, ◌∙◌, subst}
use Rattle.std.specs.Prelude.{sum_by}

-- what holds of the arrays and the operations of a plan holds of lists that are these
of_parts : (P : List ArrayInfo → List Planned → Type 0) (p : PlanView) (arrays : List ArrayInfo)
    (ops : List Planned) → arrays ≡ p.arrays → ops ≡ p.ops → P p.arrays p.ops → P arrays ops
of_parts P p arrays ops a o h = subst (λ (os : List Planned). P arrays os) (sym o) (subst (λ (given : List ArrayInfo). P given p.ops) (sym a) h)

pub needs_within-requires-clause-ordered : goal.needs_within-requires-clause-ordered
needs_within-requires-clause-ordered c =
    let p = c.args.plan.now in
    of_parts IsOrdered p c.arrays.result.now c.ops.result.now c.arrays.ensures.arrays c.ops.ensures.ops (ordered p c.ops.ensures.sound)

pub needs_within-requires-clause-small : goal.needs_within-requires-clause-small
needs_within-requires-clause-small c =
    let p = c.args.plan.now in
    of_parts (λ arrays ops. IsCountable arrays (ops_within (plan_over arrays ops 0) c.args.op)) p c.arrays.result.now c.ops.result.now c.arrays.ensures.arrays c.ops.ensures.ops
    (countable_within p c.ops.ensures.sound c.args.op c.requires)

pub returns : goal.returns
returns c =
    let p = c.args.plan.now in
    c.needs_within.ensures.steps
    ∙ of_parts (λ arrays ops. sum_by instruction_count (ops_within (plan_over arrays ops 0) c.args.op) ≡ sum_by instruction_count (ops_within p c.args.op)) p c.arrays.result.now c.ops.result.now
    c.arrays.ensures.arrays c.ops.ensures.ops (ap (sum_by instruction_count) (over_within p c.args.op))
