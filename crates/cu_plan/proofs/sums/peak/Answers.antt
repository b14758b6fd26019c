use Rattle.std.proofs.Common.{◌∙◌, ℕ, List, ap, map, max, sym}
use Rattle.cu_op.specs.PlanView.{operation_at}
use Rattle.cu_op.specs.Within.{is_listed}
use Rattle.cu_op.specs.declared.operation.Planned.{Planned}
use Rattle.cu_plan.proofs.Listing.{made_same, peak_more}
use Rattle.cu_plan.proofs.sums.peak.Goals as goal
use Rattle.cu_plan.proofs.sums.peak.Goals.{then-is_listed, else-is_listed}
use Rattle.cu_shape.specs.Counts.{largest}

pub loop-op-preserved : goal.loop-op-preserved
loop-op-preserved c =
    let p = c.args.plan.now in
    let need = λ (k : ℕ). (operation_at p.ops k).projected in
    elim c.if-is_listed.branch [
      | then-is_listed w ↦
          rw w.peak-is (peak_more need (is_listed p) c.loop-op.op c.loop-op.peak w.max-peak.result c.loop-op.invariant (sym c.is_listed.ensures ∙ w.if-is_listed.true)
          (w.max-peak.ensures ∙ ap (λ (o : Planned). max o.projected c.loop-op.peak) w.operation.ensures.operation))
      | else-is_listed w ↦
          rw w.peak-is (made_same (λ (ks : List ℕ). largest (map need ks)) (is_listed p) c.loop-op.op c.loop-op.peak c.loop-op.invariant (sym c.is_listed.ensures ∙ w.if-is_listed.false))
    ]
