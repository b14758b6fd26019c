use Rattle.std.proofs.Common.{◌∙◌, sym}
use Rattle.std.specs.List.{flat_map}
use Rattle.cu_op.specs.Within.{is_listed}
use Rattle.cu_plan.specs.Text.{begun_line}
use Rattle.cu_plan.proofs.Listing.{lines_more, made_same}
use Rattle.cu_plan.proofs.text.begun_lines.Goals as goal
use Rattle.cu_plan.proofs.text.begun_lines.Goals.{then-is_listed+in_ok-push_begun, else-is_listed}

pub loop-op-preserved : goal.loop-op-preserved
loop-op-preserved c =
    let p = c.args.plan.now in
    let so_far = c.loop-op.text.items in
    elim c.if-is_listed.branch [
      | then-is_listed+in_ok-push_begun w ↦
          rw w.text-is (lines_more (begun_line p) (is_listed p) c.loop-op.op so_far w.push_begun.new.text.items c.loop-op.invariant (sym c.is_listed.ensures ∙ w.if-is_listed.true)
          w.in_ok-push_begun.ensures)
      | else-is_listed w ↦ rw w.text-is (made_same (flat_map (begun_line p)) (is_listed p) c.loop-op.op so_far c.loop-op.invariant (sym c.is_listed.ensures ∙ w.if-is_listed.false))
    ]
