use Rattle.std.proofs.Common.{◌∙◌, sym}
use Rattle.std.specs.List.{flat_map}
use Rattle.cu_op.specs.Within.{is_listed}
use Rattle.cu_plan.specs.Text.{operation_line}
use Rattle.cu_plan.proofs.Listing.{lines_more, made_same}
use Rattle.cu_plan.proofs.text.text_of.Goals as goal
use Rattle.cu_plan.proofs.text.text_of.Goals.{then-is_listed+in_ok-push_operation, else-is_listed}

pub loop-op-preserved : goal.loop-op-preserved
loop-op-preserved c =
    let p = c.args.plan.now in
    let so_far = c.loop-op.text.items in
    elim c.if-is_listed.branch [
      | then-is_listed+in_ok-push_operation w ↦
          rw w.text-is (lines_more (operation_line p) (is_listed p) c.loop-op.op so_far w.push_operation.new.text.items c.loop-op.invariant (sym c.is_listed.ensures ∙ w.if-is_listed.true)
          w.in_ok-push_operation.ensures)
      | else-is_listed w ↦ rw w.text-is (made_same (flat_map (operation_line p)) (is_listed p) c.loop-op.op so_far c.loop-op.invariant (sym c.is_listed.ensures ∙ w.if-is_listed.false))
    ]
