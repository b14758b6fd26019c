use Rattle.std.proofs.lemmas.List.Elements.{All-push}
use Rattle.cu_expr.specs.Premises.{HasGrid}
use Rattle.cu_expr.specs.declared.inputs.InputInfo.{InputInfo}
use Rattle.cu_op.specs.Layout.{IsLayout}
use Rattle.test_rows.proofs.typing.inputs_of.Goals as goal

pub loop-value-preserved : goal.loop-value-preserved
loop-value-preserved c =
    rw c.in_ok-push.ensures.items (
      All-push (λ (i : InputInfo). HasGrid i.layout) c.loop-value.inputs.items c.in_ok-input_of.field-0 c.loop-value.invariant.0 c.in_ok-input_of.ensures.grid,
      All-push (λ (i : InputInfo). IsLayout i.layout) c.loop-value.inputs.items c.in_ok-input_of.field-0 c.loop-value.invariant.1 c.in_ok-input_of.ensures.fill,
    )
