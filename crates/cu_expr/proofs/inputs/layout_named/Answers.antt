use Rattle.cu_expr.proofs.NamedLayouts.{same_when, other_when, from_place, layout_found, layout_passed}
use Rattle.cu_expr.proofs.inputs.layout_named.Goals as goal

pub returns-then-is : goal.returns-then-is
returns-then-is c =
    let i = c.input-item.result in
    let rest = from_place c.args.inputs.now c.loop-input.input-index i c.loop-input-test.true c.input-item.is in
    layout_found c.args.inputs.now c.args.name.now c.loop-input.input-index i rest c.loop-input.invariant (same_when c.is.result c.args.name.now i.name c.is.ensures c.if-is.true)

pub loop-input-preserved : goal.loop-input-preserved
loop-input-preserved c =
    let i = c.input-item.result in
    let rest = from_place c.args.inputs.now c.loop-input.input-index i c.loop-input-test.true c.input-item.is in
    layout_passed c.args.inputs.now c.args.name.now c.loop-input.input-index i rest c.loop-input.invariant (other_when c.is.result c.args.name.now i.name c.is.ensures c.if-is.false)
