use Rattle.cu_expr.proofs.NamedLayouts.{same_when, other_when, from_place}
use Rattle.cu_lower.proofs.InputNames.{place_found, place_passed}
use Rattle.cu_lower.proofs.inputs.place_of.Goals as goal

pub returns-then-is-clause-place : goal.returns-then-is-clause-place
returns-then-is-clause-place c =
    let x = c.index-names-k.result in
    let rest = from_place c.args.names.now c.loop-k.k x c.loop-k-test.true c.index-names-k.is in
    place_found c.args.names.now c.args.name.now c.loop-k.k x rest c.loop-k.invariant (same_when c.is.result c.args.name.now x c.is.ensures c.if-is.true)

pub loop-k-preserved : goal.loop-k-preserved
loop-k-preserved c =
    let x = c.index-names-k.result in
    let rest = from_place c.args.names.now c.loop-k.k x c.loop-k-test.true c.index-names-k.is in
    place_passed c.args.names.now c.args.name.now c.loop-k.k x rest c.loop-k.invariant (other_when c.is.result c.args.name.now x c.is.ensures c.if-is.false)
