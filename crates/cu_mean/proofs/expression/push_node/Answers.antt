use Rattle.std.proofs.Common.{◌≡◌, ◌<◌, List, Some, length, get_or, sym, ap, ◌∙◌, subst, arith}
use Rattle.std.specs.Prelude.{slice_get}
use Rattle.std.proofs.lemmas.Result.{on_ok_weaker}
use Rattle.cu_expr.proofs.Nodes.{typed_count}
use Rattle.cu_form.specs.declared.expr.Node.{Node}
use Rattle.cu_node.specs.Info.{info_at}
use Rattle.cu_node.specs.declared.info.NodeInfo.{NodeInfo}
use Rattle.cu_mean.specs.Going.{KeepType, AddsComputed}
use Rattle.cu_mean.specs.Node.{IsReadyNode}
use Rattle.cu_mean.proofs.Found.{found}
use Rattle.cu_mean.proofs.Going.{input_left, input_moved, computed_added, going_ready, going_keeps, known_at}
use Rattle.cu_mean.proofs.expression.push_node.Goals as goal

pub push_input-requires : goal.push_input-requires
push_input-requires c =
    let node : Node = get_or c.nodes.result.now c.args.number c.index-nodes-number.result in
    let lt : c.args.number < length c.nodes.result.now = omega (arith, ap length c.nodes.ensures.nodes) in
    let at : slice_get c.args.expr.now.nodes c.args.number ≡ Some node = subst (λ (ns : List Node). slice_get ns c.args.number ≡ Some node) c.nodes.ensures.nodes (found c.nodes.result.now c.args.number c.index-nodes-number.result lt) in
    input_left c.args.expr.now c.args.infos.now c.requires.going.0 c.args.number node c.args.rest.now.items c.args.plains.now.items at (sym c.is_input.ensures ∙ c.if-is_input.true) c.requires.going.1

pub returns-then-is_input : goal.returns-then-is_input
returns-then-is_input c inputs going =
    let node : Node = get_or c.nodes.result.now c.args.number c.index-nodes-number.result in
    let lt : c.args.number < length c.nodes.result.now = omega (arith, ap length c.nodes.ensures.nodes) in
    let at : slice_get c.args.expr.now.nodes c.args.number ≡ Some node = subst (λ (ns : List Node). slice_get ns c.args.number ≡ Some node) c.nodes.ensures.nodes (found c.nodes.result.now c.args.number c.index-nodes-number.result lt) in
    on_ok_weaker c.push_input.result
    (input_moved c.args.expr.now c.args.infos.now inputs c.args.number node c.args.rest.now.items c.args.plains.now.items c.push_input.new.rest.items c.push_input.new.plains.items at (sym c.is_input.ensures ∙ c.if-is_input.true) going)
    c.push_input.ensures

pub bounds-infos-number : goal.bounds-infos-number
bounds-infos-number c =
    let types = c.requires.going.1.given.types in
    let count = typed_count types.inputs c.args.expr.now.nodes c.args.infos.now types.types in
    let number = c.requires.number in
    omega arith

pub push_computed-requires-clause-ready : goal.push_computed-requires-clause-ready
push_computed-requires-clause-ready c =
    let node : Node = get_or c.nodes.result.now c.args.number c.index-nodes-number.result in
    let lt : c.args.number < length c.nodes.result.now = omega (arith, ap length c.nodes.ensures.nodes) in
    let at : slice_get c.args.expr.now.nodes c.args.number ≡ Some node = subst (λ (ns : List Node). slice_get ns c.args.number ≡ Some node) c.nodes.ensures.nodes (found c.nodes.result.now c.args.number c.index-nodes-number.result lt) in
    let info : c.index-infos-number.result ≡ info_at c.args.infos.now c.args.number = known_at c.args.expr.now c.args.infos.now c.args.number c.index-infos-number.result c.requires.going.1.given.types c.requires.number c.index-infos-number.is in
    subst (λ (i : NodeInfo). IsReadyNode node.form c.args.infos.now i c.args.plains.now.items) (sym info)
    (going_ready c.args.expr.now c.args.infos.now c.requires.going.0 c.args.number node c.args.rest.now.items c.args.plains.now.items at (sym c.is_input.ensures ∙ c.if-is_input.false) c.requires.going.1)

pub push_computed-requires-clause-keeps : goal.push_computed-requires-clause-keeps
push_computed-requires-clause-keeps c =
    let node : Node = get_or c.nodes.result.now c.args.number c.index-nodes-number.result in
    let lt : c.args.number < length c.nodes.result.now = omega (arith, ap length c.nodes.ensures.nodes) in
    let at : slice_get c.args.expr.now.nodes c.args.number ≡ Some node = subst (λ (ns : List Node). slice_get ns c.args.number ≡ Some node) c.nodes.ensures.nodes (found c.nodes.result.now c.args.number c.index-nodes-number.result lt) in
    let info : c.index-infos-number.result ≡ info_at c.args.infos.now c.args.number = known_at c.args.expr.now c.args.infos.now c.args.number c.index-infos-number.result c.requires.going.1.given.types c.requires.number c.index-infos-number.is in
    subst (λ (i : NodeInfo). KeepType node.form c.args.infos.now i c.args.plains.now.items) (sym info)
    (going_keeps c.args.expr.now c.args.infos.now c.requires.going.0 c.args.number node c.args.rest.now.items c.args.plains.now.items at c.requires.going.1)

pub returns : goal.returns
returns c inputs going =
    let node : Node = get_or c.nodes.result.now c.args.number c.index-nodes-number.result in
    let lt : c.args.number < length c.nodes.result.now = omega (arith, ap length c.nodes.ensures.nodes) in
    let at : slice_get c.args.expr.now.nodes c.args.number ≡ Some node = subst (λ (ns : List Node). slice_get ns c.args.number ≡ Some node) c.nodes.ensures.nodes (found c.nodes.result.now c.args.number c.index-nodes-number.result lt) in
    let info : c.index-infos-number.result ≡ info_at c.args.infos.now c.args.number = known_at c.args.expr.now c.args.infos.now c.args.number c.index-infos-number.result c.requires.going.1.given.types c.requires.number c.index-infos-number.is in
    on_ok_weaker c.push_computed.result
    (λ adds. computed_added c.args.expr.now c.args.infos.now inputs c.args.number node c.args.rest.now.items c.args.plains.now.items c.push_computed.new.plains.items at (sym c.is_input.ensures ∙ c.if-is_input.false) going
    (subst (λ (i : NodeInfo). AddsComputed node.form c.args.infos.now i c.args.plains.now.items c.push_computed.new.plains.items) info adds))
    c.push_computed.ensures
