use Rattle.std.proofs.Common.{◌≡◌, ◌+◌, ◌∷◌, ◌++◌, [], Some, drop, length, refl, sym, ◌∙◌, ap}
use Rattle.std.specs.Prelude.{slice_get}
use Rattle.std.specs.HashMap.{get_by_text}
use Rattle.std.proofs.lemmas.List.{drop_more, length_push}
use Rattle.std.proofs.lemmas.List.Elements.{All-push}
use Rattle.std.proofs.lemmas.Option.{slice_get_read}
use Rattle.cu_node.specs.Info.{IsInfo}
use Rattle.cu_expr.specs.Typing.{typed_after}
use Rattle.cu_expr.proofs.Typed.{told_stored_kept, typed_step, refused_along, answer_along}
use Rattle.cu_expr.proofs.typing.type_of.Goals as goal

at_index : (c : goal.After-deref) → slice_get c.args.expr.now.nodes c.loop-node.node-index ≡ Some c.node-item.result
at_index c =
    rw (← c.nodes-node-items.ensures.nodes) (slice_get_read c.nodes-node-items.result.now _ c.loop-node.node-index c.node-item.result refl c.loop-node-test.true c.node-item.is)

pub type_node-requires-clause-form : goal.type_node-requires-clause-form
type_node-requires-clause-form c =
    let number : length c.deref.result.now ≡ c.loop-node.node-index = ap length c.deref.ensures.value ∙ c.loop-node.invariant.count in
    let known = c.nodes-node-items.ensures.form in
    let own = known.nodes c.loop-node.node-index c.node-item.result (at_index c) in
    rw number own.form

pub type_node-requires-clause-short : goal.type_node-requires-clause-short
type_node-requires-clause-short c =
    let known = c.nodes-node-items.ensures.form in
    known.indices c.loop-node.node-index c.node-item.result (at_index c)

pub type_node-requires-clause-stored : goal.type_node-requires-clause-stored
type_node-requires-clause-stored c =
    told_stored_kept c.args.inputs.now (get_by_text c.in_ok-named.named) c.node-item.result.form c.in_ok-named.ensures c.requires

pub returns-in-Err-clause-answer : goal.returns-in-Err-clause-answer
returns-in-Err-clause-answer c =
    let infos = c.loop-node.infos.items in
    let node = c.node-item.result in
    let nodes = c.nodes-node-items.result.now in
    let k = c.loop-node.node-index in
    let rest : drop k nodes ≡ node ∷ drop (k + 1) nodes = drop_more nodes k node c.loop-node-test.true ∙ ap (λ n. n ∷ drop (k + 1) nodes) (sym c.node-item.is) in
    let told : c.deref.result.now ≡ infos = c.deref.ensures.value in
    let refused = refused_along c.args.inputs.now (get_by_text c.in_ok-named.named) c.deref.result.now infos node (drop (k + 1) nodes) c.in-Err.refused c.in_ok-named.ensures told c.in-Err.ensures.answer in
    let whole : typed_after c.args.inputs.now infos (node ∷ drop (k + 1) nodes) ≡ typed_after c.args.inputs.now [] c.args.expr.now.nodes =
    ap (λ ns. typed_after c.args.inputs.now infos ns) (sym rest) ∙ (c.loop-node.invariant.rest ∙ ap (λ ns. typed_after c.args.inputs.now [] ns) c.nodes-node-items.ensures.nodes) in
    answer_along _ _ c.in-Err.refused whole refused

pub loop-node-preserved : goal.loop-node-preserved
loop-node-preserved c =
    let infos = c.loop-node.infos.items in
    let info = c.in-Ok.info in
    let node = c.node-item.result in
    let nodes = c.nodes-node-items.result.now in
    let k = c.loop-node.node-index in
    let items : c.add_info.new.infos.items ≡ infos ++ info ∷ [] = c.in_ok-add_info-in-Ok.ensures in
    let rest : drop k nodes ≡ node ∷ drop (k + 1) nodes = drop_more nodes k node c.loop-node-test.true ∙ ap (λ n. n ∷ drop (k + 1) nodes) (sym c.node-item.is) in
    let told : c.deref.result.now ≡ infos = c.deref.ensures.value in
    let answer = rw told at c.in-Ok.ensures.answer in
    let step = typed_step c.args.inputs.now (get_by_text c.in_ok-named.named) infos node (drop (k + 1) nodes) info c.in_ok-named.ensures answer in
    record {
      count = rw items (length_push infos info ∙ ap (λ n. n + 1) c.loop-node.invariant.count);
      kept = rw items (All-push IsInfo infos info c.loop-node.invariant.kept c.in-Ok.ensures.kept);
      rest = rw items (step ∙ (ap (λ ns. typed_after c.args.inputs.now infos ns) (sym rest) ∙ c.loop-node.invariant.rest));
    }
