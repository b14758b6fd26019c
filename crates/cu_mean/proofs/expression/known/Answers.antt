use Rattle.std.proofs.Common.{◌≡◌, ◌∷◌, [], ◌++◌, List, length, All, take, sym, ap, ◌∙◌, subst, arith}
use Rattle.std.proofs.lemmas.List.{take_more, take_all}
use Rattle.std.proofs.lemmas.List.Elements.{All-push}
use Rattle.cu_expr.proofs.Nodes.{typed_count}
use Rattle.cu_node.specs.Info.{IsInfo, no_info}
use Rattle.cu_node.specs.declared.info.NodeInfo.{NodeInfo}
use Rattle.cu_mean.proofs.Found.{within, read_or}
use Rattle.cu_mean.proofs.expression.known.Goals as goal

pub at-requires : goal.at-requires
at-requires c =
    let count = typed_count c.requires.inputs c.args.expr.now.nodes c.args.types.now c.requires.types in
    let nodes : length c.nodes.result.now ≡ length c.args.expr.now.nodes = ap length c.nodes.ensures.nodes in
    omega arith

pub loop-number-preserved : goal.loop-number-preserved
loop-number-preserved c =
    let types = c.args.types.now in
    let n = c.loop-number.number in
    let info : NodeInfo = c.at.result.now in
    let old = c.loop-number.infos.items in
    let items : c.push.new.self.items ≡ old ++ info ∷ [] = c.in_ok-push.ensures.items in
    record {
      infos = items
          ∙ ap (λ (xs : List NodeInfo). xs ++ info ∷ []) c.loop-number.invariant.infos
          ∙ ap (λ (i : NodeInfo). take n types ++ i ∷ []) (sym (read_or types n info no_info c.at.ensures.value))
          ∙ sym (take_more types n no_info (within types n info c.at.ensures.value));
      kept = subst (λ (xs : List NodeInfo). All IsInfo xs) (sym items) (All-push IsInfo old info c.loop-number.invariant.kept c.at.ensures.kept);
    }

pub returns-clause-infos : goal.returns-clause-infos
returns-clause-infos c =
    let count = typed_count c.requires.inputs c.args.expr.now.nodes c.args.types.now c.requires.types in
    let nodes : length c.nodes.result.now ≡ length c.args.expr.now.nodes = ap length c.nodes.ensures.nodes in
    c.loop-number.invariant.infos ∙ take_all c.loop-number.number c.args.types.now (omega arith)
