use Rattle.std.proofs.Common.{◌≡◌, ◌+◌, ◌++◌, ◌∷◌, List, length, drop, [], sym, ap, ◌∙◌, arith, length-append}
use Rattle.serde_json.specs.View.{items_view}
use Rattle.serde_json.specs.declared.value.Value.{Value}
use Rattle.cu_form.specs.declared.expr.Node.{Node}
use Rattle.cu_read.specs.Read.{nodes_after}
use Rattle.cu_read.proofs.NodesRead.{go_on, stop_at, ids_pushed, are_nodes, added, all_said}
use Rattle.cu_read.proofs.nodes.nodes_in.Goals as goal

pub returns-in-Err-clause-nodes : goal.returns-in-Err-clause-nodes
returns-in-Err-clause-nodes c =
    stop_at c.deref-item-items.result.now c.loop-item.item-index c.item-item.result c.loop-item.nodes.list.items c.loop-item.nodes.ids c.in-Err.refused
    (nodes_after [] (items_view c.args.items.now.items)) (omega arith) c.item-item.is c.loop-item.invariant.ids
    (ap (λ (vs : List Value). nodes_after [] (items_view vs)) (sym c.deref-item-items.ensures.value) ∙ c.loop-item.invariant.whole) c.in-Err.ensures.node

pub loop-item-preserved : goal.loop-item-preserved
loop-item-preserved c =
    let list : c.add.new.self.list.items ≡ c.loop-item.nodes.list.items ++ c.in-Ok.node ∷ [] = added c.add.result c.is_err.result _ c.is_err.ensures.value c.if-is_err.false c.add.ensures.list in
    let names : c.add.new.self.ids ≡ c.loop-item.nodes.ids ++ c.in-Ok.node.name ∷ [] = added c.add.result c.is_err.result _ c.is_err.ensures.value c.if-is_err.false c.add.ensures.ids in
    record {
      whole = go_on c.deref-item-items.result.now c.loop-item.item-index c.item-item.result c.loop-item.nodes.list.items c.loop-item.nodes.ids c.in-Ok.node
          (nodes_after [] (items_view c.deref-item-items.result.now)) (omega arith) c.item-item.is c.loop-item.invariant.ids c.loop-item.invariant.whole c.in-Ok.ensures.node
          ∙ ap (λ (ns : List Node). nodes_after ns (items_view (drop (c.loop-item.item-index + 1) c.deref-item-items.result.now))) (sym list);
      ids = ids_pushed c.loop-item.nodes.list.items c.add.new.self.list.items c.loop-item.nodes.ids c.add.new.self.ids c.in-Ok.node c.loop-item.invariant.ids list names;
      count = omega (arith, ap length list, length-append c.loop-item.nodes.list.items (c.in-Ok.node ∷ []), c.loop-item.invariant.count);
    }

pub returns-clause-good : goal.returns-clause-good
returns-clause-good c =
    are_nodes c.deref-item-items.result.now c.loop-item.nodes.list.items (omega (arith, ap length c.deref-item-items.ensures.value))
    (all_said c.deref-item-items.result.now c.loop-item.item-index c.loop-item.nodes.list.items (omega arith) c.loop-item.invariant.whole)

pub returns-then-is_err : goal.returns-then-is_err
returns-then-is_err c = record { nodes = tt; ids = tt; good = tt }

pub returns-in-Err-clause-ids : goal.returns-in-Err-clause-ids
returns-in-Err-clause-ids c = tt

pub returns-in-Err-clause-good : goal.returns-in-Err-clause-good
returns-in-Err-clause-good c = tt

pub returns-clause-ids : goal.returns-clause-ids
returns-clause-ids c = c.loop-item.invariant.ids

pub returns-clause-nodes : goal.returns-clause-nodes
returns-clause-nodes c =
    ap (λ (vs : List Value). nodes_after [] (items_view vs)) (sym c.deref-item-items.ensures.value)
    ∙ all_said c.deref-item-items.result.now c.loop-item.item-index c.loop-item.nodes.list.items c.loop-item-test.false c.loop-item.invariant.whole
