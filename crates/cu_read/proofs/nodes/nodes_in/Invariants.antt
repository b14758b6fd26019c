use Rattle.std.proofs.Common.{◌≡◌, [], length, drop}
use Rattle.serde_json.specs.View.{items_view}
use Rattle.cu_read.specs.Read.{ids_of, nodes_after}
use Rattle.cu_read.proofs.nodes.nodes_in.Given as goal

-- the nodes so far, and then what is left, are the whole
abbrev pub invariant-loop-item : goal.invariant-loop-item
invariant-loop-item l = record {
  whole : nodes_after [] (items_view l.item-items) ≡ nodes_after l.nodes.list.items (items_view (drop l.item-index l.item-items));
  ids : l.nodes.ids ≡ ids_of l.nodes.list.items;
  count : length l.nodes.list.items ≡ l.item-index;
}
