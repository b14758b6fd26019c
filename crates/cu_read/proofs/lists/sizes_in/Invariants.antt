use Rattle.std.proofs.Common.{◌≡◌, [], drop}
use Rattle.serde_json.specs.View.{items_view}
use Rattle.cu_read.specs.Lists.{entries_after}
use Rattle.cu_node.specs.NewShape.{is_size}
use Rattle.cu_read.specs.Members.{natural_of}
use Rattle.cu_read.proofs.lists.sizes_in.Given as goal

-- the entries so far, and then what is left, are the whole
abbrev pub invariant-loop-item : goal.invariant-loop-item
invariant-loop-item l = entries_after (natural_of is_size) [] (items_view l.item-items) ≡ entries_after (natural_of is_size) l.sizes.items (items_view (drop l.item-index l.item-items))
