use Rattle.std.proofs.Common.{◌≡◌, [], drop}
use Rattle.serde_json.specs.View.{items_view}
use Rattle.cu_read.specs.Lists.{entries_after}
use Rattle.cu_read.specs.Members.{integer_of}
use Rattle.cu_read.proofs.lists.integers_in.Given as goal

-- the entries so far, and then what is left, are the whole
abbrev pub invariant-loop-item : goal.invariant-loop-item
invariant-loop-item l = entries_after integer_of [] (items_view l.item-items) ≡ entries_after integer_of l.integers.items (items_view (drop l.item-index l.item-items))
