use Rattle.std.proofs.Common.{◌≡◌, [], length, drop}
use Rattle.serde_json.specs.View.{items_view}
use Rattle.cu_json.specs.Form.{naturals_after}
use Rattle.cu_meta_members.proofs.members.naturals.Given as goal

-- the numbers so far, and then what is left, are the whole
abbrev pub invariant-loop-item : goal.invariant-loop-item
invariant-loop-item l = record {
  whole : naturals_after [] (items_view l.item-items) ≡ naturals_after l.numbers.items (items_view (drop l.item-index l.item-items));
  count : length l.numbers.items ≡ l.item-index;
}
