use Rattle.std.proofs.Common.{◌≡◌, drop}
use Rattle.serde_json.specs.View.{items_view}
use Rattle.cu_json.specs.Form.{each_item}
use Rattle.cu_meta.specs.Members.{is_text_or_null}
use Rattle.cu_meta.proofs.members.are_texts_or_nulls.Given as goal

-- what is left decides
abbrev pub invariant-loop-item : goal.invariant-loop-item
invariant-loop-item l = each_item is_text_or_null (items_view l.item-items) ≡ each_item is_text_or_null (items_view (drop l.item-index l.item-items))
