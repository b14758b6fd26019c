use Rattle.std.proofs.Common.{◌≡◌, [], drop}
use Rattle.serde_json.specs.View.{items_view}
use Rattle.cu_load.specs.LoadForm.{elements_after}
use Rattle.cu_load.proofs.load_form.elements_in.Given as goal

-- the elements so far, and then what is left, are the whole
abbrev pub invariant-loop-item : goal.invariant-loop-item
invariant-loop-item l = elements_after l.dtype [] (items_view l.item-items) ≡ elements_after l.dtype l.elements.items (items_view (drop l.item-index l.item-items))
