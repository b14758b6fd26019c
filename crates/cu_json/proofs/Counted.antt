-- How many items and members a value has.
use Rattle.std.proofs.Common.{◌≡◌, ℕ, List, length, nat_eq, Some}
use Rattle.serde_json.specs.Data.{Data}
use Rattle.serde_json.specs.Find.{as_array, as_object}
use Rattle.serde_json.specs.View.{items_view, members_view}
use Rattle.serde_json.proofs.Views.{Entry, items_len-items_view, members_len-members_view}
use Rattle.serde_json.specs.declared.value.Value.{Value}
use Rattle.cu_json.specs.Form.{is_list_of, is_object_of}

pub list_counted : (d : Data) (items : List Value) (len count : ℕ) → Some (items_view items) ≡ as_array d → len ≡ length items → nat_eq len count ≡ is_list_of count d
list_counted d items len count found is_len = rw (← found, items_len-items_view, is_len)

pub object_counted : (d : Data) (members : List Entry) (len count : ℕ) → Some (members_view members) ≡ as_object d → len ≡ length members → nat_eq len count ≡ is_object_of count d
object_counted d members len count found is_len = rw (← found, members_len-members_view, is_len)
