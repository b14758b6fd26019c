-- A list of few enough numbers.
use Rattle.std.proofs.Common.{◌≡◌, ℕ, ◌≤◌, ◌<◌, List, [], length, false, nat_le, Some, None, refl, arith}
use Rattle.std.proofs.lemmas.Bool.{le-leb}
use Rattle.serde_json.specs.Data.{Data}
use Rattle.serde_json.specs.Find.{as_array}
use Rattle.serde_json.specs.View.{items_view}
use Rattle.serde_json.proofs.Views.{items_len-items_view}
use Rattle.serde_json.specs.declared.value.Value.{Value}
use Rattle.cu_json.specs.Form.{naturals_of, naturals_after}

pub few_enough : (d : Data) (items : List Value) → Some (items_view items) ≡ as_array d → length items ≤ 6 → naturals_after [] (items_view items) ≡ naturals_of 6 d
few_enough d items found few = rw (← found, items_len-items_view, le-leb _ _ few) refl

too_large : (m n : ℕ) → n < m → nat_le m n ≡ false
too_large m n h = grind arith

pub too_many : (d : Data) (items : List Value) → Some (items_view items) ≡ as_array d → 6 < length items → None ≡ naturals_of 6 d
too_many d items found many = rw (← found, items_len-items_view, too_large _ _ many) refl
