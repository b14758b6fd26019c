-- What a set of texts has after one more.
use Rattle.std.proofs.Common.{◌≡◌, ℕ, Bool, true, false, ◌||◌, List, String, string_bytes, bytes_eq, cond, refl, ◌∙◌}
use Rattle.std.specs.declared.alloc.Global.{Global}
use Rattle.std.specs.HashSet.{HashSet, Updates, contains_text}
use Rattle.std.specs.String.{string_eq}
use Rattle.std.proofs.lemmas.Map.Text.{hash_set_updates_text}

or_turned : (a b : Bool) → cond a true b ≡ (b || a)
or_turned true true = refl
or_turned true false = refl
or_turned false true = refl
or_turned false false = refl

-- a set has what it had, and the text that is put in
pub inserted : {S : Type 0} (old new : HashSet (String Global) S) (text : String Global) → Updates string_eq old new text true
    → (key : List ℕ) → contains_text new key ≡ (contains_text old key || bytes_eq (string_bytes text) key)
inserted old new text puts key =
    hash_set_updates_text (string_bytes text) old new true puts key ∙ or_turned (bytes_eq (string_bytes text) key) (contains_text old key)
