-- The items of a JSON list (RFC 8259), each as an entry.
use Rattle.std.specs.Prelude.{List, [], ◌∷◌, ◌++◌, Option, Some, option_and_then}
use Rattle.serde_json.specs.Data.{Data, Items, no_items, item}
use Rattle.serde_json.specs.Find.{as_array}

-- the entries in front, and then the items, where each is an entry
abbrev pub entries_after : {A : Type 0} → (Data → Option A) → List A → Items → Option (List A)
entries_after entry front no_items = Some front
entries_after entry front (item d ds) = option_and_then (λ x. entries_after entry (front ++ x ∷ []) ds) (entry d)

-- a list, each item of which is an entry
abbrev pub entries_of : {A : Type 0} → (Data → Option A) → Data → Option (List A)
entries_of entry d = option_and_then (entries_after entry []) (as_array d)
