-- What the data of a JSON text (RFC 8259) may be asked for: a text, a number, a list, an object's members.
use Rattle.std.specs.Prelude.{ℕ, ◌&&◌, ◌==◌, nat_le, Bool, true, false, List, [], ◌∷◌, ◌++◌, bytes_eq, Option, Some, None, option_map, option_and_then, unwrap_or, if◌then◌else◌}
use Rattle.serde_json.specs.Data.{Data, Items, no_items, item, Members, no_members, member}
use Rattle.serde_json.specs.Events.{items_len, members_len}
use Rattle.serde_json.specs.Find.{as_str, as_array, as_object, as_number, as_u64}

-- the value is there, and is this text
abbrev pub is_text : List ℕ → Option Data → Bool
is_text text value = unwrap_or (option_map (λ found. bytes_eq found text) (option_and_then as_str value)) false

-- a whole number from 0 to 2^64 - 1, written with no point and no exponent
abbrev pub as_natural : Data → Option ℕ
as_natural d = option_and_then as_u64 (as_number d)

-- the value is there, and is this number
abbrev pub is_number : ℕ → Option Data → Bool
is_number n value = unwrap_or (option_map (λ m. m == n) (option_and_then as_natural value)) false

-- a list of n items
abbrev pub is_list_of : ℕ → Data → Bool
is_list_of n value = unwrap_or (option_map (λ items. items_len items == n) (as_array value)) false

-- an object of n members
abbrev pub is_object_of : ℕ → Data → Bool
is_object_of n value = unwrap_or (option_map (λ members. members_len members == n) (as_object value)) false

-- each item passes the test
abbrev pub each_item : (Data → Bool) → Items → Bool
each_item test no_items = true
each_item test (item d ds) = test d && each_item test ds

-- each member passes the test of its name and its value
abbrev pub each_member : (List ℕ → Data → Bool) → Members → Bool
each_member test no_members = true
each_member test (member k d ms) = test k d && each_member test ms

-- each member has this name
abbrev pub each_named : List ℕ → Members → Bool
each_named name ms = each_member (λ k d. bytes_eq k name) ms

-- the numbers in front, and then the items, where each is such a number
abbrev pub naturals_after : List ℕ → Items → Option (List ℕ)
naturals_after front no_items = Some front
naturals_after front (item d ds) = option_and_then (λ n. naturals_after (front ++ n ∷ []) ds) (as_natural d)

-- a list of at most `most` such numbers
abbrev pub naturals_of : ℕ → Data → Option (List ℕ)
naturals_of most d = option_and_then (λ ds. if nat_le (items_len ds) most then naturals_after [] ds else None) (as_array d)
