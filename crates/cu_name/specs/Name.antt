-- The names of arrays and the ids of nodes. This project's own rule.
use Rattle.std.specs.Prelude.{◌≢◌, ℕ, ◌≤◌, nat_lt, nat_le, ◌&&◌, ◌||◌, ◌==◌, Bool, List, length, slice_index, All}
use Rattle.std.specs.List.{list_all}
use Rattle.std.specs.Char.{is_ascii_alphanumeric}

-- a letter, a digit, `_`, `-` or `.`
abbrev pub is_name_byte : ℕ → Bool
is_name_byte c = is_ascii_alphanumeric c || (c == 95) || (c == 45) || (c == 46)

-- the name of an array or the id of a node: 1 to 32 such bytes, a letter or digit first
abbrev pub is_name : List ℕ → Bool
is_name text = nat_lt 0 (length text) && nat_le (length text) 32 && is_ascii_alphanumeric (slice_index text 0) && list_all is_name_byte text

-- what keys rest on: the name has no slash, at most 32 bytes, and no underscore in front, with which the keys of records begin
pub record IsArrayName (name : List ℕ) : Type 0 where
  pub plain : All (λ b. b ≢ 47) name
  pub short : length name ≤ 32
  pub first : slice_index name 0 ≢ 95
