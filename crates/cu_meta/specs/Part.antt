-- A part of an array's metadata that is named (Zarr v3 core, "Extension definitions"; a bare name where nothing has to be set).
use Rattle.std.specs.Prelude.{ℕ, ◌&&◌, ◌||◌, ◌==◌, Bool, true, false, List, codes, bytes_eq, is_some, Option, option_map, option_and_then, unwrap_or}
use Rattle.std.specs.Option.{option_or}
use Rattle.serde_json.specs.Data.{Data}
use Rattle.serde_json.specs.Find.{get, as_str, as_bool, as_object}
use Rattle.serde_json.specs.Events.{members_len}
use Rattle.cu_json.specs.Form.{each_member, each_named}

-- a member that an object which names a part may hold
abbrev pub is_part_member : List ℕ → Data → Bool
is_part_member k d = (bytes_eq k (codes "name") && is_some (as_str d)) || (bytes_eq k (codes "configuration") && is_some (as_object d))
    || (bytes_eq k (codes "must_understand") && is_some (as_bool d))

-- a bare name, or an object of such members
abbrev pub is_part : Data → Bool
is_part d = is_some (as_str d) || unwrap_or (option_map (each_member is_part_member) (as_object d)) false

-- the name
abbrev pub part_name : Data → Option (List ℕ)
part_name d = option_or (as_str d) (option_and_then as_str (get (codes "name") d))

-- the part has this name
abbrev pub has_name : List ℕ → Data → Bool
has_name name d = unwrap_or (option_map (λ found. bytes_eq found name) (part_name d)) false

-- a member of the configuration
abbrev pub configuration_member : List ℕ → Data → Option Data
configuration_member k d = option_and_then (get k) (get (codes "configuration") d)

-- the configuration, where there is one, has no other member than this one
abbrev pub sets_at_most : List ℕ → Data → Bool
sets_at_most k d = unwrap_or (option_map (each_named k) (option_and_then as_object (get (codes "configuration") d))) true

-- the configuration, where there is one, is empty
abbrev pub sets_nothing : Data → Bool
sets_nothing d = unwrap_or (option_map (λ ms. members_len ms == 0) (option_and_then as_object (get (codes "configuration") d))) true

-- a part of this name that sets at most this one member
abbrev pub is_part_of : List ℕ → List ℕ → Data → Bool
is_part_of name k d = is_part d && has_name name d && sets_at_most k d
