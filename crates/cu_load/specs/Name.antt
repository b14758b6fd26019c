-- The names of arrays and the ids of nodes as they stand in a JSON value. This project's own rule.
use Rattle.std.specs.Prelude.{ℕ, List, Option, Some}
use Rattle.serde_json.specs.Data.{Data}
use Rattle.serde_json.specs.Find.{as_str}
use Rattle.cu_name.specs.Name.{is_name}
use Rattle.cu_result.specs.Options.{◌>>=◌, when}

-- the value is there, and is a text that is a name
abbrev pub name_in : Option Data → Option (List ℕ)
name_in value = do
  text ← value >>= as_str
  _ ← when (is_name text)
  Some text
