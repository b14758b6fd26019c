-- The entries of an index (Python array API, "Indexing"; the texts are this project's own form).
use Rattle.std.specs.Prelude.{ℕ, ◌+◌, ℤ, List, codes, bytes_eq, Option, Some, None, option_map, option_and_then, if◌then◌else◌}
use Rattle.std.specs.Option.{option_or}
use Rattle.serde_json.specs.Data.{Data}
use Rattle.serde_json.specs.Find.{as_str}
use Rattle.cu_json.specs.Form.{is_object_of}
use Rattle.cu_node.specs.declared.index_item.IndexItem.{IndexItem}
use Rattle.cu_result.specs.Options.{◌>>=◌, when}
use Rattle.cu_read.specs.Members.{integer_of, member_or, or_null, present}

-- a text stands for a new axis, or for the axes that no entry takes
abbrev pub index_word : List ℕ → Option IndexItem
index_word text =
    if bytes_eq text (codes "new") then Some IndexItem.New
    else if bytes_eq text (codes "...") then Some IndexItem.Ellipsis
    else None

-- a bound or the step of a slice, which may be absent or null
abbrev pub slice_part : List ℕ → Data → Option (Option ℤ)
slice_part name d = member_or None (or_null integer_of) name d

-- an object with no other members than these three
abbrev pub slice_of : Data → Option IndexItem
slice_of d = do
  _ ← when (is_object_of (present (codes "start") d + present (codes "stop") d + present (codes "step") d) d)
  start ← slice_part (codes "start") d
  stop ← slice_part (codes "stop") d
  step ← slice_part (codes "step") d
  Some (IndexItem.Slice start stop step)

abbrev pub index_item_of : Data → Option IndexItem
index_item_of d = option_or (option_map IndexItem.At (integer_of d)) (option_or (option_and_then index_word (as_str d)) (slice_of d))
