-- The rows of operators that move elements (Python array API, "Manipulation Functions", "Indexing"; `tril` and `triu` of
-- "Creation Functions"; `rechunk` is this project's own).
use Rattle.std.specs.Prelude.{ℕ, ◌+◌, Bool, true, false, List, codes, bytes_eq, None, Result, Ok, Err, if◌then◌else◌, ◌≡◌}
use Rattle.serde_json.specs.Data.{Data}
use Rattle.cu_form.specs.declared.form.Form.{Form}
use Rattle.cu_result.specs.Results.{◌>>=◌}
use Rattle.cu_read.specs.Args.{args_in, HasArgs}
use Rattle.cu_read.specs.Lists.{entries_of}
use Rattle.cu_read.specs.IndexItem.{index_item_of}
use Rattle.cu_read.specs.Members.{integer_of, integers_of, sizes_of, chunk_sizes_of, or_null, present, IsObjectOf, Has, MayHave}
use Rattle.cu_read.specs.Rows.{has_members, required, optional}
use Rattle.cu_read.specs.declared.faults.NodeCode.{NodeCode}

abbrev pub triangle_name : Bool → List ℕ
triangle_name lower = if lower then codes "tril" else codes "triu"

-- A node with this operator says this form: it has exactly the members of the operator's row, and these are the form's.
abbrev pub SaysView : List (List ℕ) → List ℕ → Data → Form → Type 0
SaysView ids op d (Form.Triangle lower args k) = (op ≡ triangle_name lower) × IsObjectOf 4 d × Has integer_of (codes "k") d k × HasArgs ids d args
SaysView ids op d (Form.Index args items) = (op ≡ codes "index") × IsObjectOf 4 d × Has (entries_of index_item_of) (codes "index") d items × HasArgs ids d args
SaysView ids op d (Form.Concat args axis) = (op ≡ codes "concat") × IsObjectOf 4 d × Has integer_of (codes "axis") d axis × HasArgs ids d args
SaysView ids op d (Form.Stack args axis) = (op ≡ codes "stack") × IsObjectOf 4 d × Has integer_of (codes "axis") d axis × HasArgs ids d args
SaysView ids op d (Form.PermuteDims args axes) = (op ≡ codes "permute_dims") × IsObjectOf 4 d × Has integers_of (codes "axes") d axes × HasArgs ids d args
SaysView ids op d (Form.Flip args axes) = (op ≡ codes "flip") × IsObjectOf (3 + present (codes "axes") d) d
    × MayHave None (or_null integers_of) (codes "axes") d axes × HasArgs ids d args
SaysView ids op d (Form.Roll args shifts axes) = (op ≡ codes "roll") × IsObjectOf 5 d × Has integers_of (codes "shifts") d shifts
    × Has integers_of (codes "axes") d axes × HasArgs ids d args
SaysView ids op d (Form.BroadcastTo args shape chunk) = (op ≡ codes "broadcast_to") × IsObjectOf 5 d × Has sizes_of (codes "shape") d shape
    × Has chunk_sizes_of (codes "chunk") d chunk × HasArgs ids d args
SaysView ids op d (Form.Rechunk args chunk) = (op ≡ codes "rechunk") × IsObjectOf 4 d × Has chunk_sizes_of (codes "chunk") d chunk × HasArgs ids d args
SaysView ids op d form = ⊥

abbrev pub triangle_in : Bool → List (List ℕ) → Data → Result Form NodeCode
triangle_in lower ids d = do
  _ ← has_members 4 d
  k ← required integer_of (codes "k") d
  args ← args_in ids d
  Ok (Form.Triangle lower args k)

abbrev pub index_in : List (List ℕ) → Data → Result Form NodeCode
index_in ids d = do
  _ ← has_members 4 d
  items ← required (entries_of index_item_of) (codes "index") d
  args ← args_in ids d
  Ok (Form.Index args items)

abbrev pub concat_in : List (List ℕ) → Data → Result Form NodeCode
concat_in ids d = do
  _ ← has_members 4 d
  axis ← required integer_of (codes "axis") d
  args ← args_in ids d
  Ok (Form.Concat args axis)

abbrev pub stack_in : List (List ℕ) → Data → Result Form NodeCode
stack_in ids d = do
  _ ← has_members 4 d
  axis ← required integer_of (codes "axis") d
  args ← args_in ids d
  Ok (Form.Stack args axis)

abbrev pub permute_dims_in : List (List ℕ) → Data → Result Form NodeCode
permute_dims_in ids d = do
  _ ← has_members 4 d
  axes ← required integers_of (codes "axes") d
  args ← args_in ids d
  Ok (Form.PermuteDims args axes)

abbrev pub flip_in : List (List ℕ) → Data → Result Form NodeCode
flip_in ids d = do
  _ ← has_members (3 + present (codes "axes") d) d
  axes ← optional None (or_null integers_of) (codes "axes") d
  args ← args_in ids d
  Ok (Form.Flip args axes)

abbrev pub roll_in : List (List ℕ) → Data → Result Form NodeCode
roll_in ids d = do
  _ ← has_members 5 d
  shifts ← required integers_of (codes "shifts") d
  axes ← required integers_of (codes "axes") d
  args ← args_in ids d
  Ok (Form.Roll args shifts axes)

abbrev pub broadcast_to_in : List (List ℕ) → Data → Result Form NodeCode
broadcast_to_in ids d = do
  _ ← has_members 5 d
  shape ← required sizes_of (codes "shape") d
  chunk ← required chunk_sizes_of (codes "chunk") d
  args ← args_in ids d
  Ok (Form.BroadcastTo args shape chunk)

abbrev pub rechunk_in : List (List ℕ) → Data → Result Form NodeCode
rechunk_in ids d = do
  _ ← has_members 4 d
  chunk ← required chunk_sizes_of (codes "chunk") d
  args ← args_in ids d
  Ok (Form.Rechunk args chunk)

-- the row of an operator of this family
abbrev pub view_row : List ℕ → List (List ℕ) → Data → Result Form NodeCode
view_row op ids d =
    if bytes_eq op (codes "tril") then triangle_in true ids d
    else if bytes_eq op (codes "triu") then triangle_in false ids d
    else if bytes_eq op (codes "index") then index_in ids d
    else if bytes_eq op (codes "concat") then concat_in ids d
    else if bytes_eq op (codes "stack") then stack_in ids d
    else if bytes_eq op (codes "permute_dims") then permute_dims_in ids d
    else if bytes_eq op (codes "flip") then flip_in ids d
    else if bytes_eq op (codes "roll") then roll_in ids d
    else if bytes_eq op (codes "broadcast_to") then broadcast_to_in ids d
    else if bytes_eq op (codes "rechunk") then rechunk_in ids d
    else Err NodeCode.Unknown
