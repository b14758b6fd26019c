-- The rows of inputs and of arrays that are made from nothing (Python array API, "Creation Functions"), first as a relation.
use Rattle.std.specs.Prelude.{ℕ, List, codes, bytes_eq, Result, Ok, Err, if◌then◌else◌, ◌≡◌}
use Rattle.serde_json.specs.Data.{Data}
use Rattle.cu_node.specs.NewShape.{is_size}
use Rattle.cu_form.specs.declared.form.Form.{Form}
use Rattle.cu_result.specs.Results.{◌>>=◌}
use Rattle.cu_read.specs.Members.{integer_of, literal_of, natural_of, dtype_of, name_of, sizes_of, chunk_sizes_of, IsObjectOf, Has}
use Rattle.cu_read.specs.Rows.{has_members, required}
use Rattle.cu_read.specs.declared.faults.NodeCode.{NodeCode}

-- A node with this operator says this form: it has exactly the members of the operator's row, and these are the form's.
abbrev pub SaysCreation : List ℕ → Data → Form → Type 0
SaysCreation op d (Form.Input name) = (op ≡ codes "input") × IsObjectOf 3 d × Has name_of (codes "name") d name
SaysCreation op d (Form.Full shape dtype value chunk) = (op ≡ codes "full") × IsObjectOf 6 d × Has sizes_of (codes "shape") d shape
    × Has dtype_of (codes "dtype") d dtype × Has literal_of (codes "value") d value × Has chunk_sizes_of (codes "chunk") d chunk
SaysCreation op d (Form.Arange start stop step dtype chunk) = (op ≡ codes "arange") × IsObjectOf 7 d × Has integer_of (codes "start") d start
    × Has integer_of (codes "stop") d stop × Has integer_of (codes "step") d step × Has dtype_of (codes "dtype") d dtype × Has chunk_sizes_of (codes "chunk") d chunk
SaysCreation op d (Form.Eye rows cols k dtype chunk) = (op ≡ codes "eye") × IsObjectOf 7 d × Has (natural_of is_size) (codes "rows") d rows
    × Has (natural_of is_size) (codes "cols") d cols × Has integer_of (codes "k") d k × Has dtype_of (codes "dtype") d dtype × Has chunk_sizes_of (codes "chunk") d chunk
SaysCreation op d form = ⊥

abbrev pub input_in : Data → Result Form NodeCode
input_in d = do
  _ ← has_members 3 d
  name ← required name_of (codes "name") d
  Ok (Form.Input name)

abbrev pub full_in : Data → Result Form NodeCode
full_in d = do
  _ ← has_members 6 d
  shape ← required sizes_of (codes "shape") d
  dtype ← required dtype_of (codes "dtype") d
  value ← required literal_of (codes "value") d
  chunk ← required chunk_sizes_of (codes "chunk") d
  Ok (Form.Full shape dtype value chunk)

abbrev pub arange_in : Data → Result Form NodeCode
arange_in d = do
  _ ← has_members 7 d
  start ← required integer_of (codes "start") d
  stop ← required integer_of (codes "stop") d
  step ← required integer_of (codes "step") d
  dtype ← required dtype_of (codes "dtype") d
  chunk ← required chunk_sizes_of (codes "chunk") d
  Ok (Form.Arange start stop step dtype chunk)

abbrev pub eye_in : Data → Result Form NodeCode
eye_in d = do
  _ ← has_members 7 d
  rows ← required (natural_of is_size) (codes "rows") d
  cols ← required (natural_of is_size) (codes "cols") d
  k ← required integer_of (codes "k") d
  dtype ← required dtype_of (codes "dtype") d
  chunk ← required chunk_sizes_of (codes "chunk") d
  Ok (Form.Eye rows cols k dtype chunk)

-- the row of an operator of this family
abbrev pub creation_row : List ℕ → Data → Result Form NodeCode
creation_row op d =
    if bytes_eq op (codes "input") then input_in d
    else if bytes_eq op (codes "full") then full_in d
    else if bytes_eq op (codes "arange") then arange_in d
    else if bytes_eq op (codes "eye") then eye_in d
    else Err NodeCode.Unknown
