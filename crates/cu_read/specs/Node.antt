-- A node of an expression's text, or its first fault (this project's own form and order).
use Rattle.std.specs.Prelude.{ℕ, ◌&&◌, not, Bool, List, codes, bytes_eq, length, Option, Some, None, Result, Ok, Err}
use Rattle.std.specs.List.{list_any}
use Rattle.serde_json.specs.Data.{Data}
use Rattle.serde_json.specs.Find.{as_str}
use Rattle.cu_name.specs.Name.{is_name}
use Rattle.cu_form.specs.Form.{takes_args, names_earlier}
use Rattle.cu_form.specs.declared.expr.Node.{Node}
use Rattle.cu_form.specs.declared.form.Form.{Form}
use Rattle.cu_result.specs.Results.{◌>>=◌, check}
use Rattle.cu_read.specs.Creation.{creation_row}
use Rattle.cu_read.specs.Elementwise.{elementwise_row}
use Rattle.cu_read.specs.NewShape.{new_shape_row}
use Rattle.cu_read.specs.Reduction.{reduction_row}
use Rattle.cu_read.specs.Rows.{required}
use Rattle.cu_read.specs.View.{view_row}
use Rattle.cu_read.specs.declared.faults.NodeCode.{NodeCode}
use Rattle.cu_read.specs.declared.faults.NodeRefused.{NodeRefused}

-- the row, where its family has the operator
abbrev pub if_known : Result Form NodeRefused → Option (Result Form NodeRefused)
if_known (Err (NodeRefused.Code NodeCode.Unknown)) = None
if_known row = Some row

-- the next family's row, where this one has no such operator
abbrev pub or_row : Result Form NodeCode → Result Form NodeCode → Result Form NodeCode
or_row (Err NodeCode.Unknown) next = next
or_row row next = row

abbrev pub row_of : List ℕ → List (List ℕ) → Data → Result Form NodeCode
row_of op ids d =
    or_row (creation_row op d) (or_row (elementwise_row op ids d) (or_row (view_row op ids d) (or_row (reduction_row op ids d) (new_shape_row op ids d))))

-- an id that no node so far has
abbrev pub is_new_id : List (List ℕ) → List ℕ → Bool
is_new_id ids id = is_name id && not (list_any (bytes_eq id) ids)

-- The name of the node after those with these ids, where its arguments are the operator's, its id is new, and it names earlier nodes.
abbrev pub name_for : List (List ℕ) → List ℕ → Form → Result (List ℕ) NodeCode
name_for ids id form = do
  _ ← check (takes_args form) NodeCode.Args
  _ ← check (is_new_id ids id) NodeCode.Id
  _ ← check (names_earlier (length ids) form) NodeCode.Id
  Ok id

-- The node after those with these ids.
abbrev pub node_in : List (List ℕ) → Data → Result Node NodeCode
node_in ids d = do
  id ← required as_str (codes "id") d
  op ← required as_str (codes "op") d
  form ← row_of op ids d
  name ← name_for ids id form
  Ok (record { name = name; form = form })
