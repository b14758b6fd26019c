-- An expression's text, or its first fault (this project's own form and order). The text is JSON (RFC 8259).
use Rattle.std.specs.Prelude.{◌≡◌, ℕ, ◌≤◌, Some, slice_get, nat_le, List, [], ◌∷◌, ◌++◌, map, length, codes, bytes_eq, Option, option_map, Result, Ok, Err}
use Rattle.std.specs.Str.{is_utf8}
use Rattle.std.specs.List.{position}
use Rattle.serde_json.specs.Data.{Data, Items, no_items, item}
use Rattle.serde_json.specs.Events.{items_len}
use Rattle.serde_json.specs.Find.{as_str, as_array}
use Rattle.serde_json.specs.Read.{read}
use Rattle.serde_json.specs.Written.{compact_text}
use Rattle.cu_json.specs.Form.{is_object_of}
use Rattle.cu_name.specs.Name.{is_name}
use Rattle.cu_form.specs.Expression.{Expression, IsNode, IdsDiffer}
use Rattle.cu_form.specs.declared.expr.Node.{Node}
use Rattle.cu_result.specs.Results.{◌>>=◌, check, need}
use Rattle.cu_read.specs.Faults.{node_code_number}
use Rattle.cu_read.specs.Members.{passing, member_of}
use Rattle.cu_read.specs.Node.{node_in}
use Rattle.cu_read.specs.declared.faults.NodeCode.{NodeCode}
use Rattle.cu_read.specs.declared.faults.ReadFault.{ReadFault}

-- a fault of the whole text, and of the node with this number
abbrev pub whole_fault : ℕ → ReadFault
whole_fault code = record { code = code; node = 0 }

abbrev pub fault_of_node : ℕ → NodeCode → ReadFault
fault_of_node number code = record { code = node_code_number code; node = number }

abbrev pub answer_at : ℕ → Result Node NodeCode → Result Node ReadFault
answer_at number (Ok node) = Ok node
answer_at number (Err code) = Err (fault_of_node number code)

-- the ids of the nodes, by their numbers
abbrev pub ids_of : List Node → List (List ℕ)
ids_of nodes = map (λ node. node.name) nodes

-- the nodes in front, and then those of the items
abbrev pub nodes_after : List Node → Items → Result (List Node) ReadFault
nodes_after front no_items = Ok front
nodes_after front (item d ds) = answer_at (length front) (node_in (ids_of front) d) >>= λ node. nodes_after (front ++ node ∷ []) ds

-- a member of the whole
abbrev pub top_member : {A : Type 0} → (Data → Option A) → List ℕ → Data → Result A ReadFault
top_member value name d = need (member_of value name d) (whole_fault 2)

-- what lies between the nodes and the end: the number of the node that is to be stored, and the name under which it is
abbrev pub expression_with : List Node → List (List ℕ) → List ℕ → List ℕ → Result Expression ReadFault
expression_with nodes ids out store_as = do
  number ← need (position (bytes_eq out) ids) (whole_fault 2)
  name ← need (passing is_name store_as) (whole_fault 2)
  Ok (record { nodes = nodes; out = number; store_as = name })

-- the nodes, of which there are at most 256, and which of them is stored
abbrev pub listed_in : Items → List ℕ → List ℕ → Result Expression ReadFault
listed_in items out store_as = do
  _ ← check (nat_le (items_len items) 256) (whole_fault 7)
  nodes ← nodes_after [] items
  expression_with nodes (ids_of nodes) out store_as

-- The expression that a value says, or its first fault: code 2 for another form of the whole, 7 for more than 256 nodes, the
-- first fault of a node, and last 2 for a node that is to be stored and isn't there, and for a name that isn't one.
abbrev pub expression_in : Data → Result Expression ReadFault
expression_in d = do
  _ ← check (is_object_of 3 d) (whole_fault 2)
  items ← top_member as_array (codes "nodes") d
  out ← top_member as_str (codes "out") d
  store_as ← top_member as_str (codes "store_as") d
  listed_in items out store_as

-- The expression that a text says. Before those faults come 7 for a text of more than 1048576 bytes, and 1 for one that is no
-- JSON value.
unfoldable pub expression_of : List ℕ → Result Expression ReadFault
expression_of text = do
  _ ← check (nat_le (length text) 1048576) (whole_fault 7)
  _ ← check (is_utf8 text) (whole_fault 1)
  d ← need (read text) (whole_fault 1)
  expression_in d

-- nodes that an expression may have
pub record AreNodes (list : List Node) : Type 0 where
  pub few : length list ≤ 256
  pub nodes : (k : ℕ) (node : Node) → slice_get list k ≡ Some node → IsNode k node
  pub ids : IdsDiffer list

-- the JSON value that the text says, written compactly: with no space, and with the members of each object in byte order
abbrev pub compact_of : List ℕ → Option (List ℕ)
compact_of text = option_map compact_text (read text)
