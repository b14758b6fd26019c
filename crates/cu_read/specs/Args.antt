-- The arguments of a node: ids of earlier nodes, numbers and truth values (this project's own form).
use Rattle.std.specs.Prelude.{ℕ, List, [], codes, bytes_eq, Option, option_map, Result}
use Rattle.std.specs.Option.{option_or}
use Rattle.std.specs.List.{position_or_len}
use Rattle.serde_json.specs.Data.{Data}
use Rattle.serde_json.specs.Find.{as_str, as_array}
use Rattle.cu_form.specs.declared.args.Arg.{Arg}
use Rattle.cu_node.specs.declared.literal.Literal.{Literal}
use Rattle.cu_result.specs.Results.{◌>>=◌, need}
use Rattle.cu_read.specs.Lists.{entries_after, entries_of}
use Rattle.cu_read.specs.Members.{literal_of, Has}
use Rattle.cu_read.specs.Rows.{required}
use Rattle.cu_read.specs.declared.faults.NodeCode.{NodeCode}

-- the number of the node with this id, of those so far; where none has it, the number of the next node, which is no earlier one
abbrev pub node_named : List (List ℕ) → List ℕ → ℕ
node_named ids id = position_or_len (bytes_eq id) ids

abbrev pub written_arg : Literal → Arg
written_arg (Literal.Int x) = Arg.Int x
written_arg (Literal.Truth b) = Arg.Truth b

-- a text stands for the node with this id
abbrev pub arg_of : List (List ℕ) → Data → Option Arg
arg_of ids d = option_or (option_map (λ id. Arg.Node (node_named ids id)) (as_str d)) (option_map written_arg (literal_of d))

-- The member `args`. That it isn't a list is a fault of the node's form.
abbrev pub args_in : List (List ℕ) → Data → Result (List Arg) NodeCode
args_in ids d = do
  items ← required as_array (codes "args") d
  need (entries_after (arg_of ids) [] items) NodeCode.Args

-- the same as a relation
abbrev pub HasArgs : List (List ℕ) → Data → List Arg → Type 0
HasArgs ids d args = Has (entries_of (arg_of ids)) (codes "args") d args
